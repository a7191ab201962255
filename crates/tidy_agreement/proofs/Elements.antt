-- The lines of elements from their records: each without its names by what `model_in` reads of it, and its names where they stand in the text. By its kind.
use Prim.Native.Nat.{ℕ, suc, ◌+◌, ◌-◌}
use mathlib.Core.Path.{◌≡◌, refl, sym, ap, ap₂, ◌∙◌, subst}
use mathlib.Core.List.{List, [], ◌∷◌, ◌++◌, map, append_assoc}
use mathlib.Core.Bool.{Bool, true, false, cond}
use native.Mathlib.Omega.{arith}
use lib.ListN.{length, drop}
use lib.Dec.{eqb}
use Rattle.references.specs.Corner.{Corner}
use Rattle.references.specs.Written.{written_whole, written_corner}
use Rattle.keywords.specs.Keywords.{keyword_of}
use Rattle.keywords.specs.Arguments.{argument_bytes}
use Rattle.keywords.specs.declared.Argument.TheVariants.{Rational, Bezier, Bspline, Cardinal, Taylor}
use Rattle.statements.specs.declared.Carried.TheVariants.{Smoothing}
use Rattle.tables.specs.Tables.{Tables}
use Rattle.tables.specs.Bodies.{bezier, bspline, cardinal, taylor, basis_of}
use Rattle.tables.specs.Records.{body_at, part_at, corner_place}
use Rattle.tables.specs.Asking.{asked_element}
use Rattle.tables.specs.declared.CornerRun.{CornerRun}
use Rattle.tables.specs.declared.Used.{Used}
use Rattle.tables.specs.declared.Element as records-element
use Rattle.tables.specs.declared.Body as records-body
use Rattle.model.specs.Model.{Names, Shape, point, line, face, Free, curve, curve2, surface, Loop, Kind, plain, free, Element}
use Rattle.model.specs.Statements.{loop, end}
use Rattle.model.specs.Statements as statements
use Rattle.model.specs.Layout.{run_of, listed, shape_number, free_number, kind_number, body_number}
use Rattle.model.specs.In.{each, model_corners, begun_in, kind_from}
use Rattle.model.proofs.Stands.{Among}
use Rattle.model.proofs.Placed.{NamesStand}
use Rattle.model.proofs.ElementRows.{laid_run, laid_element}
use Rattle.tidy_form.specs.declared.Weights.{Weights}
use Rattle.tidy_form.specs.Tidied.{group_lines, smoothing_lines, material_lines, element_lines, elements_lines}
use Rattle.tidy_form.specs.Printed as printing
use Rattle.tidy_form.specs.Printed.{printed}
use Rattle.tidy_form.proofs.Values.{map-append}
use Rattle.tidy_form.proofs.Good.{stays}
use Rattle.tidy_writer.specs.Rows as rows
use Rattle.tidy_writer.specs.Rows.{basis_argument, type_words, body_loops, end_line, own_lines}
use Rattle.tidy_writer.specs.TidyFrom.{smoothed, names_lines, elements_from}
use Rattle.tidy_writer.proofs.NamedLines.{group_lines-go, material-lines, NamesGo}
use Rattle.tidy_agreement.proofs.Streams.{corners-are, loops-are}

-- ---- an element without its names
basis-argument : (n : ℕ) → basis_argument n ≡ printing.basis_argument (basis_of n)
basis-argument n = go (eqb n 1) (eqb n 2) (eqb n 3)
  where
    go : (x y z : Bool) → cond x Bezier (cond y Bspline (cond z Cardinal Taylor)) ≡ printing.basis_argument (cond x bezier (cond y bspline (cond z cardinal taylor)))
    go true y z = refl
    go false true z = refl
    go false false true = refl
    go false false false = refl

type-words : (b : records-body.Body) → type_words b ≡ printing.type_words (eqb b.rational 1) (basis_of b.basis)
type-words b = go (eqb b.rational 1) (ap argument_bytes (basis-argument b.basis))
  where
    go : (r : Bool) → argument_bytes (basis_argument b.basis) ≡ argument_bytes (printing.basis_argument (basis_of b.basis))
        → cond r (argument_bytes Rational ∷ argument_bytes (basis_argument b.basis) ∷ []) (argument_bytes (basis_argument b.basis) ∷ []) ≡ printing.type_words r (basis_of b.basis)
    go true e = ap (λ (w : List ℕ). argument_bytes Rational ∷ w ∷ []) e
    go false e = ap (λ (w : List ℕ). w ∷ []) e

module _ (W : Weights) (t : Tables) (r : records-element.Element) where
  abbrev own : List (List (List ℕ))
  own = own_lines t r

  abbrev b : records-body.Body
  b = body_at t (r.body - 1)

  corner-words : map written_corner (rows.stored_corners r.corners.count (drop r.corners.first t.elements.corners)) ≡ map written_corner (model_corners t r)
  corner-words =
      ap (λ (k : ℕ). map written_corner (rows.stored_corners r.corners.count (drop k t.elements.corners))) (let e : r.corners.first ≡ corner_place r.corners 0 = omega arith in e)
      ∙ ap (map written_corner) (corners-are t r.corners r.corners.count 0)

  abbrev ls : List Loop
  ls = (begun_in (each (part_at t) b.loops b.first_loop)).loops

  loop-lines : body_loops t.bodies.loops t.bodies.spans b ++ end_line ∷ [] ≡ map (printed W) (map loop ls ++ end ∷ [])
  loop-lines =
      ap (λ (o : List (List (List ℕ))). o ++ end_line ∷ []) (loops-are t W b.loops b.first_loop)
      ∙ sym (map-append (printed W) (map loop ls) (end ∷ []))

  own-plain : (k : Shape) → r.kind ≡ shape_number k → own ≡ map (printed W) (element_lines (kind_from t r) (model_corners t r))
  own-plain point e = rw (e, corner-words) refl
  own-plain line e = rw (e, corner-words) refl
  own-plain face e = rw (e, corner-words) refl

  own-free : (k : Free) → r.kind ≡ free_number k → own ≡ map (printed W) (element_lines (kind_from t r) (model_corners t r))
  own-free curve e = rw (e, corner-words, type-words b, loop-lines) refl
  own-free curve2 e = rw (e, corner-words, type-words b, loop-lines) refl
  own-free surface e = rw (e, corner-words, type-words b, loop-lines) refl

  pub own-lines : (k : Kind) → r.kind ≡ kind_number k → own ≡ map (printed W) (element_lines (kind_from t r) (model_corners t r))
  own-lines (plain k) e = own-plain k e
  own-lines (free x) e = own-free x.free e

-- ---- its names
smoothing-lines : (W : Weights) (m n : ℕ) → smoothed m n ≡ map (printed W) (smoothing_lines m n)
smoothing-lines W m n = go (eqb m n)
  where
    go : (t : Bool) → cond t [] ((keyword_of Smoothing ∷ written_whole n ∷ []) ∷ []) ≡ map (printed W) (cond t [] (statements.smoothing n ∷ []))
    go true = refl
    go false = refl

-- ---- lists of five parts
module _ {A : Type 0} where
  regroup : (a b c d r : List A) → ((a ++ (b ++ c)) ++ d) ++ r ≡ a ++ (b ++ (c ++ (d ++ r)))
  regroup a b c d r =
      append_assoc (a ++ (b ++ c)) d r ∙ append_assoc a (b ++ c) (d ++ r) ∙ ap (λ (q : List A). a ++ q) (append_assoc b c (d ++ r))

  map-five : {C : Type 0} (f : A → C) (a b c d r : List A) → map f (a ++ (b ++ (c ++ (d ++ r)))) ≡ map f a ++ (map f b ++ (map f c ++ (map f d ++ map f r)))
  map-five {C} f a b c d r =
      map-append f a (b ++ (c ++ (d ++ r)))
      ∙ ap (λ (q : List C). map f a ++ q) (map-append f b (c ++ (d ++ r)) ∙ ap (λ (q : List C). map f b ++ q) (map-append f c (d ++ r) ∙ ap (λ (q : List C). map f c ++ q) (map-append f d r)))

-- ---- one after the other; a record by the names n
abbrev named : ℕ → CornerRun → ℕ → Names → records-element.Element
named kind run number n =
    record {
      kind = kind;
      corners = run;
      body = number;
      smoothing = n.smoothing;
      group = run_of n.group;
      material = run_of (listed n.material);
    }

module _ (W : Weights) (s : List ℕ) (used : Used) (t : Tables) where
  abbrev pub lines_from : ℕ → ℕ → List (List (List ℕ))
  lines_from n i = elements_from s used t n i

  -- element i, which counts from 1, is e: its record, and what that gives
  pub record Told (i : ℕ) (e : Element) : Type 0 where
    pub first : ℕ
    pub body : ℕ
    pub is : asked_element used t.elements.elements i ≡ laid_element first body e
    pub kind : kind_from t (laid_element first body e) ≡ e.kind
    pub corners : model_corners t (laid_element first body e) ≡ e.corners

  names-lines : (k : ℕ) (c : CornerRun) (b k' : ℕ) (c' : CornerRun) (b' : ℕ) (m n : Names) → NamesStand s m → NamesStand s n → stays m.material n.material ≡ true
      → names_lines s (named k c b m) (named k' c' b' n)
      ≡ map (printed W) (group_lines m.group n.group) ++ (map (printed W) (smoothing_lines m.smoothing n.smoothing) ++ map (printed W) (material_lines m.material n.material))
  names-lines k c b k' c' b' m n x y z =
      ap₂ (λ (u v : List (List (List ℕ))). u ++ v) (sym (group_lines-go s W m.group n.group x.group y.group))
      (ap₂ (λ (u v : List (List (List ℕ))). u ++ v) (smoothing-lines W m.smoothing n.smoothing) (sym (material-lines s W m.material n.material z x.material y.material)))

  told-lines : (i : ℕ) (e : Element) (o : Told i e) → own W t (laid_element o.first o.body e) ≡ map (printed W) (element_lines e.kind e.corners)
  told-lines i e o =
      own-lines W t (laid_element o.first o.body e) e.kind refl
      ∙ ap₂ (λ (k : Kind) (cs : List Corner). map (printed W) (element_lines k cs)) o.kind o.corners

  -- all that are left, after an element of the names n
  pub elements-are : (i : ℕ) (n : Names) (es : List Element) (kind : ℕ) (run : CornerRun) (number : ℕ) → asked_element used t.elements.elements i ≡ named kind run number n
      → NamesStand s n → NamesGo s n.material es → ((k : ℕ) (a : Among es k) → Told (i + suc k) a.one) → lines_from (length es) i ≡ map (printed W) (elements_lines n es)
  elements-are i n [] kind run number q x y o = refl
  elements-are i n (e ∷ es) kind run number q x y o =
      let w = o 0 (record { before = []; one = e; after = es; is = refl; many = refl }) in
      let m = e.names in
      let g = group_lines n.group m.group in
      let h = smoothing_lines n.smoothing m.smoothing in
      let l = material_lines n.material m.material in
      let d = element_lines e.kind e.corners in
      let k' = kind_number e.kind in
      let c' = laid_run w.first e.corners in
      let b' = body_number e.kind w.body in
      let rest = lines_from (length es) (i + 1) in
      let rec : rest ≡ map (printed W) (elements_lines m es) =
      elements-are (i + 1) m es k' c' b' w.is y.0 y.2
      (λ k a. subst (λ (j : ℕ). Told j a.one) (let z : i + suc (suc k) ≡ i + 1 + suc k = omega arith in z)
      (o (suc k) (record { before = e ∷ a.before; one = a.one; after = a.after; is = ap (λ (r : List Element). e ∷ r) a.is; many = ap suc a.many }))) in
      ap₂ (λ (u v : records-element.Element). (names_lines s u v ++ own W t v) ++ rest) q w.is
      ∙ ap₂ (λ (u v : List (List (List ℕ))). (u ++ v) ++ rest) (names-lines kind run number k' c' b' n m x y.0 y.1) (told-lines (i + 1) e w)
      ∙ ap (λ (u : List (List (List ℕ))). ((map (printed W) g ++ (map (printed W) h ++ map (printed W) l)) ++ map (printed W) d) ++ u) rec
      ∙ regroup (map (printed W) g) (map (printed W) h) (map (printed W) l) (map (printed W) d) (map (printed W) (elements_lines m es))
      ∙ sym (map-five (printed W) g h l d (elements_lines m es))
