-- What the tidier reads from the tables one entry after the other is what `model_in` reads by index: rows of vertices, corners, parts of loops. Of any tables.
use Prim.Native.Nat.{ℕ, zero, suc, ◌+◌, ◌*◌}
use mathlib.Core.Path.{◌≡◌, refl, ap, ap₂, ◌∙◌}
use mathlib.Core.List.{List, [], ◌∷◌, ◌++◌, map}
use mathlib.Core.Bool.{Bool, true, false, cond}
use native.Mathlib.Nat.{mul-suc}
use native.Mathlib.Omega.{arith}
use lib.ListN.{get_or, drop}
use lib.Seq.{drop-drop, get_or-drop}
use lib.Dec.{eqb}
use lib.IntN.{ℤ, pos}
use Rattle.lists.specs.Lists.{flat}
use Rattle.references.specs.Corner.{Corner}
use Rattle.references.specs.Written.{written_number, written_whole}
use Rattle.statements.specs.declared.Carried.TheVariants.{Vertex}
use Rattle.keywords.specs.Keywords.{keyword_of}
use Rattle.tables.specs.declared.CornerRun.{CornerRun}
use Rattle.tables.specs.Tables.{Tables}
use Rattle.tables.specs.Records.{corner_width, loop_width, span_width, corner_in, corner_place, corner_at, part_at}
use Rattle.model.specs.Model.{VertexKind}
use Rattle.model.specs.Statements.{vertex, loop}
use Rattle.model.specs.In.{each, row_at, corner_from, part_from, Begun, goes_on, begins, begun_in}
use Rattle.tidy_form.specs.declared.Weights.{Weights}
use Rattle.tidy_form.specs.Printed as printing
use Rattle.tidy_form.specs.Printed.{loop_keyword, coordinates, printed}
use Rattle.tidy_writer.specs.Rows.{row_numbers, vertex_rows, stored_corners, part_words, going_on, loop_lines}

-- ---- reading on from an entry
here : {A : Type 0} (n : ℕ) (l : List A) (z : A) → get_or (drop n l) 0 z ≡ get_or l n z
here {A} n l z = get_or-drop n l 0 z ∙ ap (λ (k : ℕ). get_or l k z) (let e : n + 0 ≡ n = omega arith in e)

onward : {A : Type 0} (w i : ℕ) (l : List A) → drop w (drop (w * i) l) ≡ drop (w * suc i) l
onward {A} w i l = drop-drop w (w * i) l ∙ ap (λ (k : ℕ). drop k l) (let e : w * i + w ≡ w * suc i = rw mul-suc (omega arith) in e)

-- ---- vertices; those other than v are written alike by each choice of weights
pub vertices-are : (W X : Weights) (k : VertexKind) (counted : Bool) → ((z : List ℤ) → row_numbers counted X z ≡ coordinates W k z) → (w : ℕ) (l : List ℤ) (n i : ℕ)
    → vertex_rows (Vertex k) counted X w n (drop (w * i) l) ≡ map (printed W) (map (vertex k) (each (row_at w l) n i))
vertices-are W X k counted c w l zero i = refl
vertices-are W X k counted c w l (suc n) i =
    ap₂ (λ (x : List ℤ) (y : List ℤ). (keyword_of (Vertex k) ∷ map written_number x) ∷ vertex_rows (Vertex k) counted X w n y) (c (row_at w l i)) (onward w i l)
    ∙ ap (λ (y : List (List (List ℕ))). (keyword_of (Vertex k) ∷ map written_number (coordinates W k (row_at w l i))) ∷ y) (vertices-are W X k counted c w l n (suc i))

-- ---- corners
pub corners-are : (t : Tables) (run : CornerRun) (n k : ℕ) → stored_corners n (drop (corner_place run k) t.elements.corners) ≡ each (λ j. corner_from (corner_at t run j)) n k
corners-are t run zero k = refl
corners-are t run (suc n) k =
    let l = t.elements.corners in
    let at = corner_place run k in
    let c : record { v = get_or (drop at l) 0 0; vt = get_or (drop at l) 1 0; vn = get_or (drop at l) 2 0 } ≡ corner_from (corner_in l at) = rw (here at l 0, get_or-drop at l 1 0, get_or-drop at l 2 0) refl in
    let d : drop corner_width (drop at l) ≡ drop (corner_place run (suc k)) l =
    drop-drop corner_width at l ∙ ap (λ (j : ℕ). drop j l) (let e : corner_place run k + corner_width ≡ corner_place run (suc k) = omega arith in e) in
    ap₂ (λ (x : Corner) (y : List ℕ). x ∷ stored_corners n y) c d ∙ ap (λ (y : List Corner). corner_from (corner_at t run k) ∷ y) (corners-are t run n (suc k))

-- ---- parts: those that go on, and the lines of the loops that begin
module _ (t : Tables) where
  abbrev L : ℕ → List ℕ
  L i = drop (loop_width * i) t.bodies.loops

  abbrev S : ℕ → List ℤ
  S i = drop (span_width * i) t.bodies.spans

  abbrev begun : ℕ → ℕ → Begun
  begun n i = begun_in (each (part_at t) n i)

  words_are : (i : ℕ) → part_words (L i) (S i) ≡ printing.part_words (part_from (part_at t i))
  words_are i =
      rw (here (span_width * i) t.bodies.spans (pos 0), get_or-drop (span_width * i) t.bodies.spans 1 (pos 0), get_or-drop (loop_width * i) t.bodies.loops 1 0)
      (ap (λ (k : ℕ). written_number (get_or t.bodies.spans k (pos 0)) ∷ written_number (part_at t i).to ∷ written_whole (part_at t i).curve ∷ []) (let e : span_width * i ≡ span_width * i + 0 = omega arith in e))

  begins-are : (i : ℕ) → get_or (L i) 0 0 ≡ (part_at t i).begins
  begins-are i = get_or-drop (loop_width * i) t.bodies.loops 0 0

  pub goes_on-words : (n i : ℕ) → going_on n (L i) (S i) ≡ flat printing.part_words (begun n i).on
  goes_on-words zero i = refl
  goes_on-words (suc n) i =
      ap₂ (λ (l : List ℕ) (z : List ℤ). cond (eqb (get_or (L i) 0 0) 0) (part_words (L i) (S i) ++ going_on n l z) []) (onward loop_width i t.bodies.loops) (onward span_width i t.bodies.spans)
      ∙ ap₂ (λ (b : ℕ) (w : List (List ℕ)). cond (eqb b 0) (w ++ going_on n (L (suc i)) (S (suc i))) []) (begins-are i) (words_are i)
      ∙ go (eqb (part_at t i).begins 0) (begun n (suc i)) (going_on n (L (suc i)) (S (suc i))) (goes_on-words n (suc i))
    where
      go : (x : Bool) (r : Begun) (g : List (List ℕ)) → g ≡ flat printing.part_words r.on
          → cond x (printing.part_words (part_from (part_at t i)) ++ g) []
          ≡ flat printing.part_words (cond {A = Begun} x (goes_on (part_from (part_at t i)) r) (begins (eqb (part_at t i).begins 2) (part_from (part_at t i)) r)).on
      go true r g e = ap (λ (w : List (List ℕ)). printing.part_words (part_from (part_at t i)) ++ w) e
      go false r g e = refl

  pub loops-are : (W : Weights) (n i : ℕ) → loop_lines n (L i) (S i) ≡ map (printed W) (map loop (begun n i).loops)
  loops-are W zero i = refl
  loops-are W (suc n) i =
      ap₂ (λ (l : List ℕ) (z : List ℤ). cond (eqb (get_or (L i) 0 0) 0) [] ((keyword_of (loop_keyword (eqb (get_or (L i) 0 0) 2)) ∷ (part_words (L i) (S i) ++ going_on n l z)) ∷ []) ++ loop_lines n l z)
      (onward loop_width i t.bodies.loops) (onward span_width i t.bodies.spans)
      ∙ ap₂
      (λ (b : ℕ) (w : List (List ℕ)).
      cond (eqb b 0) [] ((keyword_of (loop_keyword (eqb b 2)) ∷ (w ++ going_on n (L (suc i)) (S (suc i)))) ∷ []) ++ loop_lines n (L (suc i)) (S (suc i)))
      (begins-are i) (words_are i)
      ∙ go (eqb (part_at t i).begins 0) (begun n (suc i)) (going_on n (L (suc i)) (S (suc i))) (goes_on-words n (suc i)) (loop_lines n (L (suc i)) (S (suc i))) (loops-are W n (suc i))
    where
      go : (x : Bool) (r : Begun) (g : List (List ℕ)) → g ≡ flat printing.part_words r.on → (o : List (List (List ℕ))) → o ≡ map (printed W) (map loop r.loops)
          → cond x [] ((keyword_of (loop_keyword (eqb (part_at t i).begins 2)) ∷ (printing.part_words (part_from (part_at t i)) ++ g)) ∷ []) ++ o
          ≡ map (printed W) (map loop (cond {A = Begun} x (goes_on (part_from (part_at t i)) r) (begins (eqb (part_at t i).begins 2) (part_from (part_at t i)) r)).loops)
      go true r g e o f = f
      go false r g e o f =
          ap₂ (λ (w : List (List ℕ)) (v : List (List (List ℕ))). (keyword_of (loop_keyword (eqb (part_at t i).begins 2)) ∷ (printing.part_words (part_from (part_at t i)) ++ w)) ∷ v) e f
