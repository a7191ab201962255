-- The elements of a swept model are such as reading keeps: each reference names one of the vertices that are left, in the pattern it had. By the values of each line.
use Prim.Native.Nat.{ℕ, suc, ◌+◌, ◌%◌, ◌≤◌}
use mathlib.Core.Path.{◌≡◌, refl, sym, ap, ap₂, ◌∙◌, subst}
use mathlib.Core.Bool.{Bool, true, false, cond}
use mathlib.Core.Option.{Option}
use mathlib.Core.List.{List, [], ◌∷◌, ◌++◌, map}
use native.Mathlib.Omega.{arith}
use borrow.Author.Tests.{leb-true, eq-eqb}
use lib.Dec.{leb, ltb, eqb}
use lib.ListN.{length, get_or, length-map, length-append}
use lib.IntN.{ℤ, pos, nat_abs}
use Rattle.lists.specs.Lists.{all}
use Rattle.lists.proofs.Tests.{and_left, and_right, and_both}
use Rattle.text.specs.Words.{Word}
use Rattle.references.specs.Corner.{Corner, alike, Parts}
use Rattle.references.specs.Fits.{reference_fits, part_fits, corner_fits}
use Rattle.model.specs.Model.{VertexKind, geometric, texture, normal, parametric, Vertices, Shape, Free, curve, curve2, surface, Loop, Body, Kind, plain, free, Element, Model, is_curve2, counts_of}
use Rattle.model.specs.Statements.{element, body, loop}
use Rattle.model.specs.Parse.{is_planar, WordForm, a-number, a-corner, a-control, a-curve, Value, number, corner, Seen, counted, form_of, range_words, control_form, an-element, a-body, parts}
use Rattle.tidy_form.specs.declared.Weights.TheVariants as weights
use Rattle.tidy_form.specs.Printed.{range_of}
use Rattle.tidy_form.specs.Tidied.{unsettled, at_line}
use Rattle.tidy_form.proofs.Values.{loop_key, values_in}
use Rattle.tidy_form.proofs.Words.{Fits, Fitting}
use Rattle.tidy_form.proofs.Standing.{seen_of, uniform, wide, wide_in, Fine, Sound}
use Rattle.tidy_form.proofs.Good.{GoodLoops, LoopsIn, GoodBody, GoodKind, plus, GoodElements}
use Rattle.sweep_marks.specs.Counting.{new_number}
use Rattle.swept_files.specs.Files.{number_in, any_of, named_in, swept_vertices, swept_corner, swept_element}
use Rattle.model.proofs.Placed.{Each}
use Rattle.swept_files.proofs.ByIndex.{any-of-at, each-by}
use Rattle.swept_files.proofs.NamedIn.{no_element}
use Rattle.swept_files.proofs.Counting.{new-zero}
use Rattle.swept_files.proofs.NewNumbers.{new_none, new-record, reference-new, part-new}
use Rattle.model.proofs.ElementRows.{no_corner}

line-planar : (b : Body) → is_planar (at_line b).free ≡ is_curve2 (free b)
line-planar b = go b.free refl
  where
    go : (k : Free) → b.free ≡ k → is_planar (at_line b).free ≡ is_curve2 (free b)
    go curve e = rw e
    go curve2 e = rw e
    go surface e = rw e

module _ (m : Model) where
  abbrev x : Vertices
  x = m.vertices

  abbrev y : Vertices
  y = swept_vertices m

  -- ---- every reference of a corner is named
  abbrev CornerNamed : Bool → Corner → Type 0
  CornerNamed q c = (kind : VertexKind) → named_in m kind (number_in kind q c) ≡ true

  abbrev ElementNamed : Element → Type 0
  ElementNamed e = Each (CornerNamed (is_curve2 e.kind)) e.corners

  pub corners-named : Each ElementNamed m.elements
  unfolding named_in
  corners-named =
      each-by ElementNamed no_element m.elements (λ i l.
      let e = get_or m.elements i no_element in
      each-by (CornerNamed (is_curve2 e.kind)) no_corner e.corners (λ j b kind.
      let k = number_in kind (is_curve2 e.kind) (get_or e.corners j no_corner) in
      any-of-at (λ (d : Element). any_of (λ c. eqb (number_in kind (is_curve2 d.kind) c) k) d.corners) no_element m.elements i l
      (any-of-at (λ c. eqb (number_in kind (is_curve2 e.kind) c) k) no_corner e.corners j b (eq-eqb k k refl))))

  -- ---- one pattern
  alike-new : (q : Bool) (c d : Corner) → CornerNamed q c → CornerNamed q d → alike (swept_corner m q c) (swept_corner m q d) ≡ alike c d
  alike-new q c d N M =
      rw (new_none (named_in m texture) c.vt (N texture), new_none (named_in m texture) d.vt (M texture), new_none (named_in m normal) c.vn (N normal), new_none (named_in m normal) d.vn (M normal))

  uniform-new : (q : Bool) (cs : List Corner) → Each (CornerNamed q) cs → uniform cs ≡ true → uniform (map (swept_corner m q) cs) ≡ true
  uniform-new q [] N h = refl
  uniform-new q (c ∷ cs) N h = go cs N.1 h
    where
      go : (ds : List Corner) → Each (CornerNamed q) ds → all (alike c) ds ≡ true → all (alike (swept_corner m q c)) (map (swept_corner m q) ds) ≡ true
      go [] M r = refl
      go (d ∷ ds) M r = and_both (alike-new q c d N.0 M.0 ∙ and_left (alike c d) _ r) (go ds M.1 (and_right (alike c d) _ r))

  -- ---- the values of a line, after n curv2 elements
  module _ (n : ℕ) where
    abbrev before : Seen
    before = seen_of x n

    abbrev after : Seen
    after = seen_of y n

    corner-new : (p : Parts) (c : Corner) → CornerNamed false c → Fits before (a-corner p) (corner c) → Fits after (a-corner p) (corner (swept_corner m false c))
    corner-new p c N f =
        let s = f.1 in
        let e : c ≡ f.0 = cc in
        let W = reference_fits (length x.v) c.v in
        let P = part_fits p.vt (length x.vt) c.vt in
        let h : corner_fits (counts_of x) p c ≡ true = ap (corner_fits (counts_of x) p) e ∙ f.2 in
        let r = and_right W _ h in (
          swept_corner m false c,
          refl,
          and_both (reference-new (named_in m geometric) x.v c.v (N geometric) (and_left W _ h))
              (and_both (part-new (named_in m texture) x.vt p.vt c.vt (N texture) (and_left P _ r)) (part-new (named_in m normal) x.vn p.vn c.vn (N normal) (and_right P _ r))),
        )

    control-new : (c : Corner) → CornerNamed true c → Fits before a-control (corner c) → Fits after a-control (corner (swept_corner m true c))
    control-new c N f =
        let s = f.1 in
        let v : c.v ≡ f.0 = cc in
        let t : c.vt ≡ 0 = cc in
        let w : c.vn ≡ 0 = cc in (
          new_number (named_in m parametric) c.v,
          ap₂ (λ (i j : ℕ). corner (record { v = new_number (named_in m parametric) c.v; vt = i; vn = j })) (ap (new_number (named_in m texture)) t ∙ new-zero (named_in m texture))
              (ap (new_number (named_in m normal)) w ∙ new-zero (named_in m normal)),
          reference-new (named_in m parametric) x.vp c.v (N parametric) (ap (reference_fits (length x.vp)) v ∙ f.2),
        )

    line-new : (k : Free) (q : Bool) (c : Corner) → CornerNamed (is_planar k) c → Fits before (cond q a-number (control_form k)) (corner c)
        → Fits after (cond q a-number (control_form k)) (corner (swept_corner m (is_planar k) c))
    line-new k true c N f = absurd (let s = f.1 in let z : ◌≡◌ {A = ℕ} 0 1 = cc in omega arith)
    line-new curve false c N f = corner-new (record { vt = false; vn = false }) c N f
    line-new curve2 false c N f = control-new c N f
    line-new surface false c N f = corner-new (record { vt = true; vn = true }) c N f

    number-new : (k : Free) (q : Bool) (z : ℤ) → Fits before (cond q a-number (control_form k)) (number z) → Fits after (cond q a-number (control_form k)) (number z)
    number-new k true z f = f
    number-new curve false z f = absurd (let s = f.1 in let z : ◌≡◌ {A = ℕ} 0 1 = cc in omega arith)
    number-new curve2 false z f = absurd (let s = f.1 in let z : ◌≡◌ {A = ℕ} 0 1 = cc in omega arith)
    number-new surface false z f = absurd (let s = f.1 in let z : ◌≡◌ {A = ℕ} 0 1 = cc in omega arith)

    module _ (q : Bool) (f : ℕ → WordForm) (step : (i : ℕ) (c : Corner) → CornerNamed q c → Fits before (f i) (corner c) → Fits after (f i) (corner (swept_corner m q c))) where
      corners-new : (i : ℕ) (cs : List Corner) → Each (CornerNamed q) cs → Fitting before f i (map corner cs) → Fitting after f i (map corner (map (swept_corner m q) cs))
      corners-new i [] N h = tt
      corners-new i (c ∷ cs) N h = (step i c N.0 h.0, corners-new (suc i) cs N.1 h.1)

      values-new : ((i : ℕ) (z : ℤ) → Fits before (f i) (number z) → Fits after (f i) (number z)) → (i : ℕ) (zs : List ℤ) (cs : List Corner) → Each (CornerNamed q) cs
          → Fitting before f i (map number zs ++ map corner cs) → Fitting after f i (map number zs ++ map corner (map (swept_corner m q) cs))
      values-new same i [] cs N h = corners-new i cs N h
      values-new same i (z ∷ zs) cs N h = (same i z h.0, values-new same (suc i) zs cs N h.1)

    -- ---- a point, line or face
    element-new : (k : Shape) (cs : List Corner) → Each (CornerNamed false) cs → Fine x n (element k cs) → Fine y n (element k (map (swept_corner m false) cs))
    element-new k cs N f =
        record {
          many = λ c. ap (counted (an-element k)) (length-map (map (swept_corner m false) cs) corner ∙ length-map cs (swept_corner m false) ∙ sym (length-map cs corner)) ∙ f.many c;
          fits = λ w. corners-new false (λ i. a-corner (parts k)) (λ i c. corner-new (parts k) c) 0 cs N (f.fits w);
          whole = uniform-new false cs N f.whole;
        }

    -- ---- a body's line
    positive : (i : ℕ) (cs : List Corner) → Fitting before (λ j. cond (ltb j 0) a-number a-control) i (map corner cs) → Each (λ (c : Corner). 1 ≤ c.v) cs
    positive i [] h = tt
    positive i (c ∷ cs) h = (go (ltb i 0) h.0, positive (suc i) cs h.1)
      where
        go : (q : Bool) → Fits before (cond q a-number a-control) (corner c) → 1 ≤ c.v
        go true f = absurd (let s = f.1 in let z : ◌≡◌ {A = ℕ} 0 1 = cc in omega arith)
        go false f =
            let s = f.1 in
            let v : c.v ≡ f.0 = cc in
            let l = leb-true 1 f.0 (and_left (leb 1 f.0) (leb f.0 (length x.vp)) f.2) in
            omega arith

    all-wide : (cs : List Corner) → Each (CornerNamed true) cs → Each (λ (c : Corner). 1 ≤ c.v) cs → all (wide x) cs ≡ true → all (wide y) (map (swept_corner m true) cs) ≡ true
    all-wide [] N p h = refl
    all-wide (c ∷ cs) N p h =
        and_both (ap (λ (z : List ℤ). leb 2 (nat_abs (get_or z 0 (pos 0)))) (new-record (named_in m parametric) x.vp [] c.v (N.0 parametric) p.0) ∙ and_left (wide x c) _ h)
        (all-wide cs N.1 p.1 (and_right (wide x c) _ h))

    wide-new : (b : Body) (k : Free) (cs : List Corner) → Each (CornerNamed (is_planar k)) cs → Fitting before (λ i. cond (ltb i (range_words k)) a-number (control_form k)) 0 (map number (range_of k b) ++ map corner cs)
        → wide_in k x cs ≡ true → wide_in k y (map (swept_corner m (is_planar k)) cs) ≡ true
    wide-new b curve cs N f h = refl
    wide-new b curve2 cs N f h = all-wide cs N (positive 0 cs f) h
    wide-new b surface cs N f h = refl

    body_new : (b : Body) (cs : List Corner) → Each (CornerNamed (is_planar b.free)) cs → Fine x n (body b cs) → Fine y n (body b (map (swept_corner m (is_planar b.free)) cs))
    body_new b cs N f =
        let k = b.free in
        let g = swept_corner m (is_planar k) in
        let r = map number (range_of k b) in
        let l : length (r ++ map corner (map g cs)) ≡ length (r ++ map corner cs) =
        length-append r (map corner (map g cs)) ∙ ap (λ (j : ℕ). length r + j) (length-map (map g cs) corner ∙ length-map cs g ∙ sym (length-map cs corner)) ∙ sym (length-append r (map corner cs)) in
        record {
          many = λ c. ap (counted (a-body k)) l ∙ f.many c;
          fits = λ w. values-new (is_planar k) (λ i. cond (ltb i (range_words k)) a-number (control_form k)) (λ i c. line-new k (ltb i (range_words k)) c) (λ i z. number-new k (ltb i (range_words k)) z) 0 (range_of k b) cs N (f.fits w);
          whole = (uniform-new (is_planar k) cs N f.whole.0, wide-new b k cs N (f.fits weights.Always) f.whole.1);
        }

    -- ---- a loop refers to curv2 elements alone
    curves-new : (f : ℕ → WordForm) → ((i : ℕ) (v : Value) → Fits before (f i) v → Fits after (f i) v) → (i : ℕ) (vs : List Value) → Fitting before f i vs → Fitting after f i vs
    curves-new f same i [] h = tt
    curves-new f same i (v ∷ vs) h = (same i v h.0, curves-new f same (suc i) vs h.1)

    curve-new : (q : Bool) (v : Value) → Fits before (cond q a-curve a-number) v → Fits after (cond q a-curve a-number) v
    curve-new true v f = f
    curve-new false v f = f

    loop-new : (l : Loop) → Fine x n (loop l) → Fine y n (loop l)
    loop-new l f = record { many = f.many; fits = λ c. go l.hole (length (values_in c (loop l))) (values_in c (loop l)) (f.fits c); whole = tt }
      where
        go : (h : Bool) (j : ℕ) (vs : List Value) → Fitting before (form_of (loop_key h) j) 0 vs → Fitting after (form_of (loop_key h) j) 0 vs
        go true j vs q = curves-new (form_of (loop_key true) j) (λ i v. curve-new (eqb (i % 3) 2) v) 0 vs q
        go false j vs q = curves-new (form_of (loop_key false) j) (λ i v. curve-new (eqb (i % 3) 2) v) 0 vs q

    loops-new : (ls : List Loop) → GoodLoops x n ls → GoodLoops y n ls
    loops-new [] g = tt
    loops-new (l ∷ ls) g = (loop-new l g.0, loops-new ls g.1)

    loops-in : (k : Free) (ls : List Loop) → LoopsIn x n k ls → LoopsIn y n k ls
    loops-in curve ls g = g
    loops-in curve2 ls g = g
    loops-in surface ls g = loops-new ls g

    -- ---- an element
    good-body : (b : Body) (cs : List Corner) → Each (CornerNamed (is_curve2 (free b))) cs → GoodBody x n b cs → GoodBody y n b (map (swept_corner m (is_curve2 (free b))) cs)
    good-body b cs N g =
        let e = line-planar b in
        record {
          degrees = g.degrees;
          line = subst (λ (q : Bool). Fine y n (body (at_line b) (map (swept_corner m q) cs))) e (body_new (at_line b) cs (subst (λ (q : Bool). Each (CornerNamed q) cs) (sym e) N) g.line);
          opens = g.opens;
          us = g.us;
          vs = g.vs;
          loops = loops-in b.free b.loops g.loops;
          sound = subst (Sound (unsettled b.free b)) (sym (length-map cs (swept_corner m (is_curve2 (free b))))) g.sound;
          settles = g.settles;
        }

    good-kind : (k : Kind) (cs : List Corner) → Each (CornerNamed (is_curve2 k)) cs → GoodKind x n k cs → GoodKind y n k (map (swept_corner m (is_curve2 k)) cs)
    good-kind (plain k) cs N g = element-new k cs N g
    good-kind (free b) cs N g = good-body b cs N g

  pub good-elements : (n : ℕ) (a : Option Word) (es : List Element) (l : Option Word) → Each ElementNamed es → GoodElements x n a es l → GoodElements y n a (map (swept_element m) es) l
  good-elements n a [] l N g = g
  good-elements n a (e ∷ es) l N g = (good-kind n e.kind e.corners N.0 g.0, g.1, g.2, good-elements (plus e.kind n) e.names.material es l N.1 g.3)
