-- Two sets of tables that obey the rules and show the same elements: what sampling reads of an element is the same in both.
use Prim.Native.Nat.{ℕ, zero, suc, ◌+◌, ◌*◌, ◌-◌, ◌≤◌, ◌<◌}
use mathlib.Core.Path.{◌≡◌, sym, ap, ap₂, ◌∙◌, subst}
use mathlib.Core.Bool.{true, false}
use mathlib.Core.Logic.{⊎_elim}
use mathlib.Core.List.{List}
use native.Mathlib.Nat.{mul-le-mul_right}
use native.Mathlib.Omega.{arith}
use borrow.Author.Tests.{eqb-true, eq-eqb}
use lib.Dec.{eqb}
use lib.ListN.{length, get_or, take, drop}
use lib.Seq.{get_or-take, get_or-drop, ext_get_or}
use lib.IntN.{ℤ, pos}
use Rattle.lists.proofs.Tests.{test, never}
use Rattle.tables.specs.Tables.{Tables}
use Rattle.tables.specs.Records.{element_at, body_at, corner_at, value_at}
use Rattle.tables.specs.declared.Used.{Used}
use Rattle.tables.specs.declared.Element.{Element}
use Rattle.tables.specs.declared.Body.{Body}
use Rattle.model.specs.Model.{VertexKind, geometric, parametric}
use Rattle.record_rules.specs.Rules.{curves_before}
use Rattle.record_rules.proofs.Facts.{Corners, corner-vertex, corner-control}
use Rattle.record_rules.proofs.Element.{Recorded, recorded, Obeys, obeys-facts, body-of}
use Rattle.table_rules.specs.Whole.{whole_obeys}
use Rattle.point_exact.specs.Directions.{Direction}
use Rattle.point_exact.specs.Rules.{Rules}
use Rattle.point_exact.specs.Sampled.{first_control, curve_sampled, surface_sampled}
use Rattle.point_exact.proofs.Pyramid.{sampled-cong}
use Rattle.point_exact.proofs.Samplers.{controls-there}
use Rattle.point_rows.specs.Places.{direction}
use Rattle.sampler.specs.Points.{body_direction, direction_u, direction_v, control_of, grid_of, curve_at, surface_at}
use Rattle.sweep_marks.specs.Counting.{reference}
use Rattle.sweep.specs.Named.{table_in, width_in}
use Rattle.swept_files.specs.Promises.{row_numbered, SameShown}
use Rattle.swept_files.proofs.Parts.{part_length, part-values}
use Rattle.sweep.proofs.Whole.{whole_parts, elements-facts}

-- a part of two lists that agree there
part_same : (l m : List ℤ) (j n : ℕ) → j + n ≤ length l → j + n ≤ length m → ((i : ℕ) → i < j + n → get_or l i (pos 0) ≡ get_or m i (pos 0)) → take n (drop j l) ≡ take n (drop j m)
part_same l m j n a b f =
    let x = part_length l j n a in
    ext_get_or (pos 0) (take n (drop j l)) (take n (drop j m)) (x ∙ sym (part_length m j n b))
    (λ i c. let d : i < n = omega (arith, x) in
    rw (get_or-take n (drop j l) i (pos 0) d, get_or-take n (drop j m) i (pos 0) d, get_or-drop j l i (pos 0), get_or-drop j m i (pos 0)) (f (j + i) (omega arith)))

-- record k, by its index
record_is : (kind : VertexKind) (t : Tables) (k : ℕ) → 1 ≤ k → row_numbered kind t k ≡ take (width_in kind) (drop (width_in kind * (k - 1)) (table_in kind t))
record_is kind t zero h = absurd (omega arith)
record_is kind t (suc k) h = ap (λ (i : ℕ). take (width_in kind) (drop (width_in kind * i) (table_in kind t))) (let e : k ≡ suc k - 1 = omega arith in e)

-- ---- a point reads controls that are there, and no others
curve-held : (d : Direction) (p : ℤ) → Rules d p → (b c : ℕ → ℤ) → ((i : ℕ) → i < d.controls → b i ≡ c i) → curve_sampled d p b ≡ curve_sampled d p c
curve-held d p r b c f = sampled-cong d p b c (λ j l. f (first_control d p + j) (omega (arith, controls-there d p r)))

surface-held : (u v : Direction) (p q : ℤ) → Rules u p → Rules v q → (b c : ℕ → ℕ → ℤ) → ((i j : ℕ) → i < u.controls → j < v.controls → b i j ≡ c i j)
    → surface_sampled u v p q b ≡ surface_sampled u v p q c
unfolding surface_sampled
surface-held u v p q r s b c f =
    curve-held v q s (λ j. curve_sampled u p (λ i. b i j)) (λ j. curve_sampled u p (λ i. c i j))
    (λ j l. curve-held u p r (λ i. b i j) (λ i. c i j) (λ i k. f i j k l))

-- ---- one element
module _ (used : Used) (t : Tables) (u : Used) (w : Tables) (h : whole_obeys used t ≡ true) (k : whole_obeys u w ≡ true) (s : SameShown used t w)
    (i : ℕ) (l : i < used.elements) (m : i < u.elements) where
  abbrev e : Element
  e = element_at t i

  abbrev b : Body
  b = body_at t (e.body - 1)

  facts : Obeys used t (curves_before t i) i
  facts = obeys-facts used t (curves_before t i) i (elements-facts used t (whole_parts used t h).elements i l)

  facts-after : Obeys u w (curves_before w i) i
  facts-after = obeys-facts u w (curves_before w i) i (elements-facts u w (whole_parts u w k).elements i m)

  pub element-same : element_at w i ≡ element_at t i
  element-same = s.elements i l

  -- ---- its controls
  corners-after : Corners u w e.kind e.corners
  corners-after = subst (λ (x : Element). Corners u w x.kind x.corners) element-same facts-after.corners

  shown-same : (kind : VertexKind) (j : ℕ) → j < e.corners.count
      → row_numbered kind w (reference kind e.kind (corner_at w e.corners j)) ≡ row_numbered kind t (reference kind e.kind (corner_at t e.corners j))
  shown-same kind j c = ap (λ (x : Element). row_numbered kind w (reference kind x.kind (corner_at w x.corners j))) (sym element-same) ∙ s.coordinates kind i j l c

  value_same : (kind : VertexKind) (j n : ℕ) → j < e.corners.count → n < width_in kind
      → 1 ≤ reference kind e.kind (corner_at w e.corners j) → 1 ≤ reference kind e.kind (corner_at t e.corners j)
      → value_at (width_in kind) (table_in kind w) (reference kind e.kind (corner_at w e.corners j) - 1) n
      ≡ value_at (width_in kind) (table_in kind t) (reference kind e.kind (corner_at t e.corners j) - 1) n
  value_same kind j n c d p q =
      let a = reference kind e.kind (corner_at w e.corners j) in
      let o = reference kind e.kind (corner_at t e.corners j) in
      part-values (table_in kind w) (table_in kind t) (width_in kind * (a - 1)) (width_in kind * (o - 1)) (width_in kind) n (pos 0)
      (sym (record_is kind w a p) ∙ shown-same kind j c ∙ record_is kind t o q) d

  pub control-same : (axis j : ℕ) → axis < 3 → j < e.corners.count → control_of w e axis j ≡ control_of t e axis j
  unfolding control_of
  control-same axis j a c = ⊎_elim plane space (test (eqb e.kind 5))
    where
      plane : eqb e.kind 5 ≡ true → control_of w e axis j ≡ control_of t e axis j
      plane q =
          let five = eqb-true e.kind 5 q in
          let v = value_same parametric j (1 + axis) c (omega arith) in
          rw q ((rw q at v) (corner-control u w e.kind e.corners corners-after j c five).some
          (corner-control used t e.kind e.corners facts.corners j c five).some)

      space : eqb e.kind 5 ≡ false → control_of w e axis j ≡ control_of t e axis j
      space q =
          let other : e.kind ≡ 5 → ⊥ = λ f. never (sym q ∙ eq-eqb e.kind 5 f) in
          let v = value_same geometric j axis c (omega arith) in
          rw q ((rw q at v) (corner-vertex u w e.kind e.corners corners-after j c other).some
          (corner-vertex used t e.kind e.corners facts.corners j c other).some)

  -- ---- its body, where it has one
  module _ (four : 4 ≤ e.kind) where
    recorded-before : Recorded used t e.kind e.body
    recorded-before = recorded used t (curves_before t i) e.kind e.corners.count e.body (body-of facts four)

    recorded-after : Recorded u w (element_at w i).kind (element_at w i).body
    recorded-after =
        recorded u w (curves_before w i) (element_at w i).kind (element_at w i).corners.count (element_at w i).body
        (body-of facts-after (subst (λ (x : Element). 4 ≤ x.kind) (sym element-same) four))

    pub body_same : body_at w ((element_at w i).body - 1) ≡ b
    body_same =
        ap (λ (x : Element). body_at w (x.body - 1)) element-same
        ∙ s.bodies (e.body - 1) (omega (arith, recorded-before.some, recorded-before.used-one))

    lent-after : b.first_parameter + (b.count_u + b.count_v) ≤ length w.bodies.parameters
    lent-after = subst (λ (x : Body). x.first_parameter + (x.count_u + x.count_v) ≤ length w.bodies.parameters) body_same recorded-after.run.lent-ones

    run-same : (j n : ℕ) → j + n ≤ b.first_parameter + (b.count_u + b.count_v) → take n (drop j w.bodies.parameters) ≡ take n (drop j t.bodies.parameters)
    run-same j n c =
        part_same w.bodies.parameters t.bodies.parameters j n (omega (arith, lent-after)) (omega (arith, recorded-before.run.lent-ones))
        (λ x y. s.parameters x (omega (arith, recorded-before.run.used-ones)))

    direction-u : direction_u w b ≡ direction_u t b
    direction-u = ap (direction (body_direction b.basis b.degree_u b.count_u)) (run-same b.first_parameter b.count_u (omega arith))

    direction-v : direction_v w b ≡ direction_v t b
    direction-v = ap (direction (body_direction b.basis b.degree_v b.count_v)) (run-same (b.first_parameter + b.count_u) b.count_v (omega arith))

    pub curve-same : (p : ℤ) → Rules (direction_u t b) p → e.corners.count ≡ (direction_u t b).controls → (axis : ℕ) → axis < 3 → curve_at w e b p axis ≡ curve_at t e b p axis
    unfolding curve_at
    curve-same p r c axis a =
        ap (λ (d : Direction). curve_sampled d p (control_of w e axis)) direction-u
        ∙ curve-held (direction_u t b) p r (control_of w e axis) (control_of t e axis) (λ j q. control-same axis j a (omega (arith, c)))

    pub surface-same : (p q : ℤ) → Rules (direction_u t b) p → Rules (direction_v t b) q → e.corners.count ≡ (direction_u t b).controls * (direction_v t b).controls
        → (axis : ℕ) → axis < 3 → surface_at w e b p q axis ≡ surface_at t e b p q axis
    unfolding surface_at
    surface-same p q r o c axis a =
        ap₂ (λ (x y : Direction). surface_sampled x y p q (grid_of w e b axis)) direction-u direction-v
        ∙ surface-held (direction_u t b) (direction_v t b) p q r o (grid_of w e b axis) (grid_of t e b axis)
        (λ x y f g. control-same axis (y * (direction_u t b).controls + x) a (omega (arith, c, mul-le-mul_right (direction_u t b).controls g)))
