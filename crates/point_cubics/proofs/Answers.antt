-- The answers by the tests that lead to each, what a cubic that is granted gives, and the points of the parts that are lent as those of the tables.
use mathlib.Core.Path.{◌≡◌, refl, ap, ap₂, subst}
use mathlib.Core.Bool.{Bool, true, false, cond, ◌&&◌}
use mathlib.Core.List.{List}
use Prim.Native.Nat.{ℕ, ◌+◌, ◌*◌, ◌-◌, ◌≤◌, ◌<◌}
use native.Mathlib.Omega.{arith}
use borrow.Author.Tests.{leb-true, eqb-true}
use lib.Dec.{leb, eqb}
use lib.ListN.{length}
use lib.IntN.{ℤ, pos, ◌*ℤ◌}
use lib.Signed.{◌≤ℤ◌, ≤ℤ_refl}
use Rattle.lists.proofs.Tests.{and_left, and_right}
use Rattle.rounding.specs.Range.{InRange}
use Rattle.tables.specs.Tables.{Tables}
use Rattle.tables.specs.Records.{parameters_u}
use Rattle.tables.specs.declared.Body.{Body}
use Rattle.tables.specs.declared.Used.{Used}
use Rattle.tables.specs.declared.Element.{Element}
use Rattle.point_exact.specs.Directions.{at}
use Rattle.point_exact.specs.Rules.{BezierRules}
use Rattle.point_rows.specs.Controls.{control_at, ControlsLent}
use Rattle.point_rows.specs.declared.BodyDirection.{BodyDirection}
use Rattle.point_rows.proofs.Places.{bezier_only}
use Rattle.point_rows.proofs.Grids.{held-part}
use Rattle.sampler.specs.Points.{body_direction, control_of}
use Rattle.std.specs.Prelude.{Some, Ok}
use Rattle.refusals.specs.declared.Reason.{Reason}
use Rattle.refusals.specs.declared.Reason.TheVariants.{NotSampled, ParameterOutside}
use Rattle.sampler.specs.Answers.{point_answer, refusal_of, refused_point, plane_point, inside}
use Rattle.sampler.specs.declared.Point.{Point}
use Rattle.sampler.specs.Sampling.{Curved}
use Rattle.sampler.proofs.Refusals.{Looked}
use Rattle.sampler.proofs.Entries.{space-eq, plane-control, space-control}
use Rattle.point_weights.specs.Weights.{cubic_sampled}
use Rattle.point_cubics.specs.Answers.{cubic, parameter64, reached, cubic_point, cubic_at}
use Rattle.point_weights.specs.Inner.{axis_by}
use Rattle.point_cubics.specs.Inner.{step_point_by, step_answer}

-- ---- the points
same-controls : (g j : ℕ) (c d : ℕ → ℤ) → ((i : ℕ) → c i ≡ d i) → cubic_sampled g j c ≡ cubic_sampled g j d
unfolding cubic_sampled
same-controls g j c d h = rw (h (g * 3), h (g * 3 + 1), h (g * 3 + 2), h (g * 3 + 3))

module _ (t : Tables) (e : Element) (b : Body) (g j : ℕ) where
  plane : eqb e.kind 5 ≡ true → (axis : ℕ) → axis_by t.vertices.vp t.elements.corners e.corners.first g j (1 + axis) ≡ cubic_sampled g j (control_of t e axis)
  plane h axis = same-controls g j (control_at t.vertices.vp t.elements.corners e.corners.first (1 + axis)) (control_of t e axis) (plane-control t e b (pos 0) axis h)

  space : eqb e.kind 5 ≡ false → (axis : ℕ) → axis_by t.vertices.v t.elements.corners e.corners.first g j axis ≡ cubic_sampled g j (control_of t e axis)
  space h axis = same-controls g j (control_at t.vertices.v t.elements.corners e.corners.first axis) (control_of t e axis) (space-control t e b (pos 0) axis h)

  by_kind : (q : Bool) → eqb e.kind 5 ≡ q → point_answer (Ok (step_point_by e.kind t.vertices.v t.vertices.vp t.elements.corners e.corners.first g j)) ≡ cubic_point t e g j
  unfolding step_point_by cubic_point
  by_kind true h = rw h (ap₂ plane_point (plane h 0) (plane h 1))
  by_kind false h = rw h (ap (λ (p : Point). point_answer (Ok p)) (space-eq (space h 0) (space h 1) (space h 2)))

  pub point-is : point_answer (Ok (step_point_by e.kind t.vertices.v t.vertices.vp t.elements.corners e.corners.first g j)) ≡ cubic_point t e g j
  point-is = by_kind (eqb e.kind 5) refl

-- ---- the answers
module _ (t : Tables) (e : Element) (b : Body) (g j : ℕ) where
  pub not-cubic : cubic b.basis b.degree_u ≡ false → refused_point NotSampled ≡ step_answer t e b g j
  unfolding step_answer
  not-cubic h = rw h

  module _ (is : cubic b.basis b.degree_u ≡ true) where
    pub not-reached : reached (parameters_u t b) b.start_u b.end_u g j ≡ false → refused_point ParameterOutside ≡ step_answer t e b g j
    unfolding step_answer
    not-reached h = rw (is, h)

    pub handed_out : reached (parameters_u t b) b.start_u b.end_u g j ≡ true → cubic_point t e g j ≡ step_answer t e b g j
    unfolding step_answer
    handed_out h = rw (is, h)

module _ (used : Used) (t : Tables) (number g j : ℕ) where
  pub refused : {r : Reason} → refusal_of false used t number ≡ Some r → refused_point r ≡ cubic_at used t number g j
  unfolding cubic_at
  refused m = rw m

  pub answered : {e : Element} {b : Body} → Looked false used t number e b → step_answer t e b g j ≡ cubic_at used t number g j
  unfolding cubic_at step_answer
  answered l = rw (l.given, l.element-is, l.body_is)

-- ---- what the tests say
pub cubic-type : (type degree : ℕ) → cubic type degree ≡ true → type ≡ 1
cubic-type type degree h = eqb-true type 1 (and_left (eqb type 1) (eqb degree 3) h)

pub cubic-degree : (type degree : ℕ) → cubic type degree ≡ true → degree ≡ 3
cubic-degree type degree h = eqb-true degree 3 (and_right (eqb type 1) (eqb degree 3) h)

module _ (x : List ℤ) (start end : ℤ) (g j : ℕ) (h : reached x start end g j ≡ true) where
  counts : (leb j 64 && leb (g + 2) (length x)) ≡ true
  unfolding reached
  counts = and_left (leb j 64 && leb (g + 2) (length x)) (inside (pos 64 *ℤ start) (pos 64 *ℤ end) (parameter64 x g j)) h

  pub step-there : j ≤ 64
  step-there = leb-true j 64 (and_left (leb j 64) (leb (g + 2) (length x)) counts)

  pub segment-there : g + 2 ≤ length x
  segment-there = leb-true (g + 2) (length x) (and_right (leb j 64) (leb (g + 2) (length x)) counts)

-- ---- a cubic that is granted
module _ {t : Tables} {e : Element} {b : Body} (c : Curved t e b) (type : b.basis ≡ 1) (degree : b.degree_u ≡ 3) where
  abbrev along : BodyDirection
  along = body_direction b.basis b.degree_u b.count_u

  pub rules : (p : ℤ) → b.start_u ≤ℤ p → p ≤ℤ b.end_u → BezierRules 3 along.controls (parameters_u t b) p
  rules p l h =
      subst (λ (n : ℕ). BezierRules n along.controls (parameters_u t b) p) degree
      (bezier_only along (parameters_u t b) p (rw type refl) (c.along.ranged.sound p l h).rules)

  at-start : BezierRules 3 along.controls (parameters_u t b) b.start_u
  at-start = rules b.start_u (≤ℤ_refl b.start_u) c.along.ranged.ordered

  -- the four controls of a segment are among the controls
  pub controls-there : (g : ℕ) → g + 2 ≤ length (parameters_u t b) → g * 3 + 4 ≤ along.controls
  controls-there g l = go along.controls (length (parameters_u t b)) l at-start.count
    where
      go : (k p : ℕ) → g + 2 ≤ p → k ≡ 3 * (p - 1) + 1 → g * 3 + 4 ≤ k
      go k p l h = omega arith

  pub controls-held : (g : ℕ) → g + 2 ≤ length (parameters_u t b) → ControlsLent (cond (eqb e.kind 5) t.vertices.vp t.vertices.v) t.elements.corners e.corners.first 0 (g * 3 + 4)
  controls-held g l = held-part 0 (g * 3 + 4) c.held (omega arith) (controls-there g l)

pub small-parameters : {t : Tables} {e : Element} {b : Body} → Curved t e b → (i : ℕ) → i < length (parameters_u t b) → InRange (at (parameters_u t b) i)
small-parameters {b = b} c = (c.along.ranged.sound b.start_u (≤ℤ_refl b.start_u) c.along.ranged.ordered).small
