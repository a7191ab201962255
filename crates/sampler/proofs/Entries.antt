-- The answers by the tests that lead to each, and the points of the parts that are lent as those of the tables.
use mathlib.Core.Path.{◌≡◌, refl, ap, ap₂, ◌∙◌}
use mathlib.Core.Bool.{Bool, true, false, cond}
use mathlib.Core.List.{List}
use Prim.Native.Nat.{ℕ, ◌+◌, ◌-◌}
use lib.Dec.{eqb}
use lib.IntN.{ℤ}
use lib.ListN.{take, drop}
use native.Mathlib.Omega.{arith}
use lib.Signed.{le_z}
use Rattle.lists.proofs.Tests.{and_left, and_right}
use Rattle.rounding.proofs.Order.{yes_le}
use Rattle.tables.specs.Tables.{Tables}
use Rattle.tables.specs.Records.{parameters_u}
use Rattle.tables.specs.declared.Body.{Body}
use Rattle.tables.specs.declared.Used.{Used}
use Rattle.tables.specs.declared.Element.{Element}
use Rattle.point_exact.specs.Sampled.{first_control}
use Rattle.point_exact.proofs.Pyramid.{sampled-cong}
use Rattle.point_rows.specs.Places.{direction}
use Rattle.point_rows.specs.Finding.{Sound}
use Rattle.point_rows.specs.Controls.{control_at, ControlsLent}
use Rattle.point_runs.specs.Inner.{Ranged}
use Rattle.point_rows.specs.declared.BodyDirection.{BodyDirection}
use Rattle.sampler.specs.Points.{body_direction, control_of, curve_at}
use Rattle.std.specs.Prelude.{Some, Ok}
use Rattle.refusals.specs.declared.Reason.{Reason}
use Rattle.refusals.specs.declared.Reason.TheVariants.{ParameterOutside}
use Rattle.sampler.specs.declared.Point.{Point}
use Rattle.sampler.specs.Answers.{point_answer, refusal_of, refused_point, plane_point, inside, curve_point, point_on_curve}
use Rattle.sampler.specs.Inner.{point_by, coordinate_by}
use Rattle.sampler.specs.declared.Point.TheVariants as sampled
use Rattle.sampler.specs.Sampling.{Curved, answer_on_curve}
use Rattle.sampler.proofs.Refusals.{Looked}
use Rattle.sampler.proofs.Obeyed.{granted, curved}

-- a coordinate of the lent parts is one of the tables
module _ (t : Tables) (e : Element) (b : Body) (p : ℤ) (axis : ℕ) where
  abbrev along : BodyDirection
  along = body_direction b.basis b.degree_u b.count_u

  pub plane-control : eqb e.kind 5 ≡ true → (i : ℕ) → control_at t.vertices.vp t.elements.corners e.corners.first (1 + axis) i ≡ control_of t e axis i
  unfolding control_at control_of
  plane-control h i = rw h

  pub space-control : eqb e.kind 5 ≡ false → (i : ℕ) → control_at t.vertices.v t.elements.corners e.corners.first axis i ≡ control_of t e axis i
  unfolding control_at control_of
  space-control h i = rw h

  pub plane-coordinate : eqb e.kind 5 ≡ true → coordinate_by t.vertices.vp t.elements.corners e.corners.first along (parameters_u t b) p (1 + axis) ≡ curve_at t e b p axis
  unfolding curve_at
  plane-coordinate h =
      sampled-cong (direction along (parameters_u t b)) p (control_at t.vertices.vp t.elements.corners e.corners.first (1 + axis)) (control_of t e axis)
      (λ j l. plane-control h (first_control (direction along (parameters_u t b)) p + j))

  pub space-coordinate : eqb e.kind 5 ≡ false → coordinate_by t.vertices.v t.elements.corners e.corners.first along (parameters_u t b) p axis ≡ curve_at t e b p axis
  unfolding curve_at
  space-coordinate h =
      sampled-cong (direction along (parameters_u t b)) p (control_at t.vertices.v t.elements.corners e.corners.first axis) (control_of t e axis)
      (λ j l. space-control h (first_control (direction along (parameters_u t b)) p + j))

pub space-eq : {a b c d e f : ℤ} → a ≡ d → b ≡ e → c ≡ f → sampled.Space a b c ≡ sampled.Space d e f
space-eq p q r = cc

point-is : (t : Tables) (e : Element) (b : Body) (p : ℤ) (q : Bool) → eqb e.kind 5 ≡ q
    → point_answer (Ok (point_by e.kind t.vertices.v t.vertices.vp t.elements.corners e.corners.first (body_direction b.basis b.degree_u b.count_u) (parameters_u t b) p)) ≡ curve_point t e b p
unfolding point_by curve_point
point-is t e b p true h = rw h (ap₂ plane_point (plane-coordinate t e b p 0 h) (plane-coordinate t e b p 1 h))
point-is t e b p false h =
    rw h (ap (λ (q : Point). point_answer (Ok q)) (space-eq (space-coordinate t e b p 0 h) (space-coordinate t e b p 1 h) (space-coordinate t e b p 2 h)))

pub curve-found : {used : Used} {t : Tables} {number : ℕ} {e : Element} {b : Body} → Looked false used t number e b → Curved t e b
curve-found {used} {t} {number} l = rw (l.element-is, l.body_is) (curved used t number (granted false used t number l.given))

module _ (t : Tables) (e : Element) (b : Body) (p : ℤ) where
  pub curve-outside : inside b.start_u b.end_u p ≡ false → refused_point ParameterOutside ≡ answer_on_curve t e b p
  unfolding answer_on_curve
  curve-outside h = rw h

  pub curve-there : inside b.start_u b.end_u p ≡ true
      → point_answer (Ok (point_by e.kind t.vertices.v t.vertices.vp t.elements.corners e.corners.first (body_direction b.basis b.degree_u b.count_u) (parameters_u t b) p)) ≡ answer_on_curve t e b p
  unfolding answer_on_curve
  curve-there h = rw h (point-is t e b p (eqb e.kind 5) refl)

module _ (used : Used) (t : Tables) (number : ℕ) (p : ℤ) where
  pub refused-curve : {r : Reason} → refusal_of false used t number ≡ Some r → refused_point r ≡ point_on_curve used t number p
  unfolding point_on_curve
  refused-curve m = rw m

  pub curve-answered : {e : Element} {b : Body} → Looked false used t number e b → answer_on_curve t e b p ≡ point_on_curve used t number p
  unfolding point_on_curve answer_on_curve
  curve-answered l = rw (l.given, l.element-is, l.body_is)

-- a parameter that was found inside is sound in its direction
pub sound-inside : {a : BodyDirection} {x : List ℤ} {s e : ℤ} → Ranged a x s e → (p : ℤ) → inside s e p ≡ true → Sound a x p
sound-inside {a} {x} {s} {e} r p h = r.sound p (yes_le s p (and_left (le_z s p) (le_z p e) h)) (yes_le p e (and_right (le_z s p) (le_z p e) h))

-- a part that is lent from `from` to `from + count` has `count` numbers
pub part-is : (l : List ℤ) (from count : ℕ) → take (from + count - from) (drop from l) ≡ take count (drop from l)
part-is l from count =
    let c : from + count - from ≡ count = omega arith in
    ap (λ (q : ℕ). take q (drop from l)) c

-- what was read of the element and its body
pub record Read (t : Tables) (e : Element) (b : Body) (kind first from count : ℕ) (a : BodyDirection) : Type 0 where
  pub kind-is : kind ≡ e.kind
  pub first-is : first ≡ e.corners.first
  pub from_is : from ≡ b.first_parameter
  pub count-is : count ≡ b.count_u
  pub along-is : a ≡ body_direction b.basis b.degree_u b.count_u

module _ {t : Tables} {e : Element} {b : Body} {kind first from count : ℕ} {a : BodyDirection} (r : Read t e b kind first from count a) where
  pub run_is : take (from + count - from) (drop from t.bodies.parameters) ≡ parameters_u t b
  run_is = part-is t.bodies.parameters from count ∙ rw (r.from_is, r.count-is)

  pub curve-asked : (p q : ℤ) → q ≡ p → Curved t e b → inside b.start_u b.end_u p ≡ true
      → ControlsLent (cond (eqb kind 5) t.vertices.vp t.vertices.v) t.elements.corners first 0 a.controls × Sound a (take (from + count - from) (drop from t.bodies.parameters)) q
  curve-asked p q k c h = rw (run_is, k, r.kind-is, r.first-is, r.along-is) (c.held, sound-inside c.along.ranged p h)

  pub point-read : (p q : ℤ) → q ≡ p
      → point_by kind t.vertices.v t.vertices.vp t.elements.corners first a (take (from + count - from) (drop from t.bodies.parameters)) q
      ≡ point_by e.kind t.vertices.v t.vertices.vp t.elements.corners e.corners.first (body_direction b.basis b.degree_u b.count_u) (parameters_u t b) p
  point-read p q k = rw (run_is, k, r.kind-is, r.first-is, r.along-is)
