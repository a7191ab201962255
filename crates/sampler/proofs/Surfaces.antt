-- A surface's answers by the tests that lead to each, and its points of the parts that are lent as those of the tables.
use mathlib.Core.Path.{◌≡◌, ap, ◌∙◌}
use mathlib.Core.Bool.{true, false}
use Prim.Native.Nat.{ℕ, ◌+◌, ◌*◌, ◌-◌}
use native.Mathlib.Omega.{arith}
use borrow.Author.Tests.{ne_eqb}
use lib.Dec.{eqb}
use lib.IntN.{ℤ}
use lib.ListN.{take, drop}
use Rattle.tables.specs.Tables.{Tables}
use Rattle.tables.specs.Records.{parameters_u, parameters_v}
use Rattle.tables.specs.declared.Body.{Body}
use Rattle.tables.specs.declared.Used.{Used}
use Rattle.tables.specs.declared.Element.{Element}
use Rattle.point_exact.proofs.Pyramid.{surface-cong}
use Rattle.point_rows.specs.Places.{direction}
use Rattle.point_rows.specs.Finding.{Sound}
use Rattle.point_rows.specs.Controls.{control_at, ControlsLent}
use Rattle.point_rows.specs.declared.BodyDirection.{BodyDirection}
use Rattle.sampler.specs.Points.{body_direction, grid_of, surface_at}
use Rattle.std.specs.Prelude.{Some, Ok}
use Rattle.refusals.specs.declared.Reason.{Reason}
use Rattle.refusals.specs.declared.Reason.TheVariants.{ParameterOutside}
use Rattle.sampler.specs.declared.Point.{Point}
use Rattle.sampler.specs.Answers.{point_answer, refusal_of, refused_point, inside, surface_point, point_on_surface}
use Rattle.sampler.specs.Inner.{across_by, surface_by}
use Rattle.sampler.specs.Sampling.{Surfaced, answer_on_surface}
use Rattle.sampler.proofs.Refusals.{Looked}
use Rattle.sampler.proofs.Obeyed.{granted, surfaced}
use Rattle.sampler.proofs.Entries.{space-control, space-eq, sound-inside, part-is}

module _ (t : Tables) (e : Element) (b : Body) (p q : ℤ) (other : eqb e.kind 5 ≡ false) where
  abbrev along-u : BodyDirection
  along-u = body_direction b.basis b.degree_u b.count_u

  abbrev along-v : BodyDirection
  along-v = body_direction b.basis b.degree_v b.count_v

  across-is : (axis : ℕ) → across_by t.vertices.v t.elements.corners e.corners.first along-u along-v (parameters_u t b) (parameters_v t b) p q axis ≡ surface_at t e b p q axis
  unfolding surface_at
  across-is axis =
      surface-cong (direction along-u (parameters_u t b)) (direction along-v (parameters_v t b)) p q
      (λ i j. control_at t.vertices.v t.elements.corners e.corners.first axis (j * along-u.controls + i)) (grid_of t e b axis)
      (λ i j. space-control t e b p axis other (j * along-u.controls + i))

  surface-is : point_answer (Ok (surface_by t.vertices.v t.elements.corners e.corners.first along-u along-v (parameters_u t b) (parameters_v t b) p q)) ≡ surface_point t e b p q
  unfolding surface_by surface_point
  surface-is = ap (λ (q : Point). point_answer (Ok q)) (space-eq (across-is 0) (across-is 1) (across-is 2))

no-curve2 : (kind : ℕ) → kind ≡ 6 → eqb kind 5 ≡ false
no-curve2 kind s = ne_eqb kind 5 (λ k. omega (arith, s))

pub surface-found : {used : Used} {t : Tables} {number : ℕ} {e : Element} {b : Body} → Looked true used t number e b → Surfaced t e b
surface-found {used} {t} {number} l = rw (l.element-is, l.body_is) (surfaced used t number (granted true used t number l.given))

module _ (t : Tables) (e : Element) (b : Body) (p q : ℤ) where
  pub outside-u : inside b.start_u b.end_u p ≡ false → refused_point ParameterOutside ≡ answer_on_surface t e b p q
  unfolding answer_on_surface
  outside-u h = rw h

  module _ (in-u : inside b.start_u b.end_u p ≡ true) where
    pub outside-v : inside b.start_v b.end_v q ≡ false → refused_point ParameterOutside ≡ answer_on_surface t e b p q
    unfolding answer_on_surface
    outside-v h = rw (in-u, h)

    pub surface-there : e.kind ≡ 6 → inside b.start_v b.end_v q ≡ true
        → point_answer (Ok (surface_by t.vertices.v t.elements.corners e.corners.first (body_direction b.basis b.degree_u b.count_u) (body_direction b.basis b.degree_v b.count_v) (parameters_u t b) (parameters_v t b) p q))
        ≡ answer_on_surface t e b p q
    unfolding answer_on_surface
    surface-there k h = rw (in-u, h) (surface-is t e b p q (no-curve2 e.kind k))

module _ (used : Used) (t : Tables) (number : ℕ) (p q : ℤ) where
  pub refused-surface : {r : Reason} → refusal_of true used t number ≡ Some r → refused_point r ≡ point_on_surface used t number p q
  unfolding point_on_surface
  refused-surface m = rw m

  pub surface-answered : {e : Element} {b : Body} → Looked true used t number e b → answer_on_surface t e b p q ≡ point_on_surface used t number p q
  unfolding point_on_surface answer_on_surface
  surface-answered l = rw (l.given, l.element-is, l.body_is)

-- what was read of the element and its body
pub record Laid (t : Tables) (e : Element) (b : Body) (first from m n : ℕ) (u v : BodyDirection) : Type 0 where
  pub first-is : first ≡ e.corners.first
  pub from_is : from ≡ b.first_parameter
  pub count-u-is : m ≡ b.count_u
  pub count-v-is : n ≡ b.count_v
  pub along-u-is : u ≡ body_direction b.basis b.degree_u b.count_u
  pub along-v-is : v ≡ body_direction b.basis b.degree_v b.count_v

module _ {t : Tables} {e : Element} {b : Body} {first from m n : ℕ} {u v : BodyDirection} (r : Laid t e b first from m n u v) where
  u-run : take (from + m - from) (drop from t.bodies.parameters) ≡ parameters_u t b
  u-run = part-is t.bodies.parameters from m ∙ rw (r.from_is, r.count-u-is)

  v-run : take (from + m + n - (from + m)) (drop (from + m) t.bodies.parameters) ≡ parameters_v t b
  v-run = part-is t.bodies.parameters (from + m) n ∙ rw (r.from_is, r.count-u-is, r.count-v-is)

  pub surface-asked : (p p' q q' : ℤ) → p' ≡ p → q' ≡ q → Surfaced t e b → inside b.start_u b.end_u p ≡ true → inside b.start_v b.end_v q ≡ true
      → ControlsLent t.vertices.v t.elements.corners first 0 (u.controls * v.controls) × Sound u (take (from + m - from) (drop from t.bodies.parameters)) p'
      × Sound v (take (from + m + n - (from + m)) (drop (from + m) t.bodies.parameters)) q'
  surface-asked p p' q q' k l c g h =
      rw (v-run, u-run, k, l, r.first-is, r.along-u-is, r.along-v-is) (c.held, sound-inside c.along-u.ranged p g, sound-inside c.along-v.ranged q h)

  pub surface-read : (p p' q q' : ℤ) → p' ≡ p → q' ≡ q
      → surface_by t.vertices.v t.elements.corners first u v (take (from + m - from) (drop from t.bodies.parameters)) (take (from + m + n - (from + m)) (drop (from + m) t.bodies.parameters)) p' q'
      ≡ surface_by t.vertices.v t.elements.corners e.corners.first (body_direction b.basis b.degree_u b.count_u) (body_direction b.basis b.degree_v b.count_v) (parameters_u t b) (parameters_v t b) p q
  surface-read p p' q q' k l = rw (v-run, u-run, k, l, r.first-is, r.along-u-is, r.along-v-is)
