-- Points of an element that was looked up: what its records then promise, and the answers, 19 and 16 among them.
use Rattle.std.specs.Prelude.{cond, ◌&&◌, Bool, List, Result, Ok, Err, ℕ, ◌+◌, ◌*◌, ◌≤◌, ◌≡◌, leb, eqb, length, take, drop, ℤ}
use Rattle.tables.specs.Tables.{Tables}
use Rattle.tables.specs.Records.{surface_kind, curve2_kind}
use Rattle.tables.specs.declared.Body.{Body}
use Rattle.tables.specs.declared.Element.{Element}
use Rattle.point_rows.specs.Finding.{Sized}
use Rattle.point_rows.specs.Controls.{ControlsLent}
use Rattle.point_runs.specs.Inner.{Ranged}
use Rattle.sampler.specs.Points.{body_direction, axes_of, run_numbers}
use Rattle.sampler.specs.Answers.{PointAnswer, RunAnswer, inside, curve_point, surface_point, refused_point, refused_run, filled_run, element_of, body_of, refusal_of, refused_or}
use Rattle.tables.specs.declared.Used.{Used}
use Rattle.refusals.specs.declared.Reason.{Reason}
use Rattle.refusals.specs.declared.Reason.TheVariants.{NoOutputRoom, ParameterOutside}
use Rattle.sampler.specs.declared.Found.{Found}

-- one direction of a body: its p parameters stand from number `first` on
pub record Directed (l : List ℤ) (first type n p : ℕ) (s e : ℤ) : Type 0 where
  pub sized : Sized type n p
  pub ranged : Ranged (body_direction type n p) (take p (drop first l)) s e

-- a curve whose records obey: its parameters and controls are lent, its directions those of a curve
pub record Curved (t : Tables) (e : Element) (b : Body) : Type 0 where
  pub run : b.first_parameter + (b.count_u + b.count_v) ≤ length t.bodies.parameters
  pub counted : e.corners.count ≡ (body_direction b.basis b.degree_u b.count_u).controls
  pub held : ControlsLent (cond (eqb e.kind curve2_kind) t.vertices.vp t.vertices.v) t.elements.corners e.corners.first 0 (body_direction b.basis b.degree_u b.count_u).controls
  pub along : Directed t.bodies.parameters b.first_parameter b.basis b.degree_u b.count_u b.start_u b.end_u

-- the same of a surface
pub record Surfaced (t : Tables) (e : Element) (b : Body) : Type 0 where
  pub kind : e.kind ≡ surface_kind
  pub run : b.first_parameter + (b.count_u + b.count_v) ≤ length t.bodies.parameters
  pub counted : e.corners.count ≡ (body_direction b.basis b.degree_u b.count_u).controls * (body_direction b.basis b.degree_v b.count_v).controls
  pub held : ControlsLent t.vertices.v t.elements.corners e.corners.first 0 ((body_direction b.basis b.degree_u b.count_u).controls * (body_direction b.basis b.degree_v b.count_v).controls)
  pub along-u : Directed t.bodies.parameters b.first_parameter b.basis b.degree_u b.count_u b.start_u b.end_u
  pub along-v : Directed t.bodies.parameters (b.first_parameter + b.count_u) b.basis b.degree_v b.count_v b.start_v b.end_v

-- "19 parameter outside start..end", and the point
unfoldable pub answer_on_curve : Tables → Element → Body → (p : ℤ) → PointAnswer
answer_on_curve t e b p = cond (inside b.start_u b.end_u p) (curve_point t e b p) (refused_point ParameterOutside)

unfoldable pub answer_on_surface : Tables → Element → Body → (p q : ℤ) → PointAnswer
answer_on_surface t e b p q =
    cond (inside b.start_u b.end_u p && inside b.start_v b.end_v q) (surface_point t e b p q) (refused_point ParameterOutside)

-- "or a run of 0 or over 65,536 steps; 16 no room for the run"
unfoldable pub answer_of_run : Tables → Element → Body → (steps at : ℕ) → List ℤ → RunAnswer
answer_of_run t e b steps at points =
    cond (leb 1 steps && leb steps 65536)
    (cond (leb (at + axes_of e * (steps + 1)) (length points)) (filled_run (axes_of e * (steps + 1)) at (run_numbers t e b steps) points) (refused_run points NoOutputRoom))
    (refused_run points ParameterOutside)

-- the element with its body where none of them is given
unfoldable pub lookup_of : (surface : Bool) → Used → Tables → ℕ → Result Found Reason
lookup_of surface used t number = refused_or (refusal_of surface used t number) Err (Ok (record { element = element_of t number; body = body_of t number }))
