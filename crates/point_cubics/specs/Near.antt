-- Must be believed: a promise reaches every definition of this file.
-- 02, Q-14: "Each coordinate is within half a millionth of the exact value at j/64", and "the two paths never differ by more than two millionths
-- where j/64 falls on a whole millionth of the parameter".
use Rattle.std.specs.Prelude.{◌≡◌, ℕ, ◌+◌, ◌≤◌, ◌<◌, length, get_or, ℤ, pos, nat_abs, ◌-ℤ◌, ◌*ℤ◌, ◌≤ℤ◌}
use Rattle.rounding.specs.Fractions.{over, ◌≈◌, Close}
use Rattle.tables.specs.Tables.{Tables}
use Rattle.tables.specs.Records.{parameters_u}
use Rattle.tables.specs.declared.Used.{Used}
use Rattle.point_exact.specs.Exact.{curve_exact, segment_exact}
use Rattle.sampler.specs.Points.{direction_u, control_of, axes_of}
use Rattle.sampler.specs.Answers.{PointAnswer, element_of, body_of}
use Rattle.sampler.specs.Demand3.{Sampler, Obeying, IsCurve}
use Rattle.point_cubics.specs.Answers.{parameter64}

-- a cubic Bezier curve in tables that obey the rules, and a step of one of its segments inside the stated range: nothing refuses
pub record Step (used : Used) (t : Tables) (number g j : ℕ) : Type 0 where
  pub curve : Obeying used t number × IsCurve t number
  pub type : (body_of t number).basis ≡ 1
  pub degree : (body_of t number).degree_u ≡ 3
  pub step : j ≤ 64
  pub segment : g + 2 ≤ length (parameters_u t (body_of t number))
  pub from : (pos 64 *ℤ (body_of t number).start_u) ≤ℤ parameter64 (parameters_u t (body_of t number)) g j
  pub upto : parameter64 (parameters_u t (body_of t number)) g j ≤ℤ (pos 64 *ℤ (body_of t number).end_u)

-- what r, the answer to the step, has to be: a point is handed out, and each coordinate is at most 1/2 from the exact value at j/64 of segment g
pub record StepClaim (t : Tables) (number g j : ℕ) (r : PointAnswer) : Type 0 where
  pub given : r.outcome.number ≡ 0
  pub axes : length r.outcome.coordinates ≡ axes_of (element_of t number)
  pub near : (axis : ℕ) → axis < axes_of (element_of t number)
      → Close (get_or r.outcome.coordinates axis (pos 0))
      (segment_exact (direction_u t (body_of t number)) g (over (pos j) (pos 64)) (control_of t (element_of t number) axis)) 1

abbrev pub PointsInSteps : (Used → Tables → (number g j : ℕ) → PointAnswer) → Type 0
PointsInSteps samples = (used : Used) (t : Tables) (number g j : ℕ) → Step used t number g j → StepClaim t number g j (samples used t number g j)

-- where the step is the whole number p of millionths: the exact value is the other path's at p, and the other path's point r, handed out too,
-- is at most 2 from the step's point q in each coordinate
pub record PathsAgree (t : Tables) (number g j : ℕ) (p : ℤ) (q r : PointAnswer) : Type 0 where
  pub exact : (axis : ℕ)
      → segment_exact (direction_u t (body_of t number)) g (over (pos j) (pos 64)) (control_of t (element_of t number) axis)
      ≈ curve_exact (direction_u t (body_of t number)) p (control_of t (element_of t number) axis)
  pub given : r.outcome.number ≡ 0
  pub apart : (axis : ℕ) → axis < axes_of (element_of t number)
      → nat_abs (get_or q.outcome.coordinates axis (pos 0) -ℤ get_or r.outcome.coordinates axis (pos 0)) ≤ 2

abbrev pub TwoPaths : (Used → Tables → (number g j : ℕ) → PointAnswer) → Sampler → Type 0
TwoPaths samples others =
    (used : Used) (t : Tables) (number g j : ℕ) (p : ℤ) → Step used t number g j → pos 64 *ℤ p ≡ parameter64 (parameters_u t (body_of t number)) g j
    → PathsAgree t number g j p (samples used t number g j) (others.curve used t number p)
