-- Must be believed: a promise reaches every definition of this file.
-- Demand 3: given room, a point is handed out, on a curve alone or as one of a run, and each of its coordinates differs from the exact value
-- by at most n/2 millionths on a curve of degree n, (m+n)/2 on a surface of degrees m and n. It is the rounding rule's, which the bound leaves room beside.
use Rattle.std.specs.Prelude.{◌≡◌, true, ◌⊎◌, List, ℕ, ◌+◌, ◌*◌, ◌-◌, ◌≤◌, ◌<◌, length, get_or, ℤ, pos, ◌≤ℤ◌}
use Rattle.rounding.specs.Fractions.{Close}
use Rattle.tables.specs.Tables.{Tables}
use Rattle.tables.specs.Records.{curve_kind, curve2_kind, surface_kind}
use Rattle.tables.specs.declared.Used.{Used}
use Rattle.record_rules.specs.Rules.{obeys, curves_before}
use Rattle.point_exact.specs.Exact.{curve_exact, surface_exact}
use Rattle.point_runs.specs.Runs.{tabulated, parameter_at}
use Rattle.sampler.specs.Points.{direction_u, direction_v, control_of, grid_of, axes_of, curve_at, surface_at, run_numbers}
use Rattle.sampler.specs.Answers.{PointAnswer, RunAnswer, element_of, body_of, filled_run, point_on_curve, point_on_surface, run_into}

-- any sampler: what it gives for every request, and the one that the entry points `point_on_curve`, `point_on_surface` and `run_on_curve` are equal to
pub record Sampler : Type 0 where
  pub curve : Used → Tables → (number : ℕ) (p : ℤ) → PointAnswer
  pub surface : Used → Tables → (number : ℕ) (p q : ℤ) → PointAnswer
  pub run : Used → Tables → (number steps at : ℕ) → List ℤ → RunAnswer

abbrev pub sampling : Sampler
sampling = record { curve = point_on_curve; surface = point_on_surface; run = run_into }

-- "any non-rational Bezier or B-spline curve or surface": the element of that number is used and is one
pub record Plain (used : Used) (t : Tables) (number : ℕ) : Type 0 where
  pub some : 1 ≤ number
  pub in_use : number ≤ used.elements
  pub plain : (body_of t number).rational ≡ 0
  pub type : ((body_of t number).basis ≡ 1) ⊎ ((body_of t number).basis ≡ 2)

-- "in tables that obey the rules": "tables obey the rules where nothing that 15 names is wrong for that element"
abbrev pub Obeying : Used → Tables → (number : ℕ) → Type 0
Obeying used t number = Plain used t number × (obeys used t (curves_before t (number - 1)) (number - 1) ≡ true)

abbrev pub IsCurve : Tables → (number : ℕ) → Type 0
IsCurve t number = ((element_of t number).kind ≡ curve_kind) ⊎ ((element_of t number).kind ≡ curve2_kind)

-- what r, the answer to a point, has to be: coordinate for coordinate the rounding rule's, and as near
pub record PointClaim (axes : ℕ) (rule : (axis : ℕ) → ℤ) (Near : (axis : ℕ) → ℤ → Type 0) (r : PointAnswer) : Type 0 where
  pub given : r.outcome.number ≡ 0
  pub rounded : r.outcome.coordinates ≡ tabulated axes rule
  pub near : (axis : ℕ) → axis < axes → Near axis (get_or r.outcome.coordinates axis (pos 0))

-- z is at most n/2 from the exact value at p on that axis
abbrev pub OnCurve : Tables → (number : ℕ) (p : ℤ) (axis : ℕ) → ℤ → Type 0
OnCurve t number p axis z = Close z (curve_exact (direction_u t (body_of t number)) p (control_of t (element_of t number) axis)) (body_of t number).degree_u

-- what r, the answer to a run into the table `points`, has to be: "each point held against the exact value at its own parameter"
pub record RunClaim (t : Tables) (number steps at : ℕ) (points : List ℤ) (r : RunAnswer) : Type 0 where
  pub rounded : r ≡ filled_run (axes_of (element_of t number) * (steps + 1)) at (run_numbers t (element_of t number) (body_of t number) steps) points
  pub near : (j axis : ℕ) → j ≤ steps → axis < axes_of (element_of t number)
      → OnCurve t number (parameter_at (body_of t number).start_u (body_of t number).end_u steps j) axis
      (get_or r.points (at + (axes_of (element_of t number) * j + axis)) (pos 0))

-- z is at most (m+n)/2 from the exact value at p along u and q along v on that axis
abbrev pub OnSurface : Tables → (number : ℕ) (p q : ℤ) (axis : ℕ) → ℤ → Type 0
OnSurface t number p q axis z =
    Close z
    (surface_exact (direction_u t (body_of t number)) (direction_v t (body_of t number)) p q (grid_of t (element_of t number) (body_of t number) axis))
    ((body_of t number).degree_u + (body_of t number).degree_v)

-- what is given of one element. "Take as parameter any whole number of millionths inside its stated range, on a surface any two": "start to end, both included, on a
-- surface in each direction"; "In a run of 1 to 65,536 steps the demand holds at every j = 0..N"
pub record ElementSampled (samples : Sampler) (used : Used) (t : Tables) (number : ℕ) : Type 0 where
  pub curve : IsCurve t number → (p : ℤ) → (body_of t number).start_u ≤ℤ p → p ≤ℤ (body_of t number).end_u
      → PointClaim (axes_of (element_of t number)) (curve_at t (element_of t number) (body_of t number) p) (OnCurve t number p) (samples.curve used t number p)
  pub run : IsCurve t number → (steps at : ℕ) (points : List ℤ) → 1 ≤ steps → steps ≤ 65536 → at + axes_of (element_of t number) * (steps + 1) ≤ length points
      → RunClaim t number steps at points (samples.run used t number steps at points)
  pub surface : (element_of t number).kind ≡ surface_kind
      → (p q : ℤ) → (body_of t number).start_u ≤ℤ p → p ≤ℤ (body_of t number).end_u → (body_of t number).start_v ≤ℤ q → q ≤ℤ (body_of t number).end_v
      → PointClaim 3 (surface_at t (element_of t number) (body_of t number) p q) (OnSurface t number p q) (samples.surface used t number p q)

abbrev pub ElementsSampled : Sampler → Type 0
ElementsSampled samples = (used : Used) (t : Tables) (number : ℕ) → Obeying used t number → ElementSampled samples used t number
