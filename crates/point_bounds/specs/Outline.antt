-- Must be believed: a promise reaches every definition of this file.
-- Q-8, "The head must stay inside the block", of the lent tables: every coordinate of a point, alone, in a run or of a polyline, on a curve or a surface.
use Rattle.std.specs.Prelude.{◌≡◌, List, ℕ, ◌+◌, ◌*◌, ◌-◌, ◌≤◌, ◌<◌, length, get_or, ℤ, pos, ◌≤ℤ◌}
use Rattle.tables.specs.Tables.{Tables}
use Rattle.tables.specs.Records.{surface_kind}
use Rattle.tables.specs.declared.Used.{Used}
use Rattle.point_exact.specs.Outline.{Within, WithinGrid, starting_row, starting_grid, AtParameter}
use Rattle.point_runs.specs.Runs.{parameter_at}
use Rattle.sampler.specs.Points.{direction_u, direction_v, control_of, grid_of, axes_of}
use Rattle.sampler.specs.Answers.{element_of, body_of}
use Rattle.sampler.specs.Demand3.{Sampler, Obeying, IsCurve}
use Rattle.polyline.specs.Answers.{parameters_of, polyline_room, polyline_into}

-- "The operator clamps the block by the control points' outline": z lies within all of the element's controls on that axis
abbrev pub InBlock : Tables → (number axis : ℕ) → ℤ → Type 0
InBlock t number axis z = Within ((element_of t number).corners.count - 1) (control_of t (element_of t number) axis) z

-- ---- a curve: z is a coordinate of its point at p
pub record InsideCurve (t : Tables) (number : ℕ) (p : ℤ) (axis : ℕ) (z : ℤ) : Type 0 where
  -- "between the least and the greatest value on that axis among the controls that its de Casteljau or de Boor starts from, ends included"
  pub outline : Within (body_of t number).degree_u (starting_row (direction_u t (body_of t number)) p (control_of t (element_of t number) axis)) z
  pub block : InBlock t number axis z
  -- "a parameter in start..end at the start or end of a Bezier segment .. gives that control point exactly"
  pub exact : (g : ℕ) → AtParameter (direction_u t (body_of t number)) p g → z ≡ control_of t (element_of t number) axis (g * (body_of t number).degree_u)

-- ---- a surface: z is a coordinate of its point at p along u and q along v
pub record InsideSurface (t : Tables) (number : ℕ) (p q : ℤ) (axis : ℕ) (z : ℤ) : Type 0 where
  pub outline : WithinGrid (body_of t number).degree_u (body_of t number).degree_v
      (starting_grid (direction_u t (body_of t number)) (direction_v t (body_of t number)) p q (grid_of t (element_of t number) (body_of t number) axis)) z
  pub block : InBlock t number axis z
  -- "(on a surface, both parameters)"
  pub exact : (g h : ℕ) → AtParameter (direction_u t (body_of t number)) p g → AtParameter (direction_v t (body_of t number)) q h
      → z ≡ grid_of t (element_of t number) (body_of t number) axis (g * (body_of t number).degree_u) (h * (body_of t number).degree_v)

-- ---- the points of an element: alone, in a run and of a polyline, each at its own parameter, and on a surface
pub record ElementInside (samples : Sampler) (used : Used) (t : Tables) (number : ℕ) : Type 0 where
  pub curve : IsCurve t number → (p : ℤ) → (body_of t number).start_u ≤ℤ p → p ≤ℤ (body_of t number).end_u
      → (axis : ℕ) → axis < axes_of (element_of t number) → InsideCurve t number p axis (get_or (samples.curve used t number p).outcome.coordinates axis (pos 0))
  pub run : IsCurve t number → (steps at : ℕ) (points : List ℤ) → 1 ≤ steps → steps ≤ 65536 → at + axes_of (element_of t number) * (steps + 1) ≤ length points
      → (j axis : ℕ) → j ≤ steps → axis < axes_of (element_of t number)
      → InsideCurve t number (parameter_at (body_of t number).start_u (body_of t number).end_u steps j) axis
      (get_or (samples.run used t number steps at points).points (at + (axes_of (element_of t number) * j + axis)) (pos 0))
  pub polyline : IsCurve t number → (tolerance : ℤ) (at : ℕ) (points : List ℤ) → pos 0 ≤ℤ tolerance → at + polyline_room used t number tolerance ≤ length points
      → (j axis : ℕ) → j < length (parameters_of used t number tolerance) → axis < axes_of (element_of t number)
      → InsideCurve t number (get_or (parameters_of used t number tolerance) j (pos 0)) axis
      (get_or (polyline_into used t number tolerance at points).points (at + (axes_of (element_of t number) * j + axis)) (pos 0))
  pub surface : (element_of t number).kind ≡ surface_kind
      → (p q : ℤ) → (body_of t number).start_u ≤ℤ p → p ≤ℤ (body_of t number).end_u → (body_of t number).start_v ≤ℤ q → q ≤ℤ (body_of t number).end_v
      → (axis : ℕ) → axis < 3 → InsideSurface t number p q axis (get_or (samples.surface used t number p q).outcome.coordinates axis (pos 0))

abbrev pub ElementsInside : Sampler → Type 0
ElementsInside samples = (used : Used) (t : Tables) (number : ℕ) → Obeying used t number → ElementInside samples used t number
