-- Must be believed: a promise reaches every definition of this file.
-- 01, "How a point is made", over the tables: an element's directions, its controls and its points.
use Rattle.std.specs.Prelude.{cond, List, ℕ, ◌+◌, ◌*◌, ◌-◌, eqb, ℤ}
use Rattle.tables.specs.Tables.{Tables}
use Rattle.tables.specs.Records.{corner_at, value_at, v_width, vp_width, parameters_u, parameters_v, curve2_kind}
use Rattle.tables.specs.declared.Body.{Body}
use Rattle.tables.specs.Bodies.{bezier, bspline, controls}
use Rattle.tables.specs.declared.Element.{Element}
use Rattle.point_exact.specs.Directions.{Direction}
use Rattle.point_exact.specs.Sampled.{curve_sampled, surface_sampled}
use Rattle.point_rows.specs.Places.{direction}
use Rattle.point_runs.specs.Runs.{joined, tabulated, parameter_at}
use Rattle.point_rows.specs.declared.BodyDirection.{BodyDirection}

-- "Controls k along one direction, from p parameters and degree n", of the two types that are sampled
abbrev pub body_direction : (type n p : ℕ) → BodyDirection
body_direction type n p = record { basis = type; degree = n; controls = controls (cond (eqb type 2) bspline bezier) n p }

abbrev pub direction_u : Tables → Body → Direction
direction_u t b = direction (body_direction b.basis b.degree_u b.count_u) (parameters_u t b)

abbrev pub direction_v : Tables → Body → Direction
direction_v t b = direction (body_direction b.basis b.degree_v b.count_v) (parameters_v t b)

-- "the control's number on that axis": "surf and curv give x y z, curv2 u v"; a vp record holds u and v after the count given
unfoldable pub control_of : Tables → Element → (axis i : ℕ) → ℤ
control_of t e axis i =
    cond (eqb e.kind curve2_kind)
    (value_at vp_width t.vertices.vp ((corner_at t e.corners i).v - 1) (1 + axis))
    (value_at v_width t.vertices.v ((corner_at t e.corners i).v - 1) axis)

abbrev pub axes_of : Element → ℕ
axes_of e = cond (eqb e.kind curve2_kind) 2 3

-- one coordinate of a curve's point
unfoldable pub curve_at : Tables → Element → Body → (p : ℤ) (axis : ℕ) → ℤ
curve_at t e b p axis = curve_sampled (direction_u t b) p (control_of t e axis)

-- "A surface has k_u times k_v controls, u varying fastest": the number on that axis of the control at i along u and j along v
abbrev pub grid_of : Tables → Element → Body → (axis i j : ℕ) → ℤ
grid_of t e b axis i j = control_of t e axis (j * (direction_u t b).controls + i)

-- one coordinate of a surface's point
unfoldable pub surface_at : Tables → Element → Body → (p q : ℤ) (axis : ℕ) → ℤ
surface_at t e b p q axis = surface_sampled (direction_u t b) (direction_v t b) p q (grid_of t e b axis)

-- the numbers of a run's points, one point after the other
unfoldable pub run_numbers : Tables → Element → Body → (steps : ℕ) → List ℤ
run_numbers t e b steps = joined (steps + 1) (λ j. tabulated (axes_of e) (curve_at t e b (parameter_at b.start_u b.end_u steps j)))
