-- Must be believed: a promise reaches every definition of this file.
-- 01, "How a point is made", of what a file says, with no table between: a body's directions and an element's controls.
use Rattle.std.specs.Prelude.{ℕ, ◌+◌, ◌*◌, ◌-◌, List, [], cond, length, get_or, ℤ, pos}
use Rattle.references.specs.Corner.{Corner}
use Rattle.tables.specs.Bodies.{Basis, is_bspline, controls}
use Rattle.point_exact.specs.Directions.{Direction}
use Rattle.point_exact.specs.Directions as curves
use Rattle.model.specs.Model.{Vertices, Free, surface, Body}
use Rattle.model.specs.Parse.{is_planar}

-- of the types that are sampled; the others are refused with 18
abbrev pub sampled_basis : Basis → curves.PointBasis
sampled_basis t = cond (is_bspline t) curves.bspline curves.bezier

-- "Controls k along one direction, from p parameters and degree n"
abbrev pub sampled_direction : Basis → ℕ → List ℤ → Direction
sampled_direction t n x = record { basis = sampled_basis t; degree = n; controls = controls t n (length x); parameters = x }

abbrev pub along_u : Body → Direction
along_u b = sampled_direction b.basis b.degree-u b.us

abbrev pub along_v : Body → Direction
along_v b = sampled_direction b.basis b.degree-v b.vs

-- the number of vertex k on an axis, which counts from 1 in its list
abbrev pub coordinate_in : List (List ℤ) → (k axis : ℕ) → ℤ
coordinate_in zs k axis = get_or (get_or zs (k - 1) []) axis (pos 0)

abbrev pub vertex_of_corner : List Corner → ℕ → ℕ
vertex_of_corner cs i = (get_or cs i (record { v = 0; vt = 0; vn = 0 })).v

-- "the control's number on that axis": "surf and curv give x y z, curv2 u v"; a vp record holds u and v after the count given
abbrev pub control_in : Vertices → Free → List Corner → (axis i : ℕ) → ℤ
control_in x k cs axis i = cond (is_planar k) (coordinate_in x.vp (vertex_of_corner cs i) (1 + axis)) (coordinate_in x.v (vertex_of_corner cs i) axis)

abbrev pub axes_in : Free → ℕ
axes_in k = cond (is_planar k) 2 3

-- "A surface has k_u times k_v controls, u varying fastest"
abbrev pub grid_in : Vertices → Body → List Corner → (axis i j : ℕ) → ℤ
grid_in x b cs axis i j = control_in x surface cs axis (j * (along_u b).controls + i)
