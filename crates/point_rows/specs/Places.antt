-- Must be believed: a promise reaches every definition of this file.
-- What the code knows of one direction and of a parameter t in it.
use Rattle.std.specs.Prelude.{cond, List, ℕ, eqb, ℤ}
use Rattle.point_exact.specs.Directions.{PointBasis, bezier, bspline, Direction}
use Rattle.point_rows.specs.declared.BodyDirection.{BodyDirection}

-- type 2 is bspline; of the types that are sampled the other is bezier
abbrev pub point_basis : ℕ → PointBasis
point_basis type = cond (eqb type 2) bspline bezier

abbrev pub direction : BodyDirection → List ℤ → Direction
direction a x = record { basis = point_basis a.basis; degree = a.degree; controls = a.controls; parameters = x }
