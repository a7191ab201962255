-- Two or three stores at the front.
use mathlib.Core.Path.{◌≡◌}
use native.Mathlib.Omega.{arith}
use lib.ListN.{length-set}
use mir.Facts.{to_z-of_z}
use Rattle.point_runs.proofs.Written.{two-stored, three-stored}
use Rattle.point_runs.proofs.write_point.Goals as goal

pub bounds-points-1 : goal.bounds-points-1
bounds-points-1 c = simp length-set (omega arith)

pub bounds-points-2 : goal.bounds-points-2
bounds-points-2 c = simp length-set (omega arith)

pub returns-then-axes-eq3 : goal.returns-then-axes-eq3
returns-then-axes-eq3 c =
    let a = c.args in
    rw (to_z-of_z c.ranges.x, to_z-of_z c.ranges.y, to_z-of_z c.ranges.z, c.if-axes-eq3.true) (three-stored a.points.now a.x a.y a.z (omega arith))

pub returns-else-axes-eq3 : goal.returns-else-axes-eq3
returns-else-axes-eq3 c =
    let a = c.args in
    let e : a.axes ≡ 2 = omega (arith, c.if-axes-eq3.false) in
    rw (to_z-of_z c.ranges.x, to_z-of_z c.ranges.y, e) (two-stored a.points.now a.x a.y a.z (omega arith))
