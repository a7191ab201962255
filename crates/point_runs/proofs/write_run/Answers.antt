-- The kind says from which table, and how many numbers a point has.
use native.Mathlib.Omega.{arith}
use borrow.Author.Tests.{eq-eqb, ne_eqb}
use mir.Facts.{to_z-of_z}
use Rattle.point_runs.specs.Inner.{run_by}
use Rattle.point_runs.proofs.write_run.Goals as goal

pub write_points-requires : goal.write_points-requires
write_points-requires c =
    let e = eq-eqb _ _ c.if-kind-eq-CURVE2.true in
    rw (to_z-of_z c.ranges.start, to_z-of_z c.ranges.end) (rw e at c.requires.0, omega arith, omega arith, omega arith, c.requires.1, c.requires.2, c.requires.3, rw e at c.requires.4)

pub write_points-requires-else-kind-eq-CURVE2 : goal.write_points-requires-else-kind-eq-CURVE2
write_points-requires-else-kind-eq-CURVE2 c =
    let e = ne_eqb _ _ c.if-kind-eq-CURVE2.false in
    rw (to_z-of_z c.ranges.start, to_z-of_z c.ranges.end) (rw e at c.requires.0, omega arith, omega arith, omega arith, c.requires.1, c.requires.2, c.requires.3, rw e at c.requires.4)

pub returns-then-kind-eq-CURVE2 : goal.returns-then-kind-eq-CURVE2
unfolding run_by
returns-then-kind-eq-CURVE2 c =
    rw c.if-kind-eq-CURVE2.true (rw (to_z-of_z c.ranges.start, to_z-of_z c.ranges.end) at c.write_points.ensures)

pub returns-else-kind-eq-CURVE2 : goal.returns-else-kind-eq-CURVE2
unfolding run_by
returns-else-kind-eq-CURVE2 c =
    rw (ne_eqb _ _ c.if-kind-eq-CURVE2.false) (rw (to_z-of_z c.ranges.start, to_z-of_z c.ranges.end) at c.write_points-else-kind-eq-CURVE2.ensures)
