-- A spline's interval is made anew; a Bezier segment's is the first (`one-interval`).
use borrow.Author.Tests.{ne_eqb}
use native.Mathlib.Omega.{arith}
use mir.Facts.{to_z-of_z}
use Rattle.point_guess.proofs.Weights.{one-gap}
use Rattle.point_guess.proofs.interval_of.Goals as goal

pub interval_at-requires : goal.interval_at-requires
interval_at-requires c = rw (to_z-of_z c.ranges.t) (c.requires.0, omega arith, omega arith)

pub returns-then-along-eq-BSPLINE : goal.returns-then-along-eq-BSPLINE
returns-then-along-eq-BSPLINE c = rw (to_z-of_z c.ranges.t) at c.interval_at.ensures

pub returns : goal.returns
returns c =
    let e = ne_eqb c.args.along.basis 2 c.if-along-eq-BSPLINE.false in
    one-gap c.args.along c.args.x.now c.args.t e c.args.r c.args.j (c.requires.3 e (omega arith))
