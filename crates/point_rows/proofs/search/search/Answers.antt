-- The hint holds at each turn: what is found is the last that passes below i.
use native.Mathlib.Omega.{arith}
use mir.Facts.{to_z-of_z}
use Rattle.rounding.proofs.Bits.{read-back-given}
use Rattle.rounding.proofs.Order.{yes_lt, not-less}
use Rattle.point_exact.specs.Directions.{at}
use Rattle.point_rows.proofs.Searched.{limit-inside, ended, stopped, onward}
use Rattle.point_rows.proofs.search.search.Goals as goal

pub limit-i-end-requires : goal.limit-i-end-requires
limit-i-end-requires c = omega (arith, limit-inside c.requires.0)

pub loop-i-init : goal.loop-i-init
loop-i-init c = rw (to_z-of_z c.ranges.t) c.requires.1

pub offset_bounds-x-i : goal.offset_bounds-x-i
offset_bounds-x-i c = omega (arith, limit-inside c.requires.0, c.limit-i-end.ensures)

pub bounds-x-i : goal.bounds-x-i
bounds-x-i c = omega (arith, limit-inside c.requires.0, c.limit-i-end.ensures)

pub returns-then-t-x : goal.returns-then-t-x
returns-then-t-x c =
    stopped c.requires.0 (rw (to_z-of_z c.ranges.t) at c.loop-i.invariant) (omega (arith, c.loop-i-test.true, c.limit-i-end.ensures))
    (yes_lt c.args.t (at c.args.x.now c.loop-i.i) (rw (to_z-of_z c.ranges.t, read-back-given c.t12-1.given) at c.if-t-x.true))

pub later-found-requires : goal.later-found-requires
later-found-requires c = omega (arith, limit-inside c.requires.0, c.limit-i-end.ensures)

pub loop-i-preserved : goal.loop-i-preserved
loop-i-preserved c =
    let l = not-less (rw (to_z-of_z c.ranges.t, read-back-given {z = at c.args.x.now c.loop-i.i} c.t12-1.given) at c.if-t-x.false) in
    rw (to_z-of_z c.ranges.t, c.later-found.ensures) (onward c.requires.0 (rw (to_z-of_z c.ranges.t) at c.loop-i.invariant) (omega (arith, c.loop-i-test.true, c.limit-i-end.ensures)) l)

pub returns : goal.returns
returns c =
    ended c.requires.0 (rw (to_z-of_z c.ranges.t) at c.loop-i.invariant) (omega (arith, c.limit-i-end.ensures, c.loop-i-test.false, c.requires.1.upto))
