-- The walk over the table, held against the range.
use mathlib.Core.Path.{◌∙◌}
use native.Mathlib.Omega.{arith}
use mir.Facts.{to_z-of_z}
use Rattle.basis.proofs.Walks.{walk-holds}
use Rattle.basis.proofs.in_order.Goals as goal

pub returns : goal.returns
returns c =
    let a = c.requires.0 in
    let e = rw (c.walk.ensures, c.requirement_of.ensures, to_z-of_z c.ranges.start, to_z-of_z c.ranges.end) at c.holds.ensures in
    e ∙ walk-holds c.args.basis c.args.n c.args.x.now c.args.start c.args.end (omega arith) c.requires.1
