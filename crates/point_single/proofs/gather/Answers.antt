-- The row is gathered place by place.
use mathlib.Core.Path.{◌≡◌}
use Prim.Native.Nat.{◌+◌}
use native.Mathlib.Omega.{arith}
use Rattle.point_rows.proofs.Grids.{held-part}
use Rattle.point_single.proofs.Making.{gathered_none, gathered-more}
use Rattle.point_single.proofs.gather.Goals as goal

pub empty-row-requires : goal.empty-row-requires
empty-row-requires c = c.requires.2

pub loop-j-init : goal.loop-j-init
loop-j-init c = gathered_none c.empty-row.ensures.0 c.empty-row.ensures.1

pub overflow_add-from : goal.overflow_add-from
overflow_add-from c = let h = c.requires.0.within in omega arith

pub place_of-p-requires : goal.place_of-p-requires
place_of-p-requires c =
    let i = c.args.from + c.loop-j.j in
    (held-part i (i + 1) c.requires.0 (omega arith) (omega arith), c.requires.1)

pub offset_bounds-row-j : goal.offset_bounds-row-j
offset_bounds-row-j c = omega arith

pub bounds-row-j : goal.bounds-row-j
bounds-row-j c = omega arith

pub loop-j-preserved : goal.loop-j-preserved
loop-j-preserved c = gathered-more c.place_of-p.result c.loop-j.invariant (omega arith) c.place_of-p.ensures

pub returns : goal.returns
returns c =
    let l = c.loop-j in
    let e : c.loop-j.j ≡ c.args.n + 1 = omega arith in
    rw e at c.loop-j.invariant
