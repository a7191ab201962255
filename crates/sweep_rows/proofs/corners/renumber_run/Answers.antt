-- The invariant: the corners passed have their new numbers, and those to come are as lent.
use Rattle.sweep_rows.proofs.Renumbering.{renumbered-none, renumbered-more}
use native.Mathlib.Omega.{arith}
use Rattle.table_store.proofs.Stores.{put_of}
use Rattle.sweep_rows.proofs.corners.renumber_run.Goals as goal

pub loop-k-init : goal.loop-k-init
loop-k-init c = let a = c.args in renumbered-none a.used a.numbers.now a.corners.now a.kind a.run

pub loop-k-preserved : goal.loop-k-preserved
loop-k-preserved c =
    let from = c.corner_place.ensures in
    let answer = put_of c.loop-k.corners c.corner_place.result c.corner_row-row.ensures (c.put.ensures.value, c.put.ensures.entries_after) in
    renumbered-more _ _ c.loop-k.invariant c.requires (omega arith) c.lent_corner-old.ensures c.corner_by-new.ensures (rw from at answer.0) (rw from at answer.1)
