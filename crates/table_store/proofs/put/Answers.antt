-- After i turns the row's first i numbers are stored from `at` on: `StoredTo`.
use Rattle.table_store.proofs.Stores.{stored_more}
use Rattle.table_store.proofs.put.Goals as goal

pub loop-i-preserved : goal.loop-i-preserved
loop-i-preserved g c =
    let a = c.args in
    stored_more a.entries.now a.at a.row.now c.loop-i.invariant c.index-row-i.result c.loop-i-test.true c.index-row-i.is
