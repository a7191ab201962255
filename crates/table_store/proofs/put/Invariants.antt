use Rattle.table_store.proofs.Stores.{StoredTo}
use Rattle.table_store.proofs.put.Given as goal

abbrev pub invariant-loop-i : goal.invariant-loop-i
invariant-loop-i g l = StoredTo l.initial.entries l.at l.row l.entries l.i
