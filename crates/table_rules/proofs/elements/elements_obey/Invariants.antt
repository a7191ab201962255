use Rattle.tables.specs.Lent.{lent}
use Rattle.table_rules.proofs.Pass.{Passed}
use Rattle.table_rules.proofs.elements.elements_obey.Given as goal

abbrev pub invariant-loop-i : goal.invariant-loop-i
invariant-loop-i l = Passed l.used (lent l.t) l.i l.curves l.ends
