use Rattle.spellings.proofs.Write.{Sought}
use Rattle.spellings.proofs.row_of.Given as goal

abbrev pub invariant-loop-row : goal.invariant-loop-row
invariant-loop-row l = Sought l.table l.letter l.rows l.row
