use Rattle.spellings.proofs.Walk.{Walked}
use Rattle.spellings.proofs.row_at.Given as goal

abbrev pub invariant-loop-row : goal.invariant-loop-row
invariant-loop-row l = Walked l.text l.at l.table l.rows l.row
