use Rattle.sweep_rows.proofs.Moving.{Moved}
use Rattle.sweep_rows.proofs.rows.move_rows.Given as goal

abbrev pub invariant-loop-i : goal.invariant-loop-i
invariant-loop-i l = Moved l.width l.numbers l.initial.values l.values l.to l.i
