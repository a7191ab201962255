use Rattle.digits.proofs.Runs.{Going}
use Rattle.digits.proofs.whole_run.Given as goal

abbrev pub invariant-loop-i : goal.invariant-loop-i
invariant-loop-i l = Going l.text l.at l.i l.value
