use Rattle.sweep_marks.proofs.Numbering.{Numbered}
use Rattle.sweep_marks.proofs.number_marks.Given as goal

abbrev pub invariant-loop-mark : goal.invariant-loop-mark
invariant-loop-mark l = Numbered l.initial.marks l.marks l.kept l.mark-index
