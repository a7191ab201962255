use Rattle.text.proofs.Loops as L
use Rattle.text.proofs.comment_end.Given as goal

abbrev pub invariant-loop-i : goal.invariant-loop-i
invariant-loop-i l = L.InComment l.text l.at l.i
