use Rattle.std.proofs.Common.{◌-◌, length}
use Rattle.tidy_words.proofs.NamesLeft.{NamesLeft}
use Rattle.tidy_words.proofs.names.emit_words.Given as goal

abbrev pub invariant-loop-p : goal.invariant-loop-p
invariant-loop-p l = NamesLeft l.part l.at l.initial.out l.out l.i l.to

abbrev pub decreases-loop-p : goal.decreases-loop-p
decreases-loop-p l = length l.part - l.i
