use Rattle.std.proofs.Common.{◌-◌, length}
use Rattle.tidy_words.proofs.Naming as N
use Rattle.tidy_words.proofs.names.same_words.Given as goal

abbrev pub invariant-loop-p : goal.invariant-loop-p
invariant-loop-p l = N.Comparing l.one l.other l.i l.j

abbrev pub decreases-loop-p : goal.decreases-loop-p
decreases-loop-p l = length l.one - l.i
