use Prim.Native.Nat.{◌-◌}
use lib.ListN.{length}
use Rattle.read_word_checks.proofs.Walks as W
use Rattle.read_word_checks.specs.Faults.{seen_by}
use Rattle.read_word_checks.proofs.walk.first_fault.Given as goal

abbrev pub invariant-loop-p : goal.invariant-loop-p
invariant-loop-p l = W.Faulting (seen_by l.seen) l.vp l.tests l.words l.text l.at l.i l.index

abbrev pub decreases-loop-p : goal.decreases-loop-p
decreases-loop-p l = length l.text - l.i
