use Prim.Native.Nat.{◌-◌}
use lib.ListN.{length}
use Rattle.spellings.proofs.Compare.{Compared}
use Rattle.spellings.proofs.same_word.Given as goal

abbrev pub invariant-loop-at : goal.invariant-loop-at
invariant-loop-at l = Compared l.text l.at l.table l.from l.i l.j

abbrev pub decreases-loop-at : goal.decreases-loop-at
decreases-loop-at l = length l.text - l.i
