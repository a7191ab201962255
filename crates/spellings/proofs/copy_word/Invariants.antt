use Prim.Native.Nat.{◌-◌}
use lib.ListN.{length}
use Rattle.spellings.proofs.Write.{Copied}
use Rattle.spellings.proofs.copy_word.Given as goal

abbrev pub invariant-loop-out : goal.invariant-loop-out
invariant-loop-out l = Copied l.source l.from l.initial.out l.at l.out l.i l.j

abbrev pub decreases-loop-out : goal.decreases-loop-out
decreases-loop-out l = length l.source - l.i
