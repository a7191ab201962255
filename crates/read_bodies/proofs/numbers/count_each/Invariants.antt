use Prim.Native.Nat.{◌-◌}
use lib.ListN.{length}
use Rattle.read_bodies.proofs.Steps as S
use Rattle.read_bodies.proofs.numbers.count_each.Given as goal

abbrev pub invariant-loop-next : goal.invariant-loop-next
invariant-loop-next l = S.Counting l.text l.at l.i l.count

abbrev pub decreases-loop-next : goal.decreases-loop-next
decreases-loop-next l = length l.text - l.i
