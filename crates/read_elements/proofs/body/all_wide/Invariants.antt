use Prim.Native.Nat.{◌+◌, ◌*◌, ◌-◌}
use Rattle.read_elements.proofs.Bodies.{WidesLeft}
use Rattle.read_elements.proofs.body.all_wide.Given as goal

abbrev pub invariant-loop-k : goal.invariant-loop-k
invariant-loop-k l = WidesLeft l.vp l.corners l.first l.count (l.first + 3 * l.k) (l.count - l.k)
