use Rattle.read_bodies.proofs.Looping as K
use Prim.Native.Nat.{◌-◌}
use lib.ListN.{length}
use Rattle.read_bodies.proofs.loops.take_loop.Given as goal

abbrev pub invariant-loop-next : goal.invariant-loop-next
invariant-loop-next l = K.Looping l.text l.at l.hole l.curves l.used l.initial.loops l.initial.spans l.loops l.spans l.i l.place l.count

abbrev pub decreases-loop-next : goal.decreases-loop-next
decreases-loop-next l = length l.text - l.i
