use Prim.Native.Nat.{◌-◌}
use lib.ListN.{length}
use Rattle.read_advice.proofs.Going as G
use Rattle.read_advice.proofs.lines_before.said_before.Given as goal

abbrev pub invariant-loop-at : goal.invariant-loop-at
invariant-loop-at l = G.Going l.text l.place l.said.tally l.at

abbrev pub decreases-loop-at : goal.decreases-loop-at
decreases-loop-at l = length l.text - l.at
