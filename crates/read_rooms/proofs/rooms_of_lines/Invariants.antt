use Prim.Native.Nat.{◌-◌}
use lib.ListN.{length}
use Rattle.read_rooms.proofs.Going as G
use Rattle.read_rooms.proofs.rooms_of_lines.Given as goal

abbrev pub invariant-loop-at : goal.invariant-loop-at
invariant-loop-at l = G.Going l.text l.rooms l.at

abbrev pub decreases-loop-at : goal.decreases-loop-at
decreases-loop-at l = length l.text - l.at
