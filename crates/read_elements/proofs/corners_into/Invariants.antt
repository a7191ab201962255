use Prim.Native.Nat.{◌-◌}
use lib.ListN.{length}
use Rattle.read_elements.specs.Corners.{corner_said}
use Rattle.read_elements.proofs.Walking as W
use Rattle.read_elements.proofs.corners_into.Given as goal

abbrev pub invariant-loop-next : goal.invariant-loop-next
invariant-loop-next l =
    W.Walking (corner_said l.used l.form) l.text l.at l.first l.initial.corners l.i l.n l.count l.pattern l.corners

abbrev pub decreases-loop-next : goal.decreases-loop-next
decreases-loop-next l = length l.text - l.i
