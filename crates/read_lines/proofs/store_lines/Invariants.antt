use Prim.Native.Nat.{◌-◌}
use lib.ListN.{length}
use Rattle.tables.specs.Lent.{lent_mut, SameSlices}
use Rattle.read_lines.proofs.Loop.{Reached}
use Rattle.read_lines.proofs.store_lines.Given as goal

abbrev pub invariant-loop-at : goal.invariant-loop-at
invariant-loop-at l = record { reached : Reached l.text (lent_mut l.initial.t) (lent_mut l.t) l.state l.at; same : SameSlices l.initial.t l.t }

abbrev pub decreases-loop-at : goal.decreases-loop-at
decreases-loop-at l = length l.text - l.at
