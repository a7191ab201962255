use Prim.Native.Nat.{◌-◌}
use lib.ListN.{length}
use Rattle.read_settings.proofs.Runs as R
use Rattle.read_settings.proofs.words.names_from.Given as goal

abbrev pub invariant-loop-end : goal.invariant-loop-end
invariant-loop-end l = R.Running l.text l.at l.place l.count

abbrev pub decreases-loop-end : goal.decreases-loop-end
decreases-loop-end l = length l.text - l.place
