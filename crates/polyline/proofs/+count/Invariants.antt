-- The depth falls at each halving.
use Rattle.polyline.proofs.+count.Given as goal

abbrev pub decreases-count : goal.decreases-count
decreases-count l = l.depth
