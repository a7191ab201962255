-- The depth falls at each halving.
use Rattle.polyline.proofs.+write.Given as goal

abbrev pub decreases-write : goal.decreases-write
decreases-write l = l.depth
