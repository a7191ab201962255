-- The table's rule: the test is computed over all its 260 numbers.
use mathlib.Core.Path.{refl}
use Rattle.point_exact.specs.Exact.{choose}
use Rattle.point_weights.specs.Weights.{weight}
use Rattle.point_weights.proofs.weights.weights.Goals as goal

pub returns : goal.returns
unfolding weight choose
returns c = record { long = refl; each = refl }
