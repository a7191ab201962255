-- The code's steps are the definition's.
use mathlib.Core.Path.{refl}
use Rattle.doubles.specs.Doubles.{blend}
use Rattle.doubles.proofs.blend.Goals as goal

pub returns : goal.returns
unfolding blend
returns c = refl
