-- Axis by axis.
use Rattle.point_guess.specs.Steps.{X, Y, Z}
use Rattle.point_guess.proofs.lean.Goals as goal

pub returns : goal.returns
returns c X = c.blend.ensures
returns c Y = c.blend-2.ensures
returns c Z = c.blend-3.ensures
