-- Axis by axis.
use Rattle.point_guess.specs.Steps.{X, Y, Z}
use Rattle.point_single.proofs.point_at.Goals as goal

pub decode-requires : goal.decode-requires
decode-requires c = c.requires X

pub decode-requires-2 : goal.decode-requires-2
decode-requires-2 c = c.requires Y

pub decode-requires-3 : goal.decode-requires-3
decode-requires-3 c = c.requires Z
