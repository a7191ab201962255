-- The test on the difference, which does not pass 64 bits.
use mathlib.Core.Path.{ap}
use lib.IntN.{ℤ, pos}
use lib.Signed.{le_z}
use Rattle.point_chords.specs.Chords.{short_interval}
use Rattle.point_chords.proofs.Sizes.{way-is}
use Rattle.point_chords.proofs.is_short.Goals as goal

pub returns : goal.returns
unfolding short_interval
returns c = ap (λ (z : ℤ). le_z z (pos 1)) (way-is c.ranges.b c.ranges.a)
