-- The sign and the size of a number make the rounded one (`rounded-signed`).
use mathlib.Core.Path.{◌∙◌}
use native.Mathlib.Omega.{arith}
use mir.Syntax.{w32}
use mir.Facts.{to_z-of_z}
use Rattle.rounding.proofs.Bits.{read_back}
use Rattle.rounding.proofs.Rounding.{rounded-signed}
use Rattle.rounding.proofs.rounded.Goals as goal

pub returns : goal.returns
returns c =
    rw (read_back w32 c.with_sign.result (omega arith)) (
      rw (c.nearest.ensures.0, c.size.ensures, to_z-of_z c.ranges.n) at c.with_sign.ensures.0 ∙ rounded-signed c.args.n c.args.d,
      c.with_sign.ensures.1,
    )
