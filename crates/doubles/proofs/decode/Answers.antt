-- The difference from the anchor is the number that the double keeps (`encode-back`).
use mathlib.Core.Path.{◌≡◌, refl, ap, ◌∙◌}
use lib.IntN.{ℤ}
use lib.Ieee.{binary64, sub, to_signed}
use mir.Syntax.{w32}
use mir.Val.{to_z, of_z}
use Rattle.rounding.proofs.Bits.{read-back-small}
use Rattle.doubles.proofs.Whole.{anchored, encode-back, decode_is}
use Rattle.doubles.proofs.decode.Goals as goal

pub float_to_int-result : goal.float_to_int-result
float_to_int-result c = (encode-back c.args.a c.requires).0

pub returns : goal.returns
returns c =
    let k = c.requires in
    let e : to_z w32 (of_z w32 (to_signed 31 (sub binary64 c.args.a anchored))) ≡ k.number =
    ap (λ (z : ℤ). to_z w32 (of_z w32 z)) (encode-back c.args.a k).1 ∙ read-back-small k.number k.small in
    rw (e, decode_is k) (refl, k.small)
