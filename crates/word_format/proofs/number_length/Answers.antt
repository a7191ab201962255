-- The sign, the whole part, a point and six digits.
use Prim.Native.Nat.{◌/◌}
use mathlib.Core.Path.{◌≡◌, ap}
use mathlib.Core.Bool.{true, false}
use native.Mathlib.Omega.{arith}
use lib.IntN.{pos, nat_abs}
use lib.ListN.{length}
use lib.Signed.{lt_z}
use mir.Syntax.{w32}
use mir.Facts.{to_z-of_z, Fits-nat_abs}
use Rattle.word_format.proofs.Corners.{whole-few}
use Rattle.word_format.proofs.Numbers.{millionths-length, below-zero, from_zero}
use Rattle.word_format.proofs.number_length.Goals as goal

pub overflow_add-bare : goal.overflow_add-bare
overflow_add-bare c =
    let e : c.magnitude.result ≡ nat_abs c.args.value = rw (to_z-of_z c.ranges.value) at c.magnitude.ensures in
    let f = (Fits-nat_abs {w' = w32} tt c.ranges.value).fits in
    let k = whole-few (c.magnitude.result / 1000000) (omega arith) in
    omega (arith, c.whole_length-bare.ensures)

pub overflow_add-result : goal.overflow_add-result
overflow_add-result c =
    let e : c.magnitude.result ≡ nat_abs c.args.value = rw (to_z-of_z c.ranges.value) at c.magnitude.ensures in
    let f = (Fits-nat_abs {w' = w32} tt c.ranges.value).fits in
    let k = whole-few (c.magnitude.result / 1000000) (omega arith) in
    omega (arith, c.whole_length-bare.ensures)

pub returns-then-value-lt0 : goal.returns-then-value-lt0
returns-then-value-lt0 c =
    let m = c.magnitude.result in
    let e : m ≡ nat_abs c.args.value = rw (to_z-of_z c.ranges.value) at c.magnitude.ensures in
    let t : lt_z c.args.value (pos 0) ≡ true = rw (to_z-of_z c.ranges.value) at c.if-value-lt0.true in
    let k = ap length (below-zero c.args.value m t e) in
    let l = millionths-length m in
    omega (arith, c.whole_length-bare.ensures)

pub returns : goal.returns
returns c =
    let m = c.magnitude.result in
    let e : m ≡ nat_abs c.args.value = rw (to_z-of_z c.ranges.value) at c.magnitude.ensures in
    let t : lt_z c.args.value (pos 0) ≡ false = rw (to_z-of_z c.ranges.value) at c.if-value-lt0.false in
    let k = ap length (from_zero c.args.value m t e) in
    let l = millionths-length m in
    omega (arith, c.whole_length-bare.ensures)
