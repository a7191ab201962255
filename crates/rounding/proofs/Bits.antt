-- The machine's signed numbers: sizes are all that their operations ask, and a number that fits is read back from its bits.
use mathlib.Core.Path.{◌≡◌, refl, ap, ◌∙◌}
use mathlib.Core.Bool.{Bool, true, false}
use Prim.Native.Nat.{ℕ, ◌^◌, ◌<◌}
use native.Mathlib.Omega.{arith}
use borrow.Author.Tests.{leb-true, ltb-false}
use lib.IntN.{ℤ, pos, negsuc, nat_abs}
use lib.Signed.{lt_z, le_z, mag}
use mir.Syntax.{Width, w32, w64}
use mir.Val.{SFits, to_z, of_z, hbits}
use mir.Facts.{to_z-of_z, sfits_widen}
use Rattle.lists.specs.Signs.{with_sign}
use Rattle.rounding.specs.Range.{InRange}
use Rattle.rounding.proofs.IntLaws.{abs_neg}

pub abs-signed : (t : Bool) (m : ℕ) → nat_abs (with_sign t m) ≡ m
abs-signed true m = abs_neg (pos m)
abs-signed false m = refl

-- a size below half the width's power fits
pub fits-abs : (w : Width) (z : ℤ) → nat_abs z < 2 ^ hbits w → SFits w z
fits-abs w (pos n) h = record { sfits = h }
fits-abs w (negsuc n) h = record { sfits = omega arith }

-- the number that the bits of z stand for
pub read_back : (w : Width) (z : ℤ) → nat_abs z < 2 ^ hbits w → to_z w (of_z w z) ≡ z
read_back w z h = to_z-of_z (fits-abs w z h)

pub read-back-small : (z : ℤ) → InRange z → to_z w32 (of_z w32 z) ≡ z
read-back-small z h = read_back w32 z (omega arith)

-- of an element of a lent slice, whose range is known
pub read-back-given : {z : ℤ} → mag z < 2147483648 → to_z w32 (of_z w32 z) ≡ z
read-back-given {z} h = to_z-of_z {w = w32} (record { sfits = h })

pub widened : {x : ℤ} → SFits w32 x → to_z w64 (of_z w64 (to_z w32 (of_z w32 x))) ≡ x
widened f = ap (λ (z : ℤ). to_z w64 (of_z w64 z)) (to_z-of_z f) ∙ to_z-of_z {w = w64} (sfits_widen (tt {0}) f)

-- the two tests that tell a small number
pub small_of : (z : ℤ) → lt_z z (negsuc 1999999999) ≡ false → le_z z (pos 2000000000) ≡ true → InRange z
small_of (pos m) h k = leb-true m 2000000000 k
small_of (negsuc m) h k = omega (arith, ltb-false 1999999999 m h)
