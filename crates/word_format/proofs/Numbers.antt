-- A number is its sign, where it is below zero, and its millionths: a whole number, a point and six digits.
use Prim.Native.Nat.{ℕ, ◌+◌, ◌/◌, ◌%◌}
use mathlib.Core.Path.{◌≡◌, refl, ap, subst}
use mathlib.Core.List.{[], ◌∷◌, ◌++◌}
use mathlib.Core.Bool.{true, false}
use native.Mathlib.Omega.{arith}
use borrow.Author.Tests.{ltb-true}
use lib.Dec.{T}
use lib.IntN.{ℤ, pos, negsuc, nat_abs}
use lib.ListN.{length, length-append}
use lib.Signed.{lt_z}
use Rattle.references.specs.Written.{full, written_whole, written_millionths, written_number}
use Rattle.references.proofs.Numerals.{full-length}

pub millionths-are : (m : ℕ) → written_millionths m ≡ written_whole (m / 1000000) ++ ((46 ∷ []) ++ full 6 (m % 1000000))
unfolding written_millionths
millionths-are m = refl

pub millionths-length : (m : ℕ) → length (written_millionths m) ≡ length (written_whole (m / 1000000)) + 7
millionths-length m =
    let k = ap length (millionths-are m) in
    let z = full-length 6 (m % 1000000) in
    let y = length-append (written_whole (m / 1000000)) ((46 ∷ []) ++ full 6 (m % 1000000)) in
    omega arith

-- m is how far the number is from zero
pub below-zero : (z : ℤ) (m : ℕ) → lt_z z (pos 0) ≡ true → m ≡ nat_abs z → written_number z ≡ (45 ∷ []) ++ written_millionths m
below-zero (pos n) m h e = absurd (omega (arith, ltb-true n 0 h))
below-zero (negsuc n) m h e = rw e refl

pub from_zero : (z : ℤ) (m : ℕ) → lt_z z (pos 0) ≡ false → m ≡ nat_abs z → written_number z ≡ written_millionths m
from_zero (pos n) m h e = rw e refl
from_zero (negsuc n) m h e = absurd (subst T h tt)
