-- A number up to 2,000,000,000 as a signed 32-bit integer, and its negative: both fit.
use Prim.Native.Nat.{ℕ, zero, suc, ◌≤◌, ◌<◌, ◌^◌, ◌+◌, ◌/◌}
use mathlib.Core.Path.{◌≡◌, refl, sym, ap, ◌∙◌, subst}
use lib.IntN.{ℤ, pos, neg_ℤ, ◌-ℤ◌, +ℤ_idl}
use mir.Syntax.{w32}
use mir.Val.{SFits, to_z, of_z}
use mir.Facts.{to_z-of_z}
use borrow.Author.Tests.{lt-ltb, lt-leb, le-leb}
use mathlib.Core.Bool.{Bool}
use native.Mathlib.Omega.{arith}
use Rattle.digits.specs.Said.{says, wrong}
use Rattle.lists.specs.Signs.{with_sign}
use Rattle.decimals.specs.Straight.{settle_of}

pub reads : (m : ℕ) → m ≤ 2000000000 → to_z w32 m ≡ pos m
reads m h = let l : m < 2 ^ 31 = omega arith in rw (lt-ltb m (2 ^ 31) l)

negated : (m : ℕ) → m ≤ 2000000000 → SFits w32 (neg_ℤ (pos m))
negated zero h = record { sfits = omega arith }
negated (suc n) h = record { sfits = omega arith }

pub minus_is : (m : ℕ) → m ≤ 2000000000 → pos 0 -ℤ to_z w32 m ≡ neg_ℤ (pos m)
minus_is m h = ap (λ (z : ℤ). pos 0 -ℤ z) (reads m h) ∙ +ℤ_idl (neg_ℤ (pos m))

pub minus-fits : (m : ℕ) → m ≤ 2000000000 → SFits w32 (pos 0 -ℤ to_z w32 m)
minus-fits m h = subst (λ (z : ℤ). SFits w32 z) (sym (minus_is m h)) (negated m h)

pub minus-back : (m : ℕ) → m ≤ 2000000000 → to_z w32 (of_z w32 (pos 0 -ℤ to_z w32 m)) ≡ neg_ℤ (pos m)
minus-back m h = to_z-of_z (minus-fits m h) ∙ minus_is m h

pub settle-out : (minus : Bool) (t : ℕ) → 20000000004 < t → settle_of minus t ≡ wrong 7
settle-out minus t h =
    let l : 2000000000 < (t + 5) / 10 = omega arith in
    rw (lt-leb ((t + 5) / 10) 2000000000 l) refl

pub settle-in : (minus : Bool) (t : ℕ) (z : ℤ) → t ≤ 20000000004 → z ≡ with_sign minus ((t + 5) / 10) → settle_of minus t ≡ says z
settle-in minus t z h q =
    let l : (t + 5) / 10 ≤ 2000000000 = omega arith in
    rw (le-leb ((t + 5) / 10) 2000000000 l) (ap says (sym q))
