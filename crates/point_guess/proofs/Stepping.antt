-- A place is made of two: by the rounding rule, or guessed where both slacks end at one double on each axis.
use mathlib.Core.Path.{◌≡◌, refl, sym, ap, ap₂, ◌∙◌}
use mathlib.Core.Bool.{true, ◌&&◌}
use Prim.Native.Nat.{ℕ, ◌≤◌}
use native.Mathlib.Omega.{arith}
use lib.IntN.{ℤ, neg_ℤ, nat_abs, ◌-ℤ◌}
use lib.Ieee.{Float, binary64, eq, neg, of_bits}
use mir.Syntax.{w32}
use mir.Val.{to_z, of_z}
use Rattle.lists.proofs.Tests.{and_left, and_right}
use Rattle.rounding.specs.Round.{between}
use Rattle.rounding.specs.Range.{InRange}
use Rattle.rounding.proofs.Bits.{read-back-small}
use Rattle.rounding.proofs.IntLaws.{abs_neg, abs-+}
use Rattle.rounding.proofs.Rounding.{between-small}
use Rattle.doubles.specs.Doubles.{Encoding, encode, decode, weight_of, blend, above, below}
use Rattle.doubles.proofs.Whole.{decode-encode, encode-decode, decode-small}
use Rattle.doubles.proofs.Certain.{certain-between}
use Rattle.point_guess.specs.Steps.{Axis, X, Y, Z, on, Encodes, InInterval, Fair, EncodesBetween, Blended, Stepped}
use Rattle.point_guess.specs.declared.Interval.{Interval}
use Rattle.point_guess.specs.declared.Place.{Place}

-- ---- one number
pub between-encode : {a b r : Float} {p D : ℕ} (m : ℤ) → m ≡ between (decode a) (decode b) p D → InRange m → r ≡ encode m → EncodesBetween a b p D r
between-encode m m-is small r-is = record { whole = record { number = m; small = small; same = r-is }; is = ap decode r-is ∙ decode-encode m small ∙ m-is }

-- the literal of the code, and its opposite
abbrev pub raised : Float
raised = of_bits binary64 4535124824762089472

pub raised_is : raised ≡ above
unfolding of_bits
raised_is = refl

abbrev pub lowered : Float
lowered = neg raised

lowered_is : lowered ≡ below
unfolding of_bits neg
lowered_is = refl

-- guessed, where both slacks end at one double
guessed : {a b w : Float} (p q : Float) {low high t : ℤ} → InInterval low high t → Encoding a → Encoding b → w ≡ weight_of (nat_abs (t -ℤ low)) (nat_abs (high -ℤ low))
    → p ≡ blend a b w above → q ≡ blend a b w lowered → eq p q ≡ true → EncodesBetween a b (nat_abs (t -ℤ low)) (nat_abs (high -ℤ low)) p
guessed {a} {b} {w} p q {low} {high} {t} i ka kb w-is p-is q-is sure =
    between-encode (between (decode a) (decode b) part gap) refl (between-small (decode a) (decode b) part gap i.part i.wide (decode-small ka) (decode-small kb))
    (up ∙ certain-between (decode a) (decode b) part gap (decode-small ka) (decode-small kb) i.part i.wide most (sym (ap₂ eq up down) ∙ sure))
  where
    part : ℕ
    part = nat_abs (t -ℤ low)

    gap : ℕ
    gap = nat_abs (high -ℤ low)

    most : nat_abs (high -ℤ low) ≤ 4000000000
    most = omega (arith, abs-+ high (neg_ℤ low), abs_neg low, i.low_small, i.high_small)

    up : p ≡ blend (encode (decode a)) (encode (decode b)) (weight_of part gap) above
    up = p-is ∙ λ n. blend (encode-decode ka n) (encode-decode kb n) (w-is n) above

    down : q ≡ blend (encode (decode a)) (encode (decode b)) (weight_of part gap) below
    down = q-is ∙ λ n. blend (encode-decode ka n) (encode-decode kb n) (w-is n) (lowered_is n)

-- ---- the parameters, read back from their bits
module _ {low high t : ℤ} (w : InInterval low high t) where
  pub within-back : InInterval (to_z w32 (of_z w32 low)) (to_z w32 (of_z w32 high)) (to_z w32 (of_z w32 t))
  within-back = rw (read-back-small low w.low_small, read-back-small high w.high_small, read-back-small t w.here) w

  pub between-back : {a b c : Float} → EncodesBetween a b (nat_abs (to_z w32 (of_z w32 t) -ℤ to_z w32 (of_z w32 low))) (nat_abs (to_z w32 (of_z w32 high) -ℤ to_z w32 (of_z w32 low))) c
      → EncodesBetween a b (nat_abs (t -ℤ low)) (nat_abs (high -ℤ low)) c
  between-back m = rw (read-back-small low w.low_small, read-back-small high w.high_small, read-back-small t w.here) at m

-- ---- one place
pub sure : {a b : Place} {g : Interval} {t : ℤ} (up down : Place) → Encodes a → Encodes b → Fair g t → Blended a b g.part above up → Blended a b g.part lowered down
    → ((eq up.x down.x && eq up.y down.y) && eq up.z down.z) ≡ true → Stepped a b g t up
sure up down ka kb f u d e k = guessed (on k up) (on k down) f.within (ka k) (kb k) f.weight (u k) (d k) (same k)
  where
    xy : (eq up.x down.x && eq up.y down.y) ≡ true
    xy = and_left (eq up.x down.x && eq up.y down.y) (eq up.z down.z) e

    same : (k : Axis) → eq (on k up) (on k down) ≡ true
    same X = and_left (eq up.x down.x) (eq up.y down.y) xy
    same Y = and_right (eq up.x down.x) (eq up.y down.y) xy
    same Z = and_right (eq up.x down.x && eq up.y down.y) (eq up.z down.z) e
