-- A number that is written is read back: its numerator is the millionths themselves.
use Prim.Native.Nat.{ℕ, zero, suc, ◌+◌, ◌*◌, ◌/◌, ◌%◌, ◌^◌, ◌≤◌}
use mathlib.Core.Path.{◌≡◌, refl, sym, ap, ap₂, ◌∙◌}
use mathlib.Core.List.{List, [], ◌∷◌, ◌++◌}
use mathlib.Core.Bool.{Bool, true, false, ◌&&◌}
use lib.ListN.{length, length-append}
use lib.Dec.{leb}
use lib.IntN.{ℤ, pos, negsuc, neg_ℤ, nat_abs}
use borrow.Author.Tests.{le-leb, leb-true, ne_eqb}
use native.Mathlib.Omega.{arith}
use Rattle.lists.proofs.Tests.{and_left}
use Rattle.digits.specs.Said.{says}
use Rattle.digits.specs.Digits.{is_digit, digits, nat_of, negative}
use Rattle.lists.specs.Signs.{with_sign}
use Rattle.decimals.specs.Number.{mantissa, exponent, is_exponent, decimal, numerator, denominator, nearest, unsigned, value_of, number_of}
use Rattle.references.specs.Written.{short, full, written_whole, written_millionths, written_number}
use Rattle.references.specs.Fits.{number_fits}
use Rattle.digits.proofs.Rows.{nat_of-append}
use Rattle.decimals.proofs.Mantissas.{decimal-plain}
use Rattle.decimals.proofs.Points.{before-point, after-point}
use Rattle.references.proofs.Numerals.{full-digits, full-length, full-value, short-digits, short-length, short-value}
use Rattle.digits.proofs.Saids.{must-both}

-- a digit is no sign
bare : (l t : List ℕ) → digits l ≡ true → (unsigned (l ++ 46 ∷ t) ≡ l ++ 46 ∷ t) × (negative (l ++ 46 ∷ t) ≡ false)
bare [] t h = (refl, refl)
bare (b ∷ bs) t h =
    let l : 48 ≤ b = leb-true 48 b (and_left (leb 48 b) (leb b 57) (and_left (is_digit b) (digits bs) h)) in
    (rw (ne_eqb b 43 (omega arith), ne_eqb b 45 (omega arith)) refl, ne_eqb b 45 (omega arith))

module _ (m : ℕ) (h : m ≤ 2000000000) where
  abbrev s : List ℕ
  s = short 10 (m / 1000000)

  abbrev t : List ℕ
  t = full 6 (m % 1000000)

  body-decimal : decimal (written_millionths m) ≡ true
  unfolding decimal written_millionths written_whole
  body-decimal =
      let d = short-digits 10 (m / 1000000) in
      let f = full-digits 6 (m % 1000000) in
      let z = full-length 6 (m % 1000000) in
      let p : 1 ≤ length s + length t = omega arith in
      rw (before-point s t d, after-point s t d, d) (rw (f, le-leb 1 (length s + length t) p) refl)

  body-numerator : numerator (written_millionths m) ≡ m
  unfolding numerator written_millionths written_whole
  body-numerator =
      let d = short-digits 10 (m / 1000000) in
      let a : nat_of 0 s ≡ m / 1000000 = short-value 10 (m / 1000000) (omega arith) in
      let b : nat_of (nat_of 0 s) t ≡ nat_of 0 s * 10 ^ 6 + m % 1000000 = full-value 6 (nat_of 0 s) (m % 1000000) (omega arith) in
      ap₂ (λ (x y : List ℕ). nat_of 0 (x ++ y)) (before-point s t d) (after-point s t d) ∙ nat_of-append 0 s t ∙ b ∙ (omega arith)

  body-denominator : denominator (written_millionths m) ≡ 1000000
  unfolding denominator written_millionths written_whole
  body-denominator =
      ap (λ (x : List ℕ). 10 ^ length x) (after-point s t (short-digits 10 (m / 1000000)))
      ∙ ap (λ (n : ℕ). 10 ^ n) (full-length 6 (m % 1000000))

  exact : nearest m 1000000 ≡ m
  unfolding nearest
  exact = omega arith

  body-value : nearest (numerator (written_millionths m)) (denominator (written_millionths m)) ≡ m
  body-value = ap₂ nearest body-numerator body-denominator ∙ exact

  body-length : length (written_millionths m) ≤ 17
  unfolding written_millionths written_whole
  body-length =
      let z = full-length 6 (m % 1000000) in
      let y = short-length 10 (m / 1000000) in
      let x = length-append s (46 ∷ t) in
      omega arith

  back : (w : List ℕ) (c : Bool) → unsigned w ≡ written_millionths m → negative w ≡ c → length w ≤ 64 → number_of w ≡ says (with_sign c m)
  unfolding number_of
  back w c e₁ e₂ l =
      let p = decimal-plain (written_millionths m) body-decimal in
      rw (e₁, e₂, p.0, p.1, le-leb (length w) 64 l, body-decimal, body-value, le-leb m 2000000000 h) refl

  pub millionths-back : number_of (written_millionths m) ≡ says (pos m)
  millionths-back = back (written_millionths m) false plain.0 plain.1 (let z = body-length in omega arith)
    where
      plain : (unsigned (written_millionths m) ≡ written_millionths m) × (negative (written_millionths m) ≡ false)
      plain = unfold written_millionths written_whole in bare s t (short-digits 10 (m / 1000000))

  pub minus-back : number_of (45 ∷ written_millionths m) ≡ says (neg_ℤ (pos m))
  minus-back = back (45 ∷ written_millionths m) true refl refl (let z = body-length in omega arith)

-- a number that is written is read back
pub number-back : (z : ℤ) → number_fits z ≡ true → number_of (written_number z) ≡ says z
number-back (pos m) h = millionths-back m (leb-true m 2000000000 h)
number-back (negsuc m) h = minus-back (suc m) (leb-true (suc m) 2000000000 h)

-- what is read can be written
signed-abs : (t : Bool) (m : ℕ) → nat_abs (with_sign t m) ≡ m
signed-abs false m = refl
signed-abs true zero = refl
signed-abs true (suc m) = refl

pub number_fits-says : (w : List ℕ) (z : ℤ) → number_of w ≡ says z → number_fits z ≡ true
unfolding number_of
number_fits-says w z h =
    let u : List ℕ = unsigned w in
    let m : ℕ = value_of u in
    let p = must-both (leb (length w) 64 && (decimal (mantissa u) && is_exponent (exponent u))) (leb m 2000000000) 6 7 (with_sign (negative w) m) z h in
    ap (λ (x : ℤ). leb (nat_abs x) 2000000000) (sym p.2) ∙ ap (λ (n : ℕ). leb n 2000000000) (signed-abs (negative w) m) ∙ p.1
