-- A mantissa that was read straight ahead is exact in ten-millionths, so that the exponent multiplies or divides them.
use Prim.Native.Nat.{ℕ, ◌+◌, ◌-◌, ◌*◌, ◌^◌, ◌≤◌, ◌<◌}
use mathlib.Core.Path.{◌≡◌, refl, sym, ap, ◌∙◌}
use mathlib.Core.List.{List, ◌++◌}
use lib.ListN.{length, drop, length-append}
use native.Mathlib.Omega.{arith}
use Rattle.lists.proofs.Laws.{all_append}
use Rattle.text.specs.Words.{word_of}
use Rattle.text.specs.Rest.{end_of}
use Rattle.digits.specs.Said.{says, wrong}
use Rattle.digits.specs.Answers.{ends_at}
use Rattle.digits.specs.Digits.{is_digit, nat_of}
use Rattle.digits.specs.Straight.{first, run, cap, WholeRead}
use Rattle.digits.proofs.Rows.{run-digits, nat_of-append, nat_of-padded}
use Rattle.digits.proofs.Lengths.{ten-digits}
use Rattle.decimals.specs.declared.exponent.Exponent.{Exponent}
use Rattle.decimals.specs.Straight.{magnitude_of, exponent_of, scaled_of, moved_of, DecimalsAhead, MantissaAhead}
use Rattle.decimals.proofs.Shifts.{shift-number}
use Rattle.decimals.proofs.Scaled.{with-a-point, end-in, no-decimal, scaled-malformed, scaled-moved}

-- a mantissa from its whole digits and the decimals after its point
pub with-decimals : (s : List ℕ) (at end value : ℕ) → WholeRead s at end value → length (run (drop at s)) ≤ 4 → (b : ℕ) → b ≡ first (drop end s) → b ≡ 46
    → (m stop : ℕ) → DecimalsAhead s (end + 1) (end - at) value m stop → MantissaAhead s at m stop
with-decimals s at end value w l b e p m stop d =
    let q = w.end_is in
    let v : value ≡ nat_of 0 (run (drop at s)) = w.value-is ∙ ten-digits (drop at s) (omega arith) in
    let k = d.some in
    record {
      point = end;
      from = end + 1;
      read = with-a-point s at end q b e p stop d.end_is;
      whole = l;
      few = d.few;
      some = omega arith;
      value-is =
          d.value-is
          ∙ ap (λ (y : ℕ). y * 10 ^ (7 - length (run (drop (end + 1) s))))
          (ap (λ (y : ℕ). nat_of y (run (drop (end + 1) s))) v ∙ sym (nat_of-append 0 (run (drop at s)) (run (drop (end + 1) s))));
      stops = d.stops;
    }

-- ---- shifted
module _ (s : List ℕ) (at n end : ℕ) (r : MantissaAhead s at n end) where
  abbrev b : List ℕ
  b = run (drop at s)

  abbrev a : List ℕ
  a = run (drop r.from s)

  pub ahead_small : n * 10 < 10 ^ 11
  ahead_small =
      let l = length-append b a in
      let k = r.whole in
      let f = r.few in
      let v = r.value-is in
      let n : length (b ++ a) + (7 - length a) ≤ 11 = omega arith in
      omega (arith, nat_of-padded 11 (7 - length a) 0 (b ++ a) (all_append is_digit b a (run-digits (drop at s)) (run-digits (drop r.from s))) n)

  pub ahead_in : end < length s
  ahead_in = end-in r.read (first (drop end s)) refl r.stops

  pub ahead-no-decimal : wrong 6 ≡ ends_at (magnitude_of (word_of (drop at s))) (end_of s at)
  ahead-no-decimal = no-decimal r.read (first (drop end s)) refl r.stops

  pub shifted-malformed : (m : ℕ) → wrong m ≡ ends_at (exponent_of (word_of (drop (end + 1) s))) (end_of s (end + 1)) → wrong m ≡ ends_at (scaled_of (word_of (drop at s))) (end_of s at)
  shifted-malformed m h = scaled-malformed r.read (first (drop end s)) refl r.stops m h

  pub shifted-read : (p : Exponent) (last v : ℕ) → says (p, last) ≡ ends_at (exponent_of (word_of (drop (end + 1) s))) (end_of s (end + 1))
      → v ≡ cap (moved_of p.minus (n * 10) p.power) → says (v, last) ≡ ends_at (scaled_of (word_of (drop at s))) (end_of s at)
  shifted-read p last v h e =
      let f = r.few in
      let t : n * 10 ≡ nat_of 0 (b ++ a) * 10 ^ (7 - length a) = (let y = r.value-is in omega arith) in
      scaled-moved r.read (first (drop end s)) refl r.stops r.some p last h v
      (e ∙ ap cap (sym (shift-number (nat_of 0 (b ++ a)) (length a) (n * 10) (omega arith) t p.minus p.power)))
