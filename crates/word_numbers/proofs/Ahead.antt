-- Digits that were read straight ahead are all there are, so that a number's ten-millionths are ten times its millionths.
use Prim.Native.Nat.{ℕ, suc, ◌+◌, ◌-◌, ◌*◌, ◌/◌, ◌^◌, ◌≤◌, ◌<◌}
use mathlib.Core.Path.{◌≡◌, refl, sym, ap, ◌∙◌}
use mathlib.Core.List.{List}
use mathlib.Core.Bool.{Bool, true, false}
use lib.ListN.{length, take, drop}
use lib.Seq.{take_all}
use lib.IntN.{ℤ}
use native.Mathlib.Omega.{arith}
use native.Mathlib.Nat.{pow-suc}
use Rattle.text.specs.Words.{word_of}
use Rattle.text.specs.Rest.{end_of}
use Rattle.digits.specs.Said.{Said, says}
use Rattle.digits.specs.Answers.{ends_at}
use Rattle.digits.specs.Digits.{is_digit, nat_of}
use Rattle.decimals.specs.Number.{is_e}
use Rattle.lists.specs.Signs.{with_sign}
use Rattle.decimals.specs.Straight.{pointed, magnitude_of, settle_of, DecimalsAhead}
use Rattle.digits.specs.Straight.{first, run, WholeRead, UptoRead}
use Rattle.word_numbers.specs.Answers.{ExactIs}
use Rattle.word_numbers.specs.declared.Exact.{Exact}
use Rattle.word_numbers.specs.declared.Exact.TheVariants.{Of, Scaled, Other}
use Rattle.digits.proofs.Fronts.{low-no-word, low-stops, word_over, run-nil}
use Rattle.digits.proofs.Runs.{few-all, all_whole}
use Rattle.word_numbers.proofs.Numbers.{fraction-fits, fraction-of, measure-of}
use Rattle.digits.proofs.Saids.{says-ends}
use Rattle.word_numbers.proofs.Signs.{settle-in}

pub exact-on : (far gar : ℕ) (x y : Said (ℕ × ℕ)) (p q : ℕ → ℕ → Type 0) (r : Exact) → x ≡ y → far ≤ gar → ((m e : ℕ) → p m e → q m e) → ExactIs far x p r → ExactIs gar y q r
exact-on far gar x y p q (Of m e) h l f g = (g.0 ∙ h, let z = g.1 in omega arith)
exact-on far gar x y p q (Scaled m e) h l f g = f m e g
exact-on far gar x y p q Other h l f g = g

-- ---- in_millionths
pub zero_more : (m i : ℕ) → i < 6 → m * 10 * 10 ^ (6 - (i + 1)) ≡ m * 10 ^ (6 - i)
zero_more m i h =
    let n : suc (6 - (i + 1)) ≡ 6 - i = omega arith in
    let q = pow-suc 10 (6 - (i + 1)) in
    let x : 10 ^ suc (6 - (i + 1)) ≡ 10 ^ (6 - i) = ap (λ (j : ℕ). 10 ^ j) n in
    let e : 10 * 10 ^ (6 - (i + 1)) ≡ 10 ^ (6 - i) = omega arith in
    let a : m * 10 * 10 ^ (6 - (i + 1)) ≡ m * (10 * 10 ^ (6 - (i + 1))) = omega arith in
    a ∙ ap (λ (y : ℕ). m * y) e

-- ---- decimals_ahead
module _ {s : List ℕ} {at whole end value : ℕ} (f : UptoRead 6 s at whole end value) (stops : is_digit (first (drop end s)) ≡ false) where
  short : length (run (drop at s)) ≤ 6
  short = few-all f stops

  seven : UptoRead 7 s at whole end value
  seven =
      let x = short in
      let q : take 6 (run (drop at s)) ≡ take 7 (run (drop at s)) = take_all 6 (run (drop at s)) x ∙ sym (take_all 7 (run (drop at s)) (omega arith)) in
      record {
        to = f.to;
        end_is = f.end_is ∙ ap (λ (t : List ℕ). at + length t) q;
        value-is = f.value-is ∙ ap (nat_of whole) q;
      }

  none : end ≡ end + length (run (drop end s))
  none = let z = ap length (run-nil (drop end s) stops) in omega arith

  tenfold : 10 * 10 ^ (6 - (end - at)) ≡ 10 ^ (7 - (end - at))
  tenfold =
      let x = short in
      let y = ap length (take_all 6 (run (drop at s)) x) in
      let z = f.end_is in
      let n : suc (6 - (end - at)) ≡ 7 - (end - at) = omega arith in
      let q = pow-suc 10 (6 - (end - at)) in
      let m : 10 ^ suc (6 - (end - at)) ≡ 10 ^ (7 - (end - at)) = ap (λ (i : ℕ). 10 ^ i) n in
      omega arith

  pub decimals-fit : whole ≤ 20000000005 → value * 10 ^ (6 - (end - at)) < 2 ^ 60
  decimals-fit w = let x = fraction-fits s at 0 whole end value end seven none w (10 * 10 ^ (6 - (end - at))) tenfold in omega arith

  module _ (m : ℕ) (p : m ≡ value * 10 ^ (6 - (end - at))) where
    moved : 10 * m ≡ value * (10 * 10 ^ (6 - (end - at)))
    moved = omega arith

    pub decimals-ahead : (count : ℕ) → (count + (end - at) ≡ 0 → ⊥) → is_e (first (drop end s)) ≡ true → DecimalsAhead s at count whole m end
    decimals-ahead count n h =
        let x = short in
        let t : take 6 (run (drop at s)) ≡ run (drop at s) = take_all 6 (run (drop at s)) x in
        let e : end ≡ at + length (run (drop at s)) = f.end_is ∙ ap (λ (l : List ℕ). at + length l) t in
        let v : value ≡ nat_of whole (run (drop at s)) = f.value-is ∙ ap (nat_of whole) t in
        let i : 7 - (end - at) ≡ 7 - length (run (drop at s)) = omega arith in
        record {
          end_is = e;
          to = f.to;
          few = x;
          some = omega arith;
          value-is = moved ∙ ap (λ (y : ℕ). value * y) (tenfold ∙ ap (λ (y : ℕ). 10 ^ y) i) ∙ ap (λ (y : ℕ). y * 10 ^ (7 - length (run (drop at s)))) v;
          stops = h;
        }

    pub decimals-of : (count : ℕ) → first (drop end s) ≤ 32 → (count + (end - at) ≡ 0 → ⊥)
        → says (10 * m, end) ≡ ends_at (pointed count whole (word_of (drop at s))) (end_of s at)
    decimals-of count l n =
        ap (λ (t : ℕ). says (t, end)) moved
        ∙ fraction-of s at count whole end value end seven none n (word_over (drop end s) (low-no-word (first (drop end s)) l)) (10 * 10 ^ (6 - (end - at))) tenfold

-- ---- measure_ahead
pub four : {s : List ℕ} {at end value : ℕ} → UptoRead 4 s at 0 end value → is_digit (first (drop end s)) ≡ false → WholeRead s at end value
four f o = let m = few-all f o in all_whole f m (omega arith)

pub bare_of : {s : List ℕ} {at end value b : ℕ} → UptoRead 4 s at 0 end value → b ≡ first (drop end s) → b ≤ 32 → (end ≡ at → ⊥)
    → says (10 * (value * 1000000), end) ≡ ends_at (magnitude_of (word_of (drop at s))) (end_of s at)
bare_of {s} {at} {end} {value} {b} f e l n =
    let m : 10 * (value * 1000000) ≡ value * 10000000 = omega arith in
    ap (λ (t : ℕ). says (t, end)) m
    ∙ measure-of s at end value (four f (low-stops (drop end s) b e l)) b e (λ h. omega arith) n
    (word_over (drop end s) (low-no-word (first (drop end s)) (omega arith)))

-- ---- quick_number_at
pub settle-exact : (minus : Bool) (m end : ℕ) (z : ℤ) → m ≤ 2000000000 → z ≡ with_sign minus m → says (z, end) ≡ ends_at (settle_of minus (10 * m)) end
settle-exact minus m end z h q =
    let e : m ≡ (10 * m + 5) / 10 = omega arith in
    says-ends (settle_of minus (10 * m)) z end end (settle-in minus (10 * m) z (omega arith) (q ∙ ap (with_sign minus) e)) refl
