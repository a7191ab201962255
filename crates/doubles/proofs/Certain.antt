-- Where both slacks end at one whole number, that number is the nearest: each step's double is a whole number of 2 ^ -1074, near to the exact one.
use mathlib.Core.Path.{◌≡◌, refl, sym, ap, ap₂, ◌∙◌, subst}
use mathlib.Core.Bool.{true, false}
use mathlib.Core.List.{[], ◌∷◌}
use Prim.Native.Nat.{ℕ, suc, ◌+◌, ◌-◌, ◌*◌, ◌^◌, ◌≤◌, ◌<◌}
use native.Mathlib.Nat.{zero-lt-suc, mul-one, le_refl, le_of_eq, le_of_suc-le-suc, lt_of_lt_of_le, le_trans, add-le-add, lt_of_le_of_lt, mul-lt-mul_of_pos_right, mul-pos, mul-le-mul_right, lt_of_mul-lt-mul_right}
use native.Mathlib.Omega.{arith}
use lib.Dec.{T, lit≤, lit<}
use lib.IntN.{ℤ, pos, neg_ℤ, nat_abs, ◌+ℤ◌, ◌-ℤ◌, ◌*ℤ◌}
use lib.Pow.{pow_pos}
use lib.Ieee.{Float, binary64, round, of_int, add, sub, mul, fits}
use lib.Ieee.Fits.{add-fits, round-fits}
use lib.Ieee.Exact.{HasValue}
use lib.Ieee.Back.{round_whole, whole_unique}
use Rattle.rounding.specs.Round.{between}
use Rattle.rounding.specs.Range.{InRange}
use Rattle.rounding.proofs.IntLaws.{abs_neg, abs-+}
use Rattle.rounding.proofs.Ring.{ring, ◌⊕◌, ◌⊝◌, ◌⊗◌, ◌≐◌}
use Rattle.rounding.proofs.Rounding.{distance, between-unique}
use Rattle.doubles.specs.Doubles.{anchor, encode, weight_of, blend, above, below, certain}
use Rattle.doubles.proofs.Whole.{encode-value}
use Rattle.doubles.proofs.Near.{Whole, round-whole-number}
use Rattle.doubles.proofs.Signs.{At, at_value, at_same, Rounded, add-rounded, sub-rounded, mul-rounded, Nearby, nearby, Close, close-by, at-whole, upright, div-round, eq-at}
use Rattle.doubles.proofs.Errors.{Leaned, only_one, size-near, weight-size, product-size, Moved, moved}

-- the smallest double above 0 is 1 / unit; the errors are counted in steps
abbrev unit : ℕ
unit = 2 ^ 1074

abbrev step : ℕ
step = 2 ^ 1022

-- ---- a kept number
module _ (z : ℤ) (small : InRange z) where
  beside : Moved anchor 2000000000 z
  beside = moved anchor 2000000000 z small (lit≤ tt)

  encode-at : At (encode z) (pos beside.number) 1
  encode-at = subst (λ (n : ℕ). At (encode z) (pos n) 1) (ap nat_abs beside.same) (at_value (encode z) false (nat_abs (pos anchor +ℤ z)) 1 (encode-value z small))

-- ---- the difference is exact
gap-size : (a b : ℤ) → InRange a → InRange b → nat_abs (b -ℤ a) ≤ 4000000000
gap-size a b h k = omega (arith, abs-+ b (neg_ℤ a), abs_neg a)

module _ (a b : ℤ) (sa : InRange a) (sb : InRange b) where
  gap_is : pos (beside b sb).number -ℤ pos (beside a sa).number ≡ b -ℤ a
  gap_is = ap₂ ◌-ℤ◌ (sym (beside b sb).same) (sym (beside a sa).same) ∙ ring (pos anchor ∷ a ∷ b ∷ []) (λ n a b. n ⊕ b ⊝ (n ⊕ a) ≐ b ⊝ a) tt

  gap_at : At (sub binary64 (encode b) (encode a)) (b -ℤ a) 1
  gap_at =
      at-whole binary64 (sub binary64 (encode b) (encode a)) (b -ℤ a) (le_trans (gap-size a b sa sb) (lit≤ tt))
      (subst (λ z. Rounded binary64 (sub binary64 (encode b) (encode a)) z 1) gap_is
      (sub-rounded binary64 (encode b) (encode a) (pos (beside b sb).number) (pos (beside a sa).number) 1 (zero-lt-suc 0) (encode-at b sb) (encode-at a sa)))

-- ---- the weight
module _ (p D : ℕ) (h : p ≤ D) (some : 0 < D) (most : D ≤ 4000000000) where
  weight-rounded : Rounded binary64 (weight_of p D) (pos p) D
  unfolding weight_of of_int
  weight-rounded = record {
    sign = false;
    size = p;
    is =
        div-round binary64 (round binary64 false p 1) (round binary64 false D 1) p D some
        (round_whole binary64 false p (le_trans h (le_trans most (lit≤ tt)))) (round_whole binary64 false D (le_trans most (lit≤ tt)));
    same = refl;
  }

  at_most_one : (u : ℕ) → 0 < u → p * u < 2 * u * D
  at_most_one u U = omega (arith, mul-le-mul_right u h, mul-pos some U)

  weight-near : Nearby binary64 (weight_of p D) (pos p) D 1022
  weight-near = nearby binary64 (weight_of p D) (pos p) D 1022 some (lit< tt) (at_most_one unit (pow_pos 1074)) weight-rounded

-- ---- the product
abbrev product : (a b w : Float) → Float
product a b w = mul binary64 (sub binary64 b a) w

-- 4,000,000,000 times a weight that is hardly above 1, in steps
abbrev reach : ℕ
reach = 4000000000 * (2 ^ 52 + 1)

in_reach : (n k l : ℕ) → k < l → n ≤ k * step → n < l * step
in_reach n k l h g = lt_of_le_of_lt g (mul-lt-mul_of_pos_right h (pow_pos 1022))

module _ (a b : ℤ) (p D : ℕ) (sa : InRange a) (sb : InRange b) (h : p ≤ D) (some : 0 < D) (weight : Nearby binary64 (weight_of p D) (pos p) D 1022) where
  product-most : nat_abs ((b -ℤ a) *ℤ weight.number) ≤ reach * step
  product-most =
      product-size (b -ℤ a) weight.number 4000000000 (unit + step) (gap-size a b sa sb) (weight-size weight.number D p unit step some h weight.near)

  product-near : Close binary64 (product (encode a) (encode b) (weight_of p D)) ((b -ℤ a) *ℤ weight.number) 1054
  product-near =
      close-by binary64 (product (encode a) (encode b) (weight_of p D)) ((b -ℤ a) *ℤ weight.number) 1054 (lit< tt)
      (in_reach (nat_abs ((b -ℤ a) *ℤ weight.number)) reach (2 ^ 85) (lit< tt) product-most)
      (mul-rounded binary64 (sub binary64 (encode b) (encode a)) (weight_of p D) (b -ℤ a) weight.number 1 unit (zero-lt-suc 0) (pow_pos 1074) (gap_at a b sa sb) weight.value)

-- ---- a lean by l / unit
-- x is a whole number, to which n + m / unit, leant by l / unit, was rounded
record Landing (x : Float) (n : ℕ) (m l : ℤ) : Type 0 where
  number : ℕ
  value : HasValue x false number 1
  most : number ≤ 2 ^ 53
  sum : ℤ
  leant : Leaned unit step (pos number -ℤ pos n) m sum l

more : (n m j k e : ℕ) → n ≤ m + k * e → m ≤ j * e → n ≤ (j + k) * e
more n m j k e h l = omega arith

module _ (a b : ℤ) (sa : InRange a) (w : Float) (z : ℤ) (small : nat_abs z ≤ reach * step) (m : Close binary64 (product (encode a) (encode b) w) z 1054)
    (x : Float) (l : ℤ) (at : At x l unit) (little : nat_abs l ≤ 2 ^ 36 * step) where
  product-number : nat_abs m.number ≤ (reach + 2 ^ 32) * step
  product-number = more (nat_abs m.number) (nat_abs z) reach (2 ^ 32) step (size-near m.number z (2 ^ 32 * step) m.near) small

  sum-most : nat_abs (m.number +ℤ l) ≤ (reach + 2 ^ 32 + 2 ^ 36) * step
  sum-most =
      more (nat_abs (m.number +ℤ l)) (nat_abs m.number) (reach + 2 ^ 32) (2 ^ 36) step
      (le_trans (abs-+ m.number l) (add-le-add (le_refl (nat_abs m.number)) little)) product-number

  sum_near : Close binary64 (add binary64 (product (encode a) (encode b) w) x) (m.number +ℤ l) 1055
  sum_near =
      close-by binary64 (add binary64 (product (encode a) (encode b) w) x) (m.number +ℤ l) 1055 (lit< tt)
      (in_reach (nat_abs (m.number +ℤ l)) (reach + 2 ^ 32 + 2 ^ 36) (2 ^ 86) (lit< tt) sum-most)
      (add-rounded binary64 (product (encode a) (encode b) w) x m.number l unit (pow_pos 1074) m.value at)

  sum_number : nat_abs sum_near.number ≤ 4000000001 * unit
  sum_number =
      le_trans (more (nat_abs sum_near.number) (nat_abs (m.number +ℤ l)) (reach + 2 ^ 32 + 2 ^ 36) (2 ^ 33) step
      (size-near sum_near.number (m.number +ℤ l) (2 ^ 33 * step) sum_near.near) sum-most)
      (mul-le-mul_right {m = reach + 2 ^ 32 + 2 ^ 36 + 2 ^ 33} {n = 4000000001 * 2 ^ 52} step (lit≤ tt))

  abbrev start : ℕ
  start = (beside a sa).number

  total : Moved (start * unit) (4000000001 * unit) sum_near.number
  total = moved (start * unit) (4000000001 * unit) sum_near.number sum_number (mul-le-mul_right {m = 4000000001} {n = start} unit (enough start (beside a sa).least))
    where
      enough : (n : ℕ) → anchor ≤ n + 2000000000 → 4000000001 ≤ n
      enough n h = omega arith

  -- from 2 ^ 52 to 2 ^ 53 doubles are whole numbers
  total-least : 2 ^ 52 * unit ≤ total.number
  total-least = enough start total.number unit (mul-le-mul_right unit (beside a sa).least) total.least
    where
      enough : (n k u : ℕ) → anchor * u ≤ (n + 2000000000) * u → n * u ≤ k + 4000000001 * u → 2 ^ 52 * u ≤ k
      enough n k u h l = omega arith

  total-most : total.number < 2 ^ 53 * unit
  total-most = enough start total.number unit (pow_pos 1074) (mul-le-mul_right unit (beside a sa).most) total.most
    where
      enough : (n k u : ℕ) → 0 < u → n * u ≤ (anchor + 2000000000) * u → k ≤ n * u + 4000000001 * u → k < 2 ^ 53 * u
      enough n k u U h l = omega arith

  leaned-rounded : Rounded binary64 (blend (encode a) (encode b) w x) (pos (start * unit) +ℤ sum_near.number) unit
  unfolding blend
  leaned-rounded =
      add-rounded binary64 (encode a) (add binary64 (product (encode a) (encode b) w) x) (pos (start * unit)) sum_near.number unit (pow_pos 1074)
      (at_same (encode a) (pos start) (pos (start * unit)) 1 unit (zero-lt-suc 0) (ap pos (sym (mul-one (start * unit)))) (encode-at a sa)) sum_near.value

  ends : blend (encode a) (encode b) w x ≡ round binary64 false total.number unit
  ends =
      upright binary64 (blend (encode a) (encode b) w x) total.number unit (lt_of_lt_of_le (mul-pos (pow_pos 52) (pow_pos 1074)) total-least)
      (subst (λ y. Rounded binary64 (blend (encode a) (encode b) w x) y unit) total.same leaned-rounded)

  landed : Whole binary64 false total.number unit
  landed = round-whole-number binary64 false total.number unit (pow_pos 1074) total-least total-most

  landing : Landing (blend (encode a) (encode b) w x) (beside a sa).number m.number l
  landing = record {
    number = landed.number;
    value = subst (λ (y : Float). HasValue y false landed.number 1) (sym ends) landed.value;
    most = within landed.number total.number unit (pow_pos 1074) total-most landed.half.above;
    sum = sum_near.number;
    leant = record {
      last =
          last-error landed.number total.number start unit sum_near.number total.same
          (distance (landed.number * unit) total.number unit landed.half.above landed.half.below);
      lean = sum_near.near;
    };
  }
    where
      within : (q k u : ℕ) → 0 < u → k < 2 ^ 53 * u → 2 * (q * u) ≤ 2 * k + u → q ≤ 2 ^ 53
      within q k u U h l = le_of_suc-le-suc (lt_of_mul-lt-mul_right u {m = q} {n = suc (2 ^ 53)} (omega arith))

      last-error : (q k n u : ℕ) (y : ℤ) → pos (n * u) +ℤ y ≡ pos k → 2 * nat_abs (pos (q * u) -ℤ pos k) ≤ u → 2 * nat_abs ((pos q -ℤ pos n) *ℤ pos u -ℤ y) ≤ u
      last-error q k n u y e h =
          let i : nat_abs ((pos q -ℤ pos n) *ℤ pos u -ℤ y) ≡ nat_abs (pos (q * u) -ℤ pos k) =
          ap nat_abs (ring (pos q ∷ pos n ∷ pos u ∷ y ∷ []) (λ q n u y. (q ⊝ n) ⊗ u ⊝ y ≐ q ⊗ u ⊝ (n ⊗ u ⊕ y)) tt ∙ ap (λ t. pos (q * u) -ℤ t) e) in
          subst (λ (j : ℕ). 2 * j ≤ u) (sym i) h

-- ---- both slacks at one number
rearranged : (N q n a b : ℤ) (p r D : ℕ) → N +ℤ a ≡ n → D ≡ r + p → pos D *ℤ (q -ℤ n) -ℤ pos p *ℤ (b -ℤ a) ≡ pos D *ℤ (q -ℤ N) -ℤ (pos r *ℤ a +ℤ pos p *ℤ b)
rearranged N q n a b p r D h e =
    ap₂ (λ (k : ℕ) m. pos k *ℤ (q -ℤ m) -ℤ pos p *ℤ (b -ℤ a)) e (sym h)
    ∙ ring (N ∷ q ∷ a ∷ b ∷ pos p ∷ pos r ∷ []) (λ N q a b p r. (r ⊕ p) ⊗ (q ⊝ (N ⊕ a)) ⊝ p ⊗ (b ⊝ a) ≐ (r ⊕ p) ⊗ (q ⊝ N) ⊝ (r ⊗ a ⊕ p ⊗ b)) tt
    ∙ ap (λ (k : ℕ). pos k *ℤ (q -ℤ N) -ℤ (pos r *ℤ a +ℤ pos p *ℤ b)) (sym e)

encode-number : (q : ℕ) → encode (pos q -ℤ pos anchor) ≡ round binary64 false q 1
unfolding encode of_int
encode-number q = ap (of_int binary64) (ring (pos q ∷ pos anchor ∷ []) (λ q n. n ⊕ (q ⊝ n) ≐ q) tt)

leaned-fits : (a b w e : Float) → T (fits binary64 (blend a b w e))
unfolding blend
leaned-fits a b w e = add-fits binary64 a (add binary64 (mul binary64 (sub binary64 b a) w) e)

module _ (a b : ℤ) (p D : ℕ) (sa : InRange a) (sb : InRange b) (h : p ≤ D) (some : 0 < D) (most : D ≤ 4000000000) where
  abbrev weight : Nearby binary64 (weight_of p D) (pos p) D 1022
  weight = weight-near p D h some most

  abbrev moving : Close binary64 (product (encode a) (encode b) (weight_of p D)) ((b -ℤ a) *ℤ weight.number) 1054
  moving = product-near a b p D sa sb h some weight

  lands : (x : Float) (l : ℤ) → At x l unit → nat_abs l ≤ 2 ^ 36 * step → Landing (blend (encode a) (encode b) (weight_of p D) x) (beside a sa).number moving.number l
  lands = landing a b sa (weight_of p D) ((b -ℤ a) *ℤ weight.number) (product-most a b p D sa sb h some weight) moving

  higher : Landing (blend (encode a) (encode b) (weight_of p D) above) (beside a sa).number moving.number (pos (2 ^ 36 * step))
  higher = lands above (pos (2 ^ 36 * step)) refl (le_refl (2 ^ 36 * step))

  lower : Landing (blend (encode a) (encode b) (weight_of p D) below) (beside a sa).number moving.number (neg_ℤ (pos (2 ^ 36 * step)))
  lower = lands below (neg_ℤ (pos (2 ^ 36 * step))) refl (le_of_eq (abs_neg (pos (2 ^ 36 * step))))

  nearest-is : pos lower.number ≡ pos higher.number → between a b p D ≡ pos higher.number -ℤ pos anchor
  nearest-is e =
      between-unique a b (pos higher.number -ℤ pos anchor) p D
      (subst (λ z. 2 * nat_abs z < D) (rearranged (pos anchor) (pos higher.number) (pos (beside a sa).number) a b p (D - p) D (beside a sa).same (omega arith))
      (only_one D unit step p (b -ℤ a) (pos higher.number -ℤ pos (beside a sa).number) weight.number moving.number higher.sum lower.sum
      some (pow_pos 1022) (le_trans (gap-size a b sa sb) (lit≤ tt)) weight.near moving.near higher.leant
      (subst (λ z. Leaned unit step (z -ℤ pos (beside a sa).number) moving.number lower.sum (neg_ℤ (pos (2 ^ 36 * step)))) e lower.leant)))

pub certain-between : (a b : ℤ) (p D : ℕ) → InRange a → InRange b → p ≤ D → 0 < D → D ≤ 4000000000
    → certain (encode a) (encode b) (weight_of p D) ≡ true
    → blend (encode a) (encode b) (weight_of p D) above ≡ encode (between a b p D)
certain-between a b p D sa sb h some most sure =
    let u = blend (encode a) (encode b) (weight_of p D) above in
    let v = blend (encode a) (encode b) (weight_of p D) below in
    let r = higher a b p D sa sb h some most in
    let s = lower a b p D sa sb h some most in
    let e : pos r.number ≡ pos s.number = eq-at u v (pos r.number) (pos s.number) 1 (at_value u false r.number 1 r.value) (at_value v false s.number 1 s.value) sure in
    whole_unique binary64 u (round binary64 false r.number 1) false r.number
    (leaned-fits (encode a) (encode b) (weight_of p D) above) (round-fits binary64 false r.number 1) r.value (round_whole binary64 false r.number r.most)
    ∙ sym (encode-number r.number) ∙ ap encode (sym (nearest-is a b p D sa sb h some most (sym e)))
