-- `round` by the grid that it rounds to: its result is a whole number of steps, and at most half a step from the fraction.
use mathlib.Core.Path.{◌≡◌, sym, ap, subst}
use mathlib.Core.Bool.{Bool, not}
use Prim.Native.Nat.{ℕ, zero, suc, ◌+◌, ◌-◌, ◌*◌, ◌/◌, ◌%◌, ◌^◌, ◌≤◌, ◌<◌, compare, Ordering}
use native.Mathlib.Nat.{le_trans, le_of_eq, lt_of_le_of_lt, lt_of_lt_of_le, lt_of_not-le, not-le_of_lt, mul-one, mul-lt-mul_of_pos_right, mul-le-mul, eq_of_mul-eq-mul_right, le_antisymm, mul-pos, mul-le-mul_left, mul-le-mul_right, le_of_mul-le-mul_right, mod-lt, div-add-mod', div-div-eq-div-mul, div-lt_iff_lt-mul, le-div_iff_mul-le}
use native.Mathlib.Omega.{arith}
use lib.Dec.{T, is_le, compare_is_eq, leb→le, nleb→lt, eqb→eq, lit<}
use lib.Pow.{pow-add, pow_pos, pow_mono, pow-lt}
use lib.Ieee.{Float, nan, inf, fin, Format, binary32, binary64, prec, emax, low, up, down, size, nearest, round}
use lib.Ieee.Digits.{size-lt, size-le}
use lib.Ieee.Fits.{kept-lt, nearest-le, round_is, two, two-le_pos}
use lib.Ieee.Exact.{HasValue, units_val}
use lib.Ieee.Nearest.{closest}
use lib.Ieee.Order.{drop, kept as digits}
use lib.Ieee.Scale.{grid}

-- ---- the nearest whole number of a / b is at most half away
abbrev Told : Ordering → ℕ → ℕ → Type 0
Told Ordering.lt a b = a ≤ b
Told Ordering.eq a b = a ≡ b
Told Ordering.gt a b = b < a

told : (a b : ℕ) → Told (compare a b) a b
told a b = go (compare a b) (leb→le a b) (nleb→lt a b) (eqb→eq a b)
  where
    go : (o : Ordering) → (T (is_le o) → a ≤ b) → (T (not (is_le o)) → b < a) → (T (compare_is_eq o) → a ≡ b) → Told o a b
    go Ordering.lt h k e = h tt
    go Ordering.eq h k e = e tt
    go Ordering.gt h k e = k tt

-- x and y are at most k / 2 apart
pub record Halfway (x y k : ℕ) : Type 0 where
  pub above : 2 * x ≤ 2 * y + k
  pub below : 2 * y ≤ 2 * x + k

tie : (w t r b : ℕ) → t < 2 → r * 2 ≡ b → Halfway ((w + t) * b) (w * b + r) b
tie w zero r b h e = omega arith
tie w (suc zero) r b h e = omega arith
tie w (suc (suc t)) r b h e = absurd (omega arith)

nearest-half : (w r b : ℕ) (o : Ordering) → Told o (r * 2) b → r < b → Halfway (nearest w o * b) (w * b + r) b
nearest-half w r b Ordering.lt h l = omega arith
nearest-half w r b Ordering.eq h l = tie w (w % 2) r b (omega arith) h
nearest-half w r b Ordering.gt h l = omega arith

closest-half : (a b : ℕ) → 0 < b → Halfway (closest a b * b) a b
closest-half a b h =
    subst (λ (n : ℕ). Halfway (closest a b * b) n b) (div-add-mod' a b) (nearest-half (a / b) (a % b) b (compare (a % b * 2) b) (told (a % b * 2) b) (mod-lt a h))

-- ---- the fractions that a value is
same-ratio : (x w a c b d : ℕ) → 0 < c → x * c ≡ a * w → a * d ≡ b * c → x * d ≡ b * w
same-ratio x w a c b d C h k =
    let p : x * c * d ≡ a * w * d = ap (λ (n : ℕ). n * d) h in
    let q : a * d * w ≡ b * c * w = ap (λ (n : ℕ). n * w) k in
    eq_of_mul-eq-mul_right c C (x * d) (b * w) (omega arith)

value_same : (x : Float) (s : Bool) (a c b d : ℕ) → 0 < c → a * d ≡ b * c → HasValue x s a c → HasValue x s b d
value_same nan s a c b d C e v = v
value_same (inf t) s a c b d C e v = v
value_same (fin t m e) s a c b d C k v = (v.0, same-ratio (m * up e) (down e) a c b d C v.1 k)

-- ---- a fraction below 2 ^ (prec + j) of the format's smallest values is rounded to steps of at most 2 ^ j of them
few : (z p j : ℕ) → z ≤ p + j → z - p ≤ j
few z p j h = omega arith

drop_le : (p n c j : ℕ) → 0 < c → n < 2 ^ (p + j) * c → drop p n c ≤ j
drop_le p n c j C h = few (size (n / c)) p j (size-le (n / c) (p + j) ((div-lt_iff_lt-mul C).1 h))

digits_le : (p n c : ℕ) → digits p n c ≤ 2 ^ p
digits_le p n c =
    let k = drop p n c in
    let u = c * 2 ^ k in
    le_trans (nearest-le (n / u) (compare (n % u * 2) u)) (subst (λ (x : ℕ). x < 2 ^ p) (div-div-eq-div-mul n c (2 ^ k)) (kept-lt p (n / c)))

-- it is `size` of the format's smallest values, and at most half of 2 ^ j of them from num / c
pub record Rounds (f : Format) (s : Bool) (num c j : ℕ) : Type 0 where
  pub size : ℕ
  pub value : HasValue (round f s num c) s size (2 ^ low f)
  pub half : Halfway (c * size) (num * 2 ^ low f) (c * 2 ^ j)

module _ (f : Format) (s : Bool) (num c j : ℕ) (C : 0 < c) (fine : prec f + j < low f + suc (emax f)) (h : num * 2 ^ low f < 2 ^ (prec f + j) * c) where
  least : drop (prec f) (num * 2 ^ low f) c ≤ j
  least = drop_le (prec f) (num * 2 ^ low f) c j C h

  under : grid f num c < 2 ^ (low f + suc (emax f))
  under =
      lt_of_le_of_lt (le_trans (mul-le-mul (digits_le (prec f) (num * 2 ^ low f) c) (pow_mono least)) (le_of_eq (sym (pow-add 2 (prec f) j)))) (pow-lt fine)

  grid-value : HasValue (round f s num c) s (grid f num c) (2 ^ low f)
  grid-value =
      subst (λ (x : Float). HasValue x s (grid f num c) (2 ^ low f)) (sym (round_is f s num c))
      (units_val f s (digits (prec f) (num * 2 ^ low f) c) (drop (prec f) (num * 2 ^ low f) c) under)

  grid-half : Halfway (digits (prec f) (num * 2 ^ low f) c * (c * 2 ^ drop (prec f) (num * 2 ^ low f) c)) (num * 2 ^ low f) (c * 2 ^ drop (prec f) (num * 2 ^ low f) c)
  grid-half = closest-half (num * 2 ^ low f) (c * 2 ^ drop (prec f) (num * 2 ^ low f) c) (mul-pos C (pow_pos (drop (prec f) (num * 2 ^ low f) c)))

  wider : (q x y n : ℕ) → c * x ≤ c * y → Halfway (q * (c * x)) n (c * x) → Halfway (c * (q * x)) n (c * y)
  wider q x y n l g = let p = g.above in let r = g.below in omega arith

  pub round-near : Rounds f s num c j
  round-near = record {
    size = grid f num c;
    value = grid-value;
    half = wider (digits (prec f) (num * 2 ^ low f) c) (2 ^ drop (prec f) (num * 2 ^ low f) c) (2 ^ j) (num * 2 ^ low f) (mul-le-mul_left c (pow_mono least)) grid-half;
  }

-- ---- from 2 ^ (prec - 1) to 2 ^ prec the steps are 1 wide
pub record Whole (f : Format) (s : Bool) (num c : ℕ) : Type 0 where
  pub number : ℕ
  pub value : HasValue (round f s num c) s number 1
  pub half : Halfway (number * c) num c

room : (f : Format) → prec f + low f < low f + suc (emax f)
room binary32 = lit< tt
room binary64 = lit< tt

narrow : (q c n u : ℕ) → 0 < u → Halfway (q * (c * u)) (n * u) (c * u) → Halfway (q * c) n c
narrow q c n u U g = let p = g.above in let r = g.below in record {
  above = le_of_mul-le-mul_right {m = 2 * (q * c)} {n = 2 * n + c} {k = u} (omega arith) U;
  below = le_of_mul-le-mul_right {m = 2 * n} {n = 2 * (q * c) + c} {k = u} (omega arith) U;
}

spare : (z p l : ℕ) → 0 < p → p - 1 + l < z → l ≤ z - p
spare z p l P h = omega arith

size-gt : (n j : ℕ) → 2 ^ j ≤ n → j < size n
size-gt n j h = lt_of_not-le (λ (g : size n ≤ j). not-le_of_lt (lt_of_lt_of_le (size-lt n) (pow_mono g)) h)

module _ (f : Format) (s : Bool) (num c : ℕ) (C : 0 < c) (least : 2 ^ (prec f - 1) * c ≤ num) (most : num < 2 ^ prec f * c) where
  below_all : (x y u : ℕ) → x ≡ y * u → num * u < y * c * u → num * u < x * c
  below_all x y u e h = subst (λ (n : ℕ). num * u < n * c) (sym e) (omega arith)

  above-all : (x y u : ℕ) → x ≡ y * u → y * c * u ≤ num * u → x * c ≤ num * u
  above-all x y u e h = subst (λ (n : ℕ). n * c ≤ num * u) (sym e) (omega arith)

  upper : num * 2 ^ low f < 2 ^ (prec f + low f) * c
  upper = below_all (2 ^ (prec f + low f)) (2 ^ prec f) (2 ^ low f) (pow-add 2 (prec f) (low f)) (mul-lt-mul_of_pos_right most (pow_pos (low f)))

  lower : 2 ^ (prec f - 1 + low f) * c ≤ num * 2 ^ low f
  lower = above-all (2 ^ (prec f - 1 + low f)) (2 ^ (prec f - 1)) (2 ^ low f) (pow-add 2 (prec f - 1) (low f)) (mul-le-mul_right (2 ^ low f) least)

  exactly : drop (prec f) (num * 2 ^ low f) c ≡ low f
  exactly =
      le_antisymm (drop_le (prec f) (num * 2 ^ low f) c (low f) C upper)
      (spare (size (num * 2 ^ low f / c)) (prec f) (low f) (two-le_pos (prec f) (two f)) (size-gt (num * 2 ^ low f / c) (prec f - 1 + low f) ((le-div_iff_mul-le C).1 lower)))

  pub round-whole-number : Whole f s num c
  round-whole-number = record {
    number = closest (num * 2 ^ low f) (c * 2 ^ low f);
    value =
        value_same (round f s num c) s (closest (num * 2 ^ low f) (c * 2 ^ low f) * 2 ^ low f) (2 ^ low f) (closest (num * 2 ^ low f) (c * 2 ^ low f)) 1 (pow_pos (low f))
        (mul-one (closest (num * 2 ^ low f) (c * 2 ^ low f) * 2 ^ low f))
        (subst (λ (k : ℕ). HasValue (round f s num c) s (closest (num * 2 ^ low f) (c * 2 ^ k) * 2 ^ k) (2 ^ low f)) exactly (grid-value f s num c (low f) C (room f) upper));
    half =
        narrow (closest (num * 2 ^ low f) (c * 2 ^ low f)) c num (2 ^ low f) (pow_pos (low f)) (closest-half (num * 2 ^ low f) (c * 2 ^ low f) (mul-pos C (pow_pos (low f))));
  }
