-- A product or a quotient by a power of ten moves the point along the digits: those before it are left, and zeros stand where they lack.
use Prim.Native.Nat.{ℕ, ◌+◌, ◌-◌, ◌*◌, ◌/◌, ◌^◌, ◌≤◌, ◌<◌}
use mathlib.Core.Path.{◌≡◌, sym, ap, ap₂, ◌∙◌}
use mathlib.Core.List.{List}
use mathlib.Core.Bool.{Bool, true, false, cond}
use mathlib.Core.Logic.{⊎_elim}
use lib.ListN.{length, take, drop, take-append-drop, length-drop}
use lib.Seq.{take_all}
use lib.Dec.{leb}
use lib.Pow.{pow-add}
use borrow.Author.Tests.{leb-true, leb-false}
use native.Mathlib.Omega.{arith}
use native.Mathlib.Nat.{mul-le-mul_right, mul-le-mul_left, mul_assoc, mul_comm, mul-one, mul-lt-mul_of_pos_right, pow-le-pow_right, div-eq_of_lt, div-eq_of_eq-mul_left, div-div-eq-div-mul, div-mul-le_self, lt-mul-div-succ, mul-div-mul_right}
use Rattle.lists.proofs.Tests.{test}
use Rattle.digits.specs.Digits.{digits, nat_of}
use Rattle.digits.specs.Straight.{cap}
use Rattle.digits.proofs.Rows.{ten-pos, nat_of-append, nat_of-div, nat_of-high, digits-drop}
use Rattle.decimals.specs.Straight.{places_of, taken_of, moved_of}

module _ (d : List ℕ) (h : digits d ≡ true) (p j : ℕ) where
  up : j ≤ p → nat_of 0 d * 10 ^ p / 10 ^ j ≡ taken_of (length d + p - j) d
  up l =
      let i : ℕ = p - j in
      let a : p ≡ i + j = omega arith in
      let e : 10 ^ p ≡ 10 ^ i * 10 ^ j = ap (λ (n : ℕ). 10 ^ n) a ∙ pow-add 10 i j in
      let n : length d + p - j - length d ≡ i = omega arith in
      let m : length d ≤ length d + p - j = omega arith in
      div-eq_of_eq-mul_left (ten-pos j) (ap (λ (x : ℕ). nat_of 0 d * x) e ∙ sym (mul_assoc (nat_of 0 d) (10 ^ i) (10 ^ j)))
      ∙ sym (ap₂ (λ (l : List ℕ) (k : ℕ). nat_of 0 l * 10 ^ k) (take_all (length d + p - j) d m) n)

  down : p < j → j ≤ length d + p → nat_of 0 d * 10 ^ p / 10 ^ j ≡ taken_of (length d + p - j) d
  down l m =
      let i : ℕ = length d + p - j in
      let g : List ℕ = drop i d in
      let s : j ≡ length g + p = omega (arith, length-drop i d) in
      let z : i - length d ≡ 0 = omega arith in
      let e : 10 ^ j ≡ 10 ^ length g * 10 ^ p = ap (λ (n : ℕ). 10 ^ n) s ∙ pow-add 10 (length g) p in
      let n : nat_of 0 d ≡ nat_of (nat_of 0 (take i d)) g = ap (nat_of 0) (sym (take-append-drop i d)) ∙ nat_of-append 0 (take i d) g in
      ap (λ (x : ℕ). nat_of 0 d * 10 ^ p / x) e
      ∙ mul-div-mul_right {m = 10 ^ p} (nat_of 0 d) (10 ^ length g) (ten-pos p)
      ∙ ap (λ (x : ℕ). x / 10 ^ length g) n
      ∙ nat_of-div (nat_of 0 (take i d)) g (digits-drop i d h)
      ∙ sym (ap (λ (k : ℕ). nat_of 0 (take i d) * 10 ^ k) z ∙ mul-one (nat_of 0 (take i d)))

  none : length d + p < j → nat_of 0 d * 10 ^ p / 10 ^ j ≡ taken_of (length d + p - j) d
  none l =
      let z : length d + p - j ≡ 0 = omega arith in
      let a : nat_of 0 d < (0 + 1) * 10 ^ length d = nat_of-high 0 d h in
      let b : nat_of 0 d * 10 ^ p < (0 + 1) * 10 ^ length d * 10 ^ p = mul-lt-mul_of_pos_right a (ten-pos p) in
      let e : 10 ^ (length d + p) ≡ 10 ^ length d * 10 ^ p = pow-add 10 (length d) p in
      let c : 10 ^ (length d + p) ≤ 10 ^ j = pow-le-pow_right {n = 10} (omega arith) (let x : length d + p ≤ j = omega arith in x) in
      let f : (0 + 1) * 10 ^ length d * 10 ^ p ≡ 10 ^ length d * 10 ^ p = ap (λ (x : ℕ). x * 10 ^ p) (let y : (0 + 1) * 10 ^ length d ≡ 10 ^ length d = omega arith in y) in
      div-eq_of_lt (let x : nat_of 0 d * 10 ^ p < 10 ^ j = omega arith in x)
      ∙ sym (ap (λ (k : ℕ). taken_of k d) z ∙ (omega arith))

  pub moved : nat_of 0 d * 10 ^ p / 10 ^ j ≡ taken_of (length d + p - j) d
  moved =
      ⊎_elim
      (λ (t : leb j p ≡ true). up (leb-true j p t))
      (λ (t : leb j p ≡ false).
      ⊎_elim
      (λ (r : leb j (length d + p) ≡ true). down (leb-false j p t) (leb-true j (length d + p) r))
      (λ (r : leb j (length d + p) ≡ false). none (leb-false j (length d + p) r))
      (test (leb j (length d + p))))
      (test (leb j p))

-- seven places and those of the exponent, n digits standing before the point and f after it
pub shift-digits : (d : List ℕ) (n f : ℕ) → digits d ≡ true → length d ≡ n + f → (minus : Bool) (k : ℕ)
    → 10000000 * cond minus (nat_of 0 d) (nat_of 0 d * 10 ^ k) / cond minus (10 ^ f * 10 ^ k) (10 ^ f) ≡ taken_of (places_of minus n k) d
shift-digits d n f h e true k =
    let x : length d + 7 - (f + k) ≡ n + 7 - k = omega arith in
    ap₂ (λ (a b : ℕ). a / b) (mul_comm 10000000 (nat_of 0 d)) (sym (pow-add 10 f k))
    ∙ moved d h 7 (f + k)
    ∙ ap (λ (q : ℕ). taken_of q d) x
shift-digits d n f h e false k =
    let x : length d + (k + 7) - f ≡ n + 7 + k = omega arith in
    ap (λ (a : ℕ). a / 10 ^ f) (mul_comm 10000000 (nat_of 0 d * 10 ^ k) ∙ mul_assoc (nat_of 0 d) (10 ^ k) 10000000 ∙ ap (λ (a : ℕ). nat_of 0 d * a) (sym (pow-add 10 k 7)))
    ∙ moved d h (k + 7) f
    ∙ ap (λ (q : ℕ). taken_of q d) x

sevenfold : (n f t : ℕ) → f ≤ 7 → t ≡ n * 10 ^ (7 - f) → 10000000 * n ≡ t * 10 ^ f
sevenfold n f t h e =
    let s : 7 ≡ 7 - f + f = omega arith in
    mul_comm 10000000 n
    ∙ ap (λ (x : ℕ). n * x) (ap (λ (i : ℕ). 10 ^ i) s ∙ pow-add 10 (7 - f) f)
    ∙ sym (mul_assoc n (10 ^ (7 - f)) (10 ^ f))
    ∙ ap (λ (x : ℕ). x * 10 ^ f) (sym e)

-- the same of a number t of ten-millionths that is exact, f digits standing after the point
pub shift-number : (n f t : ℕ) → f ≤ 7 → t ≡ n * 10 ^ (7 - f) → (minus : Bool) (k : ℕ)
    → 10000000 * cond minus n (n * 10 ^ k) / cond minus (10 ^ f * 10 ^ k) (10 ^ f) ≡ moved_of minus t k
shift-number n f t h e true k =
    sym (div-div-eq-div-mul (10000000 * n) (10 ^ f) (10 ^ k))
    ∙ ap (λ (x : ℕ). x / 10 ^ k) (div-eq_of_eq-mul_left (ten-pos f) (sevenfold n f t h e))
shift-number n f t h e false k =
    div-eq_of_eq-mul_left (ten-pos f)
    (sym (mul_assoc 10000000 n (10 ^ k)) ∙ ap (λ (x : ℕ). x * 10 ^ k) (sevenfold n f t h e) ∙ mul_assoc t (10 ^ f) (10 ^ k) ∙ ap (λ (x : ℕ). t * x) (mul_comm (10 ^ f) (10 ^ k)) ∙ sym (mul_assoc t (10 ^ k) (10 ^ f)))

pub cut-none : (v n : ℕ) → v < 10 ^ 11 → 10 < n → 0 ≡ cap (v / 10 ^ n)
cut-none v n h l =
    let a : 10 ^ 11 ≤ 10 ^ n = pow-le-pow_right {n = 10} (omega arith) (let x : 11 ≤ n = omega arith in x) in
    let b : v / 10 ^ n ≡ 0 = div-eq_of_lt (let x : v < 10 ^ n = omega arith in x) in
    omega arith

-- ---- zeros after a number, capped
pub pad-none : (v k : ℕ) → v ≡ 0 → 0 ≡ cap (v * k)
pad-none v k z = rw z (omega arith)

pub pad-far : (v n : ℕ) → (v ≡ 0 → ⊥) → 10 < n → 20000000005 ≡ cap (v * 10 ^ n)
pad-far v n z h =
    let a : 10 ^ 11 ≤ 10 ^ n = pow-le-pow_right {n = 10} (omega arith) (let x : 11 ≤ n = omega arith in x) in
    let b : 1 * 10 ^ n ≤ v * 10 ^ n = mul-le-mul_right (10 ^ n) (let x : 1 ≤ v = omega arith in x) in
    omega arith

pub pad-over : (v k : ℕ) → 0 < k → 20000000005 / k < v → 20000000005 ≡ cap (v * k)
pad-over v k p h =
    let a : 20000000005 < k * (20000000005 / k + 1) = lt-mul-div-succ 20000000005 p in
    let b : k * (20000000005 / k + 1) ≤ k * v = mul-le-mul_left k (let x : 20000000005 / k + 1 ≤ v = omega arith in x) in
    let c = mul_comm k v in
    omega arith

pub pad-in : (v k : ℕ) → v ≤ 20000000005 / k → v * k ≤ 20000000005
pad-in v k h =
    let a : v * k ≤ 20000000005 / k * k = mul-le-mul_right k h in
    let b = div-mul-le_self 20000000005 k in
    omega arith

pub cap-times : (v k : ℕ) → 0 < k → cap (cap v * k) ≡ cap (v * k)
cap-times v k p =
    ⊎_elim
    (λ (t : leb v 20000000005 ≡ true). let l = leb-true v 20000000005 t in ap (λ (x : ℕ). cap (x * k)) (let y : cap v ≡ v = omega arith in y))
    (λ (t : leb v 20000000005 ≡ false).
    let l = leb-false v 20000000005 t in
    let e : cap v ≡ 20000000005 = omega arith in
    let a : 20000000005 * 1 ≤ 20000000005 * k = mul-le-mul_left 20000000005 p in
    let b : 20000000005 * k ≤ v * k = mul-le-mul_right k (let x : 20000000005 ≤ v = omega arith in x) in
    ap (λ (x : ℕ). cap (x * k)) e ∙ (omega arith))
    (test (leb v 20000000005))
