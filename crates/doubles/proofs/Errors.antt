-- What the doubles' errors add up to, in whole numbers: between the two slacks' results there is room for one nearest whole number only.
use mathlib.Core.Path.{◌≡◌, refl, sym, ap, ◌∙◌, subst}
use mathlib.Core.List.{[], ◌∷◌}
use Prim.Native.Nat.{ℕ, suc, ◌+◌, ◌-◌, ◌*◌, ◌^◌, ◌≤◌, ◌<◌}
use native.Mathlib.Nat.{mul-pos, mul-le-mul, mul-le-mul_left, mul-le-mul_right, le_of_mul-le-mul_right, lt_of_mul-lt-mul_right}
use native.Mathlib.Omega.{arith}
use lib.IntN.{ℤ, pos, negsuc, neg_ℤ, nat_abs, ◌+ℤ◌, ◌-ℤ◌, ◌*ℤ◌, neg_ℤ-neg_ℤ}
use Rattle.rounding.proofs.IntLaws.{abs_neg, abs-*, abs-+}
use Rattle.rounding.proofs.Ring.{ring, ◌⊕◌, ◌⊝◌, ◌⊗◌, ⊖, ◌≐◌}
use Rattle.doubles.proofs.Signs.{minus}

-- ---- x lies within k / 2 of c and of -c
two-sided : (x : ℤ) (c k : ℕ) → 2 * nat_abs (x -ℤ pos c) ≤ k → 2 * nat_abs (x -ℤ neg_ℤ (pos c)) ≤ k → 2 * (nat_abs x + c) ≤ k
two-sided (pos n) c k h l = subst (λ z. 2 * nat_abs (pos n +ℤ z) ≤ k) (neg_ℤ-neg_ℤ (pos c)) l
two-sided (negsuc n) c k h l =
    let e : nat_abs (negsuc n -ℤ pos c) ≡ suc n + c = ap nat_abs (ring (pos (suc n) ∷ pos c ∷ []) (λ n c. ⊖ n ⊝ c ≐ ⊖ (n ⊕ c)) tt) ∙ abs_neg (pos (suc n + c)) in
    omega (arith, e)

-- ---- D times the exact value's distance from g, and a lean h, part by part: the last rounding's error, the lean's, the product's and the weight's
parts : (D U p : ℕ) (d g w m n h : ℤ)
    → nat_abs ((pos D *ℤ g -ℤ pos p *ℤ d) *ℤ pos U -ℤ pos D *ℤ h)
    ≤ D * nat_abs (g *ℤ pos U -ℤ n) + D * nat_abs (n -ℤ (m +ℤ h)) + D * nat_abs (m -ℤ d *ℤ w) + nat_abs d * nat_abs (w *ℤ pos D -ℤ pos p *ℤ pos U)
parts D U p d g w m n h =
    let a = g *ℤ pos U -ℤ n in
    let b = n -ℤ (m +ℤ h) in
    let c = m -ℤ d *ℤ w in
    let k = w *ℤ pos D -ℤ pos p *ℤ pos U in
    let e : nat_abs ((pos D *ℤ g -ℤ pos p *ℤ d) *ℤ pos U -ℤ pos D *ℤ h) ≡ nat_abs (pos D *ℤ a +ℤ pos D *ℤ b +ℤ pos D *ℤ c +ℤ d *ℤ k) =
    ap nat_abs (ring (pos D ∷ pos U ∷ pos p ∷ d ∷ g ∷ w ∷ m ∷ n ∷ h ∷ [])
    (λ D U p d g w m n h. (D ⊗ g ⊝ p ⊗ d) ⊗ U ⊝ D ⊗ h ≐ D ⊗ (g ⊗ U ⊝ n) ⊕ D ⊗ (n ⊝ (m ⊕ h)) ⊕ D ⊗ (m ⊝ d ⊗ w) ⊕ d ⊗ (w ⊗ D ⊝ p ⊗ U)) tt) in
    omega (arith, e, abs-+ (pos D *ℤ a +ℤ pos D *ℤ b +ℤ pos D *ℤ c) (d *ℤ k), abs-+ (pos D *ℤ a +ℤ pos D *ℤ b) (pos D *ℤ c), abs-+ (pos D *ℤ a) (pos D *ℤ b), abs-* (pos D) a, abs-* (pos D) b, abs-* (pos D) c, abs-* d k)

-- n is m leant by h, rounded, and g is n / U, rounded to a whole number
pub record Leaned (U e : ℕ) (g m n h : ℤ) : Type 0 where
  pub last : 2 * nat_abs (g *ℤ pos U -ℤ n) ≤ U
  pub lean : 2 * nat_abs (n -ℤ (m +ℤ h)) ≤ 2 ^ 33 * e

-- slacks of 2 ^ 36 steps to either side leave more room than all errors take
module _ (D U e p : ℕ) (d g w m n₁ n₂ : ℤ) (some : 0 < D) (step : 0 < e) (gap : nat_abs d ≤ 2 ^ 32)
    (weight : 2 * nat_abs (w *ℤ pos D -ℤ pos p *ℤ pos U) ≤ D * e) (product : 2 * nat_abs (m -ℤ d *ℤ w) ≤ 2 ^ 32 * e) where
  total : (n h : ℤ) → Leaned U e g m n h → 2 * nat_abs ((pos D *ℤ g -ℤ pos p *ℤ d) *ℤ pos U -ℤ pos D *ℤ h) ≤ D * U + 2 ^ 34 * (D * e)
  total n h l =
      sums (nat_abs (g *ℤ pos U -ℤ n)) (nat_abs (n -ℤ (m +ℤ h))) (nat_abs (m -ℤ d *ℤ w)) (nat_abs (w *ℤ pos D -ℤ pos p *ℤ pos U))
      (mul-le-mul_left D l.last) (mul-le-mul_left D l.lean) (mul-le-mul_left D product) (mul-le-mul gap weight) (parts D U p d g w m n h)
    where
      sums : {x : ℕ} (a b c k : ℕ) → D * (2 * a) ≤ D * U → D * (2 * b) ≤ D * (2 ^ 33 * e) → D * (2 * c) ≤ D * (2 ^ 32 * e) → nat_abs d * (2 * k) ≤ 2 ^ 32 * (D * e)
          → x ≤ D * a + D * b + D * c + nat_abs d * k → 2 * x ≤ D * U + 2 ^ 34 * (D * e)
      sums a b c k i j l o q = omega arith

  pub only_one : Leaned U e g m n₁ (pos (2 ^ 36 * e)) → Leaned U e g m n₂ (neg_ℤ (pos (2 ^ 36 * e))) → 2 * nat_abs (pos D *ℤ g -ℤ pos p *ℤ d) < D
  only_one i j =
      lt_of_mul-lt-mul_right U
      (left (nat_abs (x *ℤ pos U)) (nat_abs x) (abs-* x (pos U)) (mul-pos some step)
      (two-sided (x *ℤ pos U) (D * (2 ^ 36 * e)) (D * U + 2 ^ 34 * (D * e)) (total n₁ (pos (2 ^ 36 * e)) i)
      (subst (λ z. 2 * nat_abs (x *ℤ pos U -ℤ z) ≤ D * U + 2 ^ 34 * (D * e)) (ring (pos D ∷ pos (2 ^ 36 * e) ∷ []) (λ d h. d ⊗ ⊖ h ≐ ⊖ (d ⊗ h)) tt) (total n₂ (neg_ℤ (pos (2 ^ 36 * e))) j))))
    where
      x : ℤ
      x = pos D *ℤ g -ℤ pos p *ℤ d

      left : (n k : ℕ) → n ≡ k * U → 0 < D * e → 2 * (n + D * (2 ^ 36 * e)) ≤ D * U + 2 ^ 34 * (D * e) → 2 * k * U < D * U
      left n k q r t = omega arith

-- ---- how large each step's number is
pub size-near : (y z : ℤ) (k : ℕ) → 2 * nat_abs (y -ℤ z) ≤ k → nat_abs y ≤ nat_abs z + k
size-near y z k h =
    let e : nat_abs y ≡ nat_abs (y -ℤ z +ℤ z) = ap nat_abs (ring (y ∷ z ∷ []) (λ y z. y ≐ y ⊝ z ⊕ z) tt) in
    omega (arith, e, abs-+ (y -ℤ z) z)

pub weight-size : (w : ℤ) (D p U e : ℕ) → 0 < D → p ≤ D → 2 * nat_abs (w *ℤ pos D -ℤ pos p *ℤ pos U) ≤ D * e → nat_abs w ≤ U + e
weight-size w D p U e some h k =
    let l : nat_abs (w *ℤ pos D) ≤ p * U + D * e = size-near (w *ℤ pos D) (pos p *ℤ pos U) (D * e) k in
    let m : p * U ≤ D * U = mul-le-mul_right U h in
    le_of_mul-le-mul_right {m = nat_abs w} {n = U + e} {k = D} (omega (arith, abs-* w (pos D))) some

pub product-size : (d w : ℤ) (j k : ℕ) → nat_abs d ≤ j → nat_abs w ≤ k → nat_abs (d *ℤ w) ≤ j * k
product-size d w j k h l = subst (λ (n : ℕ). n ≤ j * k) (sym (abs-* d w)) (mul-le-mul h l)

-- N + z, where N is as large as z at least
pub record Moved (N B : ℕ) (z : ℤ) : Type 0 where
  pub number : ℕ
  pub same : pos N +ℤ z ≡ pos number
  pub least : N ≤ number + B
  pub most : number ≤ N + B

pub moved : (N B : ℕ) (z : ℤ) → nat_abs z ≤ B → B ≤ N → Moved N B z
moved N B (pos n) h k = record { number = N + n; same = refl; least = omega arith; most = omega arith }
moved N B (negsuc n) h k = record { number = N - suc n; same = minus N (suc n) (omega arith); least = omega arith; most = omega arith }
