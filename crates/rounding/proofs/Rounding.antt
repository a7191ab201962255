-- What `between` keeps to, by the quotient's two bounds: it is at most half from the exact value, exact at both ends, and never outside a..b.
use mathlib.Core.Path.{◌≡◌, refl, sym, ap, ap₂, ◌∙◌, subst}
use mathlib.Core.List.{[], ◌∷◌}
use Prim.Native.Nat.{ℕ, zero, suc, ◌+◌, ◌-◌, ◌*◌, ◌≤◌, ◌<◌}
use native.Mathlib.Nat.{mul-le-mul_right, mul-div-le, lt-mul-div-succ, div-lt_iff_lt-mul, div-eq_of_lt-le}
use native.Mathlib.Omega.{arith}
use borrow.Author.Tests.{le-ltb}
use lib.Dec.{T, ltb, ltb→lt, leb→le, le→leb}
use lib.IntN.{ℤ, pos, negsuc, neg_ℤ, nat_abs, ◌+ℤ◌, ◌-ℤ◌, ◌*ℤ◌, +ℤ_idl, +ℤ_idr, *ℤ-zero}
use lib.Signed.{◌≤ℤ◌, le_z, lt_z, le_z_yes}
use Rattle.lists.specs.Signs.{with_sign}
use Rattle.rounding.specs.Round.{nearest, rounded, between}
use Rattle.rounding.specs.Range.{InRange}
use Rattle.rounding.proofs.IntLaws.{abs_neg, abs-*, abs-+, cond_ind, sub-eq}
use Rattle.rounding.proofs.FracLaws.{no_size}
use Rattle.rounding.proofs.Ring.{ring, ◌⊕◌, ◌⊝◌, ◌⊗◌, ⊖, ◌≐◌}
use Rattle.rounding.proofs.Order.{up, up_le}

-- ---- at most half from the exact value
pub distance : (x y k : ℕ) → 2 * x ≤ 2 * y + k → 2 * y ≤ 2 * x + k → 2 * nat_abs (pos x -ℤ pos y) ≤ k
distance x zero k h l = omega arith
distance x (suc y) k h l =
    cond_ind (ltb x (suc y)) (negsuc (suc y - suc x)) (pos (x - suc y)) (λ z. 2 * nat_abs z ≤ k) (λ t. low (ltb→lt x (suc y) t)) (λ t. omega arith)
  where
    low : x < suc y → 2 * suc (suc y - suc x) ≤ k
    low h = omega arith

nearest-near : (m d : ℕ) → 0 < d → 2 * nat_abs (pos d *ℤ pos (nearest m d) -ℤ pos m) ≤ d
nearest-near m d h =
    distance (d * nearest m d) m d (low (mul-div-le (2 * m + d) (2 * d))) (high (lt-mul-div-succ (2 * m + d) twice))
  where
    twice : 0 < 2 * d
    twice = omega arith

    low : 2 * d * nearest m d ≤ 2 * m + d → 2 * (d * nearest m d) ≤ 2 * m + d
    low p = omega arith

    high : 2 * m + d < 2 * d * (nearest m d + 1) → 2 * m ≤ 2 * (d * nearest m d) + d
    high p = omega arith

pub rounded-near : (z : ℤ) (d : ℕ) → 0 < d → 2 * nat_abs (pos d *ℤ rounded z d -ℤ z) ≤ d
unfolding rounded
rounded-near (pos m) d h = nearest-near m d h
rounded-near (negsuc m) d h =
    rw (ring (pos d ∷ pos (nearest (suc m) d) ∷ pos (suc m) ∷ []) (λ d r a. d ⊗ ⊖ r ⊝ ⊖ a ≐ ⊖ (d ⊗ r ⊝ a)) tt, abs_neg) (nearest-near (suc m) d h)

pub between-near : (a b : ℤ) (p D : ℕ) → 0 < D → 2 * nat_abs (pos D *ℤ between a b p D -ℤ (pos (D - p) *ℤ a +ℤ pos p *ℤ b)) ≤ D
unfolding between
between-near a b p D h =
    rw (ring (a ∷ b ∷ pos (D - p) ∷ pos p ∷ []) (λ a b q p. q ⊗ a ⊕ p ⊗ b ≐ a ⊗ q ⊕ b ⊗ p) tt) (rounded-near (a *ℤ pos (D - p) +ℤ b *ℤ pos p) D h)

-- what is less than half from the exact value is the nearest: D times the gap of two such is below D
no_gap : (D n x y : ℕ) → D * n ≤ x + y → 2 * x ≤ D → 2 * y < D → n ≡ 0
no_gap D zero x y h k l = refl
no_gap D (suc n) x y h k l = absurd (omega arith)

gaps : (D : ℕ) (y z x : ℤ) → D * nat_abs (y -ℤ z) ≤ nat_abs (pos D *ℤ y -ℤ x) + nat_abs (pos D *ℤ z -ℤ x)
gaps D y z x =
    let e : nat_abs (pos D *ℤ (y -ℤ z)) ≡ nat_abs (pos D *ℤ y -ℤ x -ℤ (pos D *ℤ z -ℤ x)) = ap nat_abs (ring (pos D ∷ y ∷ z ∷ x ∷ []) (λ d y z x. d ⊗ (y ⊝ z) ≐ d ⊗ y ⊝ x ⊝ (d ⊗ z ⊝ x)) tt) in
    omega (arith, e, abs-* (pos D) (y -ℤ z), abs-+ (pos D *ℤ y -ℤ x) (neg_ℤ (pos D *ℤ z -ℤ x)), abs_neg (pos D *ℤ z -ℤ x))

pub between-unique : (a b z : ℤ) (p D : ℕ) → 2 * nat_abs (pos D *ℤ z -ℤ (pos (D - p) *ℤ a +ℤ pos p *ℤ b)) < D → between a b p D ≡ z
between-unique a b z p D h =
    let y = between a b p D in
    let x = pos (D - p) *ℤ a +ℤ pos p *ℤ b in
    sub-eq y z (no_size (y -ℤ z) (no_gap D (nat_abs (y -ℤ z)) (nat_abs (pos D *ℤ y -ℤ x)) (nat_abs (pos D *ℤ z -ℤ x)) (gaps D y z x) (between-near a b p D (omega arith)) h))

-- ---- exact at p = 0 and at p = D
nearest-whole : (m d : ℕ) → 0 < d → nearest (m * d) d ≡ m
nearest-whole m d h = div-eq_of_lt-le (2 * d) (omega arith) (omega arith)

pub rounded-whole : (z : ℤ) (d : ℕ) → 0 < d → rounded (z *ℤ pos d) d ≡ z
unfolding rounded
rounded-whole (pos m) d h = ap pos (nearest-whole m d h)
rounded-whole (negsuc m) d h =
    let e : suc m * d ≡ suc (m * d + (d - 1)) = omega arith in
    rw e (ap (λ (n : ℕ). neg_ℤ (pos n)) (ap (λ (n : ℕ). nearest n d) (sym e) ∙ nearest-whole (suc m) d h))

pub between_start : (a b : ℤ) (D : ℕ) → 0 < D → between a b 0 D ≡ a
unfolding between
between_start a b D h = let e : D - 0 ≡ D = omega arith in rw (e, *ℤ-zero b, +ℤ_idr (a *ℤ pos D)) (rounded-whole a D h)

pub between-end : (a b : ℤ) (D : ℕ) → 0 < D → between a b D D ≡ b
unfolding between
between-end a b D h = let e : D - D ≡ 0 = omega arith in rw (e, *ℤ-zero a, +ℤ_idl (b *ℤ pos D)) (rounded-whole b D h)

-- ---- never outside a..b: rounding keeps the order
nearest-mono : (m n d : ℕ) → 0 < d → m ≤ n → nearest m d ≤ nearest n d
nearest-mono m n d h l =
    le-of-lt-suc ((div-lt_iff_lt-mul {k = 2 * d} {x = 2 * m + d} {y = suc (nearest n d)} (omega arith)).1
    (over (lt-mul-div-succ (2 * n + d) twice)))
  where
    twice : 0 < 2 * d
    twice = omega arith

    over : 2 * n + d < 2 * d * (nearest n d + 1) → 2 * m + d < suc (nearest n d) * (2 * d)
    over p = omega arith

    le-of-lt-suc : {a b : ℕ} → a < suc b → a ≤ b
    le-of-lt-suc q = omega arith

negative : (m n : ℕ) → m ≤ n → T (le_z (neg_ℤ (pos n)) (neg_ℤ (pos m)))
negative zero zero h = le→leb 0 0 h
negative zero (suc n) h = tt
negative (suc m) zero h = absurd (omega arith)
negative (suc m) (suc n) h = le→leb m n (omega arith)

signs : (m n : ℕ) → T (le_z (neg_ℤ (pos m)) (pos n))
signs zero n = le→leb 0 n (omega arith)
signs (suc m) n = tt

rounded-le : (y z : ℤ) (d : ℕ) → 0 < d → T (le_z y z) → T (le_z (rounded y d) (rounded z d))
unfolding rounded
rounded-le (pos m) (pos n) d h t = le→leb (nearest m d) (nearest n d) (nearest-mono m n d h (leb→le m n t))
rounded-le (pos m) (negsuc n) d h t = absurd t
rounded-le (negsuc m) (pos n) d h t = signs (nearest (suc m) d) (nearest n d)
rounded-le (negsuc m) (negsuc n) d h t = negative (nearest (suc n) d) (nearest (suc m) d) (nearest-mono (suc n) (suc m) d h (more (leb→le n m t)))
  where
    more : n ≤ m → suc n ≤ suc m
    more l = omega arith

pub rounded-mono : {y z : ℤ} (d : ℕ) → 0 < d → y ≤ℤ z → rounded y d ≤ℤ rounded z d
rounded-mono {y} {z} d h l = le_z_yes (rounded-le y z d h l.le)

-- the weighted sum, from above a common bound and from below one
module _ (a b : ℤ) (p D : ℕ) (h : p ≤ D) (some : 0 < D) where
  parts : D ≡ D - p + p
  parts = omega arith

  pub between-above : {low : ℤ} → low ≤ℤ a → low ≤ℤ b → low ≤ℤ between a b p D
  unfolding between
  between-above {low} u v =
      subst (λ z. z ≤ℤ rounded (a *ℤ pos (D - p) +ℤ b *ℤ pos p) D) (rounded-whole low D some)
      (rounded-mono D some (up_le (record { by = (up u).by * (D - p) + (up v).by * p; same = e })))
    where
      e : a *ℤ pos (D - p) +ℤ b *ℤ pos p ≡ low *ℤ pos D +ℤ pos ((up u).by * (D - p) + (up v).by * p)
      e =
          ap₂ (λ x y. x *ℤ pos (D - p) +ℤ y *ℤ pos p) (up u).same (up v).same
          ∙ ring (low ∷ pos (up u).by ∷ pos (up v).by ∷ pos (D - p) ∷ pos p ∷ [])
          (λ l i j q p. (l ⊕ i) ⊗ q ⊕ (l ⊕ j) ⊗ p ≐ l ⊗ (q ⊕ p) ⊕ (i ⊗ q ⊕ j ⊗ p)) tt
          ∙ ap (λ (n : ℕ). low *ℤ pos n +ℤ pos ((up u).by * (D - p) + (up v).by * p)) (sym parts)

  pub between-below : {high : ℤ} → a ≤ℤ high → b ≤ℤ high → between a b p D ≤ℤ high
  unfolding between
  between-below {high} u v =
      subst (λ z. rounded (a *ℤ pos (D - p) +ℤ b *ℤ pos p) D ≤ℤ z) (rounded-whole high D some)
      (rounded-mono D some (up_le (record { by = (up u).by * (D - p) + (up v).by * p; same = e })))
    where
      e : high *ℤ pos D ≡ a *ℤ pos (D - p) +ℤ b *ℤ pos p +ℤ pos ((up u).by * (D - p) + (up v).by * p)
      e =
          ap (λ (n : ℕ). high *ℤ pos n) parts
          ∙ ring (high ∷ pos (D - p) ∷ pos p ∷ []) (λ h q p. h ⊗ (q ⊕ p) ≐ h ⊗ q ⊕ h ⊗ p) tt
          ∙ ap₂ (λ x y. x *ℤ pos (D - p) +ℤ y *ℤ pos p) (up u).same (up v).same
          ∙ ring (a ∷ b ∷ pos (up u).by ∷ pos (up v).by ∷ pos (D - p) ∷ pos p ∷ [])
          (λ a b i j q p. (a ⊕ i) ⊗ q ⊕ (b ⊕ j) ⊗ p ≐ a ⊗ q ⊕ b ⊗ p ⊕ (i ⊗ q ⊕ j ⊗ p)) tt

-- ---- the size
pub nearest-le : (m d b : ℕ) → 0 < d → m ≤ b * d → nearest m d ≤ b
nearest-le m d b h l = omega (arith, (div-lt_iff_lt-mul {k = 2 * d} {x = 2 * m + d} {y = suc b} (omega arith)).1 (omega arith))

rounded-size : (z : ℤ) (d : ℕ) → nat_abs (rounded z d) ≡ nearest (nat_abs z) d
unfolding rounded
rounded-size (pos m) d = refl
rounded-size (negsuc m) d = abs_neg (pos (nearest (suc m) d))

pub between-small : (a b : ℤ) (p D : ℕ) → p ≤ D → 0 < D → InRange a → InRange b → InRange (between a b p D)
unfolding between
between-small a b p D h some u v =
    let z = a *ℤ pos (D - p) +ℤ b *ℤ pos p in
    let e : nat_abs a * (D - p) + nat_abs b * p ≤ 2000000000 * D = weighted (nat_abs a) (nat_abs b) (D - p) u v (omega arith) in
    rw (rounded-size z D) (nearest-le (nat_abs z) D 2000000000 some (omega (arith, e, abs-+ (a *ℤ pos (D - p)) (b *ℤ pos p), abs-* a (pos (D - p)), abs-* b (pos p))))
  where
    weighted : (m n q : ℕ) → m ≤ 2000000000 → n ≤ 2000000000 → q + p ≡ D → m * q + n * p ≤ 2000000000 * D
    weighted m n q u v e = omega (arith, mul-le-mul_right q u, mul-le-mul_right p v)

-- rounding by the sign and the size, as the machine does it
pub rounded-signed : (z : ℤ) (d : ℕ) → with_sign (lt_z z (pos 0)) (nearest (nat_abs z) d) ≡ rounded z d
unfolding rounded
rounded-signed (pos m) d = rw (le-ltb m 0 (omega arith))
rounded-signed (negsuc m) d = refl
