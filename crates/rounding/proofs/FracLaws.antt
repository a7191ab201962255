-- Fractions as parts of a chosen whole: `Is f z Q` says that f is z / Q, multiplied out, and what adds, multiplies and compares goes through it.
use mathlib.Core.Path.{◌≡◌, refl, sym, ◌∙◌, ap, ap₂, subst₂}
use mathlib.Core.List.{[], ◌∷◌}
use Prim.Native.Nat.{ℕ, zero, suc, ◌+◌, ◌*◌, ◌^◌, ◌≤◌, ◌<◌}
use native.Mathlib.Nat.{mul-pos, zero-lt-suc, le_refl, le_step, not-suc-le-zero, mul-le-mul_left, le_of_mul-le-mul_left, pow-zero, pow-suc}
use native.Mathlib.Omega.{arith}
use lib.IntN.{ℤ, pos, negsuc, nat_abs, ◌+ℤ◌, ◌-ℤ◌, ◌*ℤ◌}
use lib.Dec.{le→leb}
use lib.Signed.{◌≤ℤ◌, le_z_yes}
use Rattle.rounding.specs.Fractions.{Frac, whole, ◌+ᶠ◌, ◌-ᶠ◌, ◌*ᶠ◌, power, over, sum_to, ◌≈◌, Close}
use Rattle.rounding.proofs.IntLaws.{abs-*, sub-eq}
use Rattle.rounding.proofs.Ring.{ring, K, ◌⊕◌, ◌⊝◌, ◌⊗◌, ⊖, ◌≐◌}

-- f is z / Q
pub record Is (f : Frac) (z : ℤ) (Q : ℕ) : Type 0 where
  pub above : 0 < f.bot
  pub same : f.top *ℤ pos Q ≡ z *ℤ pos f.bot

pub is-conv : {f : Frac} {y z : ℤ} {P Q : ℕ} → y ≡ z → P ≡ Q → Is f y P → Is f z Q
is-conv {f = f} p q h = subst₂ (λ a (b : ℕ). Is f a b) p q h

pub is_whole : (z : ℤ) (Q : ℕ) → Is (whole z) (z *ℤ pos Q) Q
unfolding whole
is_whole z Q = record { above = zero-lt-suc 0; same = ring (z ∷ pos Q ∷ []) (λ z q. z ⊗ q ≐ z ⊗ q ⊗ K (pos 1)) tt }

pub is-plus : {f g : Frac} {y z : ℤ} {Q : ℕ} → Is f y Q → Is g z Q → Is (f +ᶠ g) (y +ℤ z) Q
unfolding ◌+ᶠ◌
is-plus {f = f} {g = g} {y = y} {z = z} {Q = Q} h k = record {
  above = mul-pos h.above k.above;
  same =
      ring (f.top ∷ pos f.bot ∷ g.top ∷ pos g.bot ∷ pos Q ∷ []) (λ a b c d q. (a ⊗ d ⊕ c ⊗ b) ⊗ q ≐ a ⊗ q ⊗ d ⊕ c ⊗ q ⊗ b) tt
      ∙ ap₂ (λ u v. u *ℤ pos g.bot +ℤ v *ℤ pos f.bot) h.same k.same
      ∙ ring (y ∷ z ∷ pos f.bot ∷ pos g.bot ∷ []) (λ y z b d. y ⊗ b ⊗ d ⊕ z ⊗ d ⊗ b ≐ (y ⊕ z) ⊗ (b ⊗ d)) tt;
}

pub is-times : {f g : Frac} {y z : ℤ} {P Q : ℕ} → Is f y P → Is g z Q → Is (f *ᶠ g) (y *ℤ z) (P * Q)
unfolding ◌*ᶠ◌
is-times {f = f} {g = g} {y = y} {z = z} {P = P} {Q = Q} h k = record {
  above = mul-pos h.above k.above;
  same =
      ring (f.top ∷ g.top ∷ pos P ∷ pos Q ∷ []) (λ a c p q. a ⊗ c ⊗ (p ⊗ q) ≐ a ⊗ p ⊗ (c ⊗ q)) tt
      ∙ ap₂ ◌*ℤ◌ h.same k.same
      ∙ ring (y ∷ z ∷ pos f.bot ∷ pos g.bot ∷ []) (λ y z b d. y ⊗ b ⊗ (z ⊗ d) ≐ y ⊗ z ⊗ (b ⊗ d)) tt;
}

pub over-above : (a d : ℤ) → 0 < (over a d).bot
unfolding over
over-above a (pos zero) = zero-lt-suc 0
over-above a (pos (suc d)) = zero-lt-suc d
over-above a (negsuc d) = zero-lt-suc d

pub is-over : (a : ℤ) (d m : ℕ) → 0 < d → Is (over a (pos d)) (a *ℤ pos m) (d * m)
unfolding over
is-over a zero m h = absurd (not-suc-le-zero h)
is-over a (suc d) m h = record { above = zero-lt-suc d; same = ring (a ∷ pos (suc d) ∷ pos m ∷ []) (λ a d m. a ⊗ (d ⊗ m) ≐ a ⊗ m ⊗ d) tt }

-- ---- 0
zero-top : {f : Frac} → Is f (pos 0) 1 → f.top ≡ pos 0
zero-top {f = f} h =
    ring (f.top ∷ []) (λ a. a ≐ a ⊗ K (pos 1)) tt ∙ h.same ∙ ring (pos f.bot ∷ []) (λ b. K (pos 0) ⊗ b ≐ K (pos 0)) tt

pub is_zero : {f : Frac} (Q : ℕ) → Is f (pos 0) 1 → Is f (pos 0) Q
is_zero {f = f} Q h = record { above = h.above; same = rw (zero-top h) (ring (pos Q ∷ pos f.bot ∷ []) (λ q b. K (pos 0) ⊗ q ≐ K (pos 0) ⊗ b) tt) }

pub is-zero-times : {f : Frac} (g : Frac) → Is f (pos 0) 1 → 0 < g.bot → Is (f *ᶠ g) (pos 0) 1
unfolding ◌*ᶠ◌
is-zero-times {f = f} g h k = record {
  above = mul-pos h.above k;
  same = rw (zero-top h) (ring (g.top ∷ pos f.bot ∷ pos g.bot ∷ []) (λ c b d. K (pos 0) ⊗ c ⊗ K (pos 1) ≐ K (pos 0) ⊗ (b ⊗ d)) tt);
}

pub is-plus-zero : {f g : Frac} {y : ℤ} {Q : ℕ} → Is f y Q → Is g (pos 0) Q → Is (f +ᶠ g) y Q
is-plus-zero {y = y} {Q = Q} h k = is-conv (ring (y ∷ []) (λ y. y ⊕ K (pos 0) ≐ y) tt) refl (is-plus h k)

pub is-zero-plus : {f g : Frac} {y : ℤ} {Q : ℕ} → Is f (pos 0) Q → Is g y Q → Is (f +ᶠ g) y Q
is-zero-plus {y = y} {Q = Q} h k = is-conv (ring (y ∷ []) (λ y. K (pos 0) ⊕ y ≐ y) tt) refl (is-plus h k)

-- ---- differences and powers
pub is-minus : {f g : Frac} {y z : ℤ} {Q : ℕ} → Is f y Q → Is g z Q → Is (f -ᶠ g) (y -ℤ z) Q
unfolding ◌-ᶠ◌
is-minus {f = f} {g = g} {y = y} {z = z} {Q = Q} h k = record {
  above = mul-pos h.above k.above;
  same =
      ring (f.top ∷ pos f.bot ∷ g.top ∷ pos g.bot ∷ pos Q ∷ []) (λ a b c d q. (a ⊗ d ⊝ c ⊗ b) ⊗ q ≐ a ⊗ q ⊗ d ⊝ c ⊗ q ⊗ b) tt
      ∙ ap₂ (λ u v. u *ℤ pos g.bot -ℤ v *ℤ pos f.bot) h.same k.same
      ∙ ring (y ∷ z ∷ pos f.bot ∷ pos g.bot ∷ []) (λ y z b d. y ⊗ b ⊗ d ⊝ z ⊗ d ⊗ b ≐ (y ⊝ z) ⊗ (b ⊗ d)) tt;
}

pub is-power : {f : Frac} {p D : ℕ} → Is f (pos p) D → (n : ℕ) → Is (power f n) (pos (p ^ n)) (D ^ n)
unfolding power
is-power {p = p} {D = D} h zero = is-conv (ap pos (sym (pow-zero p))) (sym (pow-zero D)) (is_whole (pos 1) 1)
is-power {p = p} {D = D} h (suc n) = is-conv (ap pos (sym (pow-suc p n))) (sym (pow-suc D n)) (is-times (is-power h n) h)

-- ---- sums
unfoldable pub sum : ℕ → (ℕ → ℤ) → ℤ
sum zero f = pos 0
sum (suc n) f = sum n f +ℤ f n

pub is_sum : (m Q : ℕ) (f : ℕ → Frac) (z : ℕ → ℤ) → ((i : ℕ) → i < m → Is (f i) (z i) Q) → Is (sum_to m f) (sum m z) Q
unfolding sum_to sum
is_sum zero Q f z h = is_zero Q (is_whole (pos 0) 1)
is_sum (suc m) Q f z h = is-plus (is_sum m Q f z (λ i l. h i (le_step l))) (h m (le_refl (suc m)))

-- ---- equality and closeness, multiplied out
pub no_size : (z : ℤ) → nat_abs z ≡ 0 → z ≡ pos 0
no_size (pos n) e = ap pos e
no_size (negsuc n) e = absurd (omega arith)

pub cancel : (Q : ℕ) (a b : ℤ) → 0 < Q → pos Q *ℤ a ≡ pos Q *ℤ b → a ≡ b
cancel Q a b h e = sub-eq a b (no_size (a -ℤ b) (go (nat_abs (a -ℤ b)) (sym (abs-* (pos Q) (a -ℤ b)) ∙ ap nat_abs none)))
  where
    none : pos Q *ℤ (a -ℤ b) ≡ pos 0
    none =
        ring (pos Q ∷ a ∷ b ∷ []) (λ q a b. q ⊗ (a ⊝ b) ≐ q ⊗ a ⊝ q ⊗ b) tt
        ∙ ap (λ z. z -ℤ pos Q *ℤ b) e
        ∙ ring (pos Q ∷ b ∷ []) (λ q b. q ⊗ b ⊝ q ⊗ b ≐ K (pos 0)) tt

    go : (n : ℕ) → Q * n ≡ 0 → n ≡ 0
    go zero e = refl
    go (suc n) e = absurd (omega (arith, mul-pos h (zero-lt-suc n)))

pub is_same : {f g : Frac} {z : ℤ} {Q : ℕ} → 0 < Q → Is f z Q → Is g z Q → f ≈ g
unfolding ◌≈◌
is_same {f} {g} {z} {Q} h i j =
    cancel Q (f.top *ℤ pos g.bot) (g.top *ℤ pos f.bot) h
    (ring (f.top ∷ pos g.bot ∷ pos Q ∷ []) (λ a d q. q ⊗ (a ⊗ d) ≐ a ⊗ q ⊗ d) tt
    ∙ ap (λ x. x *ℤ pos g.bot) i.same
    ∙ ring (z ∷ pos f.bot ∷ pos g.bot ∷ []) (λ z b d. z ⊗ b ⊗ d ≐ z ⊗ d ⊗ b) tt
    ∙ ap (λ x. x *ℤ pos f.bot) (sym j.same)
    ∙ ring (g.top ∷ pos f.bot ∷ pos Q ∷ []) (λ c b q. c ⊗ q ⊗ b ≐ q ⊗ (c ⊗ b)) tt)

-- a fraction that is p / Q is not below 0
pub is-from-zero : {f : Frac} {p Q : ℕ} → 0 < Q → Is f (pos p) Q → pos 0 ≤ℤ f.top
is-from-zero {f} {p} {Q} h i = go f.top i.same
  where
    none : (m n : ℕ) → suc m * Q + n ≡ 0 → ⊥
    none m n e = omega (arith, mul-pos (zero-lt-suc m) h)

    go : (z : ℤ) → z *ℤ pos Q ≡ pos p *ℤ pos f.bot → pos 0 ≤ℤ z
    go (pos n) e = le_z_yes (le→leb 0 n (omega arith))
    go (negsuc m) e =
        absurd (none m (p * f.bot) (ap nat_abs (ap (λ z. pos (suc m) *ℤ pos Q +ℤ z) (sym e) ∙ ring (pos (suc m) ∷ pos Q ∷ []) (λ a q. a ⊗ q ⊕ ⊖ a ⊗ q ≐ K (pos 0)) tt)))

module _ (f : Frac) (W S : ℤ) (Q k : ℕ) (i : Is f W Q) where
  cross : pos Q *ℤ (S *ℤ pos f.bot -ℤ f.top) ≡ pos f.bot *ℤ (pos Q *ℤ S -ℤ W)
  cross =
      ring (pos Q ∷ pos f.bot ∷ S ∷ f.top ∷ []) (λ q b s a. q ⊗ (s ⊗ b ⊝ a) ≐ b ⊗ (q ⊗ s) ⊝ a ⊗ q) tt
      ∙ ap (λ z. pos f.bot *ℤ (pos Q *ℤ S) -ℤ z) i.same
      ∙ ring (pos Q ∷ pos f.bot ∷ S ∷ W ∷ []) (λ q b s v. b ⊗ (q ⊗ s) ⊝ v ⊗ b ≐ b ⊗ (q ⊗ s ⊝ v)) tt

  across : Q * nat_abs (S *ℤ pos f.bot -ℤ f.top) ≡ f.bot * nat_abs (pos Q *ℤ S -ℤ W)
  across = sym (abs-* (pos Q) (S *ℤ pos f.bot -ℤ f.top)) ∙ ap nat_abs cross ∙ abs-* (pos f.bot) (pos Q *ℤ S -ℤ W)

  swapped : (a b X Y : ℕ) → a * X ≡ b * Y → b * (2 * Y) ≤ b * (k * a) → a * (2 * X) ≤ a * (k * b)
  swapped a b X Y p q = omega arith

  pub close-to : 0 < Q → 2 * nat_abs (pos Q *ℤ S -ℤ W) ≤ k * Q → Close S f k
  close-to h l = record {
    above = i.above;
    near = le_of_mul-le-mul_left (swapped Q f.bot (nat_abs (S *ℤ pos f.bot -ℤ f.top)) (nat_abs (pos Q *ℤ S -ℤ W)) across (mul-le-mul_left f.bot l)) h;
  }
