-- The order of whole numbers: as a difference that is a natural number, and by the tests that decide it.
use mathlib.Core.Path.{◌≡◌, refl, sym, ◌∙◌, ap, ap₂, subst}
use mathlib.Core.Bool.{Bool, true, false, not}
use mathlib.Core.List.{[], ◌∷◌}
use mathlib.Core.Logic.{◌⊎◌, inl, inr, ⊎_elim}
use Prim.Native.Nat.{ℕ, zero, suc, ◌+◌, ◌-◌, ◌≤◌, ◌<◌}
use native.Mathlib.Nat.{not-le_of_lt, le_of_lt}
use native.Mathlib.Omega.{arith}
use lib.Dec.{T, ltb, leb→le, le→leb, ltb→lt}
use lib.IntN.{ℤ, pos, negsuc, nat_abs, sub_ℕ, ◌+ℤ◌, ◌-ℤ◌, +ℤ_idr}
use lib.Signed.{◌≤ℤ◌, ◌<ℤ◌, le_z, lt_z, le_z_yes, lt_z_yes, lt_z_no, <ℤ_irrefl, <ℤ-≤ℤ_trans, clash_ℤ}
use Rattle.rounding.proofs.IntLaws.{cond_ind}
use Rattle.rounding.proofs.Ring.{ring, ◌⊕◌, ◌⊝◌, ◌≐◌}

-- b is a + n
pub record Up (a b : ℤ) : Type 0 where
  pub by : ℕ
  pub same : b ≡ a +ℤ pos by

sub-pos : (a b : ℕ) → b ≤ a → sub_ℕ a b ≡ pos (a - b)
sub-pos a b h = cond_ind (ltb a b) (negsuc (b - suc a)) (pos (a - b)) (λ z. z ≡ pos (a - b)) (λ t. absurd (not-le_of_lt (ltb→lt a b t) h)) (λ t. refl)

diff : (a b : ℤ) (n : ℕ) → b -ℤ a ≡ pos n → Up a b
diff a b n h = record { by = n; same = ring (a ∷ b ∷ []) (λ a b. b ≐ a ⊕ (b ⊝ a)) tt ∙ ap (λ x. a +ℤ x) h }

le_up : (a b : ℤ) → T (le_z a b) → Up a b
le_up (pos a) (pos b) t = record { by = b - a; same = ap pos (go (leb→le a b t)) }
  where
    go : a ≤ b → b ≡ a + (b - a)
    go h = omega arith
le_up (pos a) (negsuc b) t = absurd t
le_up (negsuc a) (pos b) t = diff (negsuc a) (pos b) (b + suc a) refl
le_up (negsuc a) (negsuc b) t = diff (negsuc a) (negsuc b) (suc a - suc b) (sub-pos (suc a) (suc b) (go (leb→le b a t)))
  where
    go : b ≤ a → suc b ≤ suc a
    go h = omega arith

pub up : {a b : ℤ} → a ≤ℤ b → Up a b
up {a} {b} h = le_up a b h.le

lt-le : (a b : ℤ) → T (lt_z a b) → T (le_z a b)
lt-le (pos a) (pos b) t = le→leb a b (le_of_lt (ltb→lt a b t))
lt-le (pos a) (negsuc b) t = t
lt-le (negsuc a) (pos b) t = tt
lt-le (negsuc a) (negsuc b) t = le→leb b a (le_of_lt (ltb→lt b a t))

pub up-refl : (a : ℤ) → Up a a
up-refl a = record { by = 0; same = sym (+ℤ_idr a) }

pub up-trans : {a b c : ℤ} → Up a b → Up b c → Up a c
up-trans {a} {b} {c} h k = record { by = h.by + k.by; same = k.same ∙ ap (λ x. x +ℤ pos k.by) h.same ∙ ring (a ∷ pos h.by ∷ pos k.by ∷ []) (λ a x y. a ⊕ x ⊕ y ≐ a ⊕ (x ⊕ y)) tt }

pub lt_up : {a b : ℤ} → a <ℤ b → (u : Up a b) → 0 < u.by
lt_up {a} {b} h u = go u.by u.same
  where
    go : (n : ℕ) → b ≡ a +ℤ pos n → 0 < n
    go zero e = absurd (<ℤ_irrefl (subst (λ z. a <ℤ z) (e ∙ +ℤ_idr a) h))
    go (suc n) e = omega arith

pub lt→up : {a b : ℤ} → a <ℤ b → Up a b
lt→up {a} {b} h = le_up a b (lt-le a b h.lt)

-- a difference that is not negative, as a natural number
pub up-abs : {a b : ℤ} → Up a b → b -ℤ a ≡ pos (nat_abs (b -ℤ a))
up-abs {a} {b} u = e ∙ sym (ap (λ z. pos (nat_abs z)) e)
  where
    e : b -ℤ a ≡ pos u.by
    e = ap (λ z. z -ℤ a) u.same ∙ ring (a ∷ pos u.by ∷ []) (λ a n. a ⊕ n ⊝ a ≐ n) tt

-- the way to a number between two is no longer than that to the second
pub up-part : {a t b : ℤ} → Up a t → Up t b → nat_abs (t -ℤ a) ≤ nat_abs (b -ℤ a)
up-part {a} {t} {b} u v = omega (arith, ap nat_abs e)
  where
    e : pos (nat_abs (b -ℤ a)) ≡ pos (nat_abs (b -ℤ t) + nat_abs (t -ℤ a))
    e = sym (up-abs (up-trans u v)) ∙ ring (a ∷ t ∷ b ∷ []) (λ a t b. b ⊝ a ≐ b ⊝ t ⊕ (t ⊝ a)) tt ∙ ap₂ ◌+ℤ◌ (up-abs v) (up-abs u)

-- and one that is above 0
pub up-wide : {a b c d : ℤ} → Up a b → b <ℤ c → Up c d → 0 < nat_abs (d -ℤ a)
up-wide {a} {b} {c} {d} u h v = rw e (go (lt_up h (lt→up h)))
  where
    m : Up b c
    m = lt→up h

    e : d -ℤ a ≡ pos u.by +ℤ pos m.by +ℤ pos v.by
    e = ap (λ z. z -ℤ a) (v.same ∙ ap (λ z. z +ℤ pos v.by) (m.same ∙ ap (λ z. z +ℤ pos m.by) u.same))
        ∙ ring (a ∷ pos u.by ∷ pos m.by ∷ pos v.by ∷ []) (λ a x y z. a ⊕ x ⊕ y ⊕ z ⊝ a ≐ x ⊕ y ⊕ z) tt

    go : 0 < m.by → 0 < u.by + m.by + v.by
    go h = omega arith

above : (a : ℤ) (n : ℕ) → T (le_z a (a +ℤ pos n))
above (pos a) n = le→leb a (a + n) (omega arith)
above (negsuc a) n =
    cond_ind (ltb n (suc a)) (negsuc (suc a - suc n)) (pos (n - suc a)) (λ z. T (le_z (negsuc a) z)) (λ t. le→leb (suc a - suc n) a (omega arith)) (λ t. tt)

pub up_le : {a b : ℤ} → Up a b → a ≤ℤ b
up_le {a} u = le_z_yes (subst (λ z. T (le_z a z)) (sym u.same) (above a u.by))

-- ---- the order, and the tests that decide it
pub lt-or-le : (a b : ℤ) → (a <ℤ b) ⊎ (b ≤ℤ a)
lt-or-le a b = go (lt_z a b) (λ t. lt_z_yes t) (λ t. lt_z_no t)
  where
    go : (q : Bool) → (T q → a <ℤ b) → (T (not q) → b ≤ℤ a) → (a <ℤ b) ⊎ (b ≤ℤ a)
    go true f g = inl (f tt)
    go false f g = inr (g tt)

pub ≤ℤ-trans : {a b c : ℤ} → a ≤ℤ b → b ≤ℤ c → a ≤ℤ c
≤ℤ-trans {a} {b} {c} h k = ⊎_elim (λ l. clash_ℤ (<ℤ-≤ℤ_trans l h) k) (λ l. l) (lt-or-le c a)

pub ≤ℤ-<ℤ-trans : {a b c : ℤ} → a ≤ℤ b → b <ℤ c → a <ℤ c
≤ℤ-<ℤ-trans {a} {b} {c} h k = ⊎_elim (λ l. l) (λ l. clash_ℤ k (≤ℤ-trans l h)) (lt-or-le a c)

pub <ℤ→≤ℤ : {a b : ℤ} → a <ℤ b → a ≤ℤ b
<ℤ→≤ℤ {a} {b} h = le_z_yes (lt-le a b h.lt)

pub not-less : {a b : ℤ} → lt_z a b ≡ false → b ≤ℤ a
not-less e = lt_z_no (subst (λ (q : Bool). T (not q)) (sym e) tt)

pub not-upto : (a b : ℤ) → le_z a b ≡ false → b <ℤ a
not-upto a b e = ⊎_elim (λ l. l) (λ l. absurd (subst T e l.le)) (lt-or-le b a)

pub yes_le : (a b : ℤ) → le_z a b ≡ true → a ≤ℤ b
yes_le a b e = le_z_yes (subst T (sym e) tt)

pub yes_lt : (a b : ℤ) → lt_z a b ≡ true → a <ℤ b
yes_lt a b e = lt_z_yes (subst T (sym e) tt)

holds : (q : Bool) → T q → q ≡ true
holds true t = refl
holds false t = absurd t

pub le_yes : (a b : ℤ) → a ≤ℤ b → le_z a b ≡ true
le_yes a b h = holds (le_z a b) h.le

pub lt_yes : (a b : ℤ) → a <ℤ b → lt_z a b ≡ true
lt_yes a b h = holds (lt_z a b) h.lt
