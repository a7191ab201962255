-- One level of a triangular scheme of weights, and what rounding does to it: one half more. Serves Bernstein's weights and those of Cox and de Boor.
use mathlib.Core.Path.{◌≡◌, ◌∙◌, ap, ap₂, subst}
use mathlib.Core.List.{[], ◌∷◌}
use Prim.Native.Nat.{ℕ, zero, suc, ◌+◌, ◌*◌, ◌≤◌, ◌<◌}
use native.Mathlib.Nat.{le_refl, le_trans, le_of_eq, mul-le-mul_left, le_step}
use native.Mathlib.Omega.{arith}
use lib.IntN.{ℤ, pos, nat_abs, ◌+ℤ◌, ◌-ℤ◌, ◌*ℤ◌}
use Rattle.rounding.proofs.IntLaws.{abs-+, abs-*}
use Rattle.rounding.proofs.FracLaws.{sum}
use Rattle.rounding.proofs.Ring.{ring, K, ◌⊕◌, ◌⊝◌, ◌⊗◌, ◌≐◌}

unfoldable pub total : ℕ → (ℕ → ℕ) → ℕ
total zero f = 0
total (suc n) f = total n f + f n

-- what stands at i of the next row, times the level's divisor
abbrev pub mix : (α β : ℕ → ℕ) (c : ℕ → ℤ) → ℕ → ℤ
mix α β c i = pos (α i) *ℤ c i +ℤ pos (β i) *ℤ c (suc i)

abbrev pub weigh : ℕ → (ℕ → ℕ) → (ℕ → ℤ) → ℤ
weigh m w c = sum m (λ i. pos (w i) *ℤ c i)

-- u is the level of weights over w
pub record Over (α β w u : ℕ → ℕ) : Type 0 where
  pub first : u 0 ≡ α 0 * w 0
  pub next : (i : ℕ) → u (suc i) ≡ β i * w i + α (suc i) * w (suc i)

module _ (α β w u : ℕ → ℕ) (o : Over α β w u) where
  swap : (c : ℕ → ℤ) (m : ℕ) → weigh (suc m) u c ≡ weigh m w (mix α β c) +ℤ pos (α m * w m) *ℤ c m
  unfolding sum
  swap c zero = ap (λ (x : ℕ). pos 0 +ℤ pos x *ℤ c 0) o.first
  swap c (suc m) =
      ap₂ (λ t (x : ℕ). t +ℤ pos x *ℤ c (suc m)) (swap c m) (o.next m)
      ∙ ring (weigh m w (mix α β c) ∷ pos (α m) ∷ pos (β m) ∷ pos (α (suc m)) ∷ pos (w m) ∷ pos (w (suc m)) ∷ c m ∷ c (suc m) ∷ [])
      (λ t a b a' v v' c c'. t ⊕ a ⊗ v ⊗ c ⊕ (b ⊗ v ⊕ a' ⊗ v') ⊗ c' ≐ t ⊕ v ⊗ (a ⊗ c ⊕ b ⊗ c') ⊕ a' ⊗ v' ⊗ c') tt

  swapℕ : (L : ℕ) (m : ℕ) → ((i : ℕ) → i < m → α i + β i ≡ L) → total (suc m) u ≡ L * total m w + α m * w m
  unfolding total
  swapℕ L zero h = rw o.first (omega arith)
  swapℕ L (suc m) h = go (swapℕ L m (λ i l. h i (le_step l))) (o.next m) (h m (le_refl (suc m)))
    where
      go : total (suc m) u ≡ L * total m w + α m * w m → u (suc m) ≡ β m * w m + α (suc m) * w (suc m) → α m + β m ≡ L
          → total (suc m) u + u (suc m) ≡ L * (total m w + w m) + α (suc m) * w (suc m)
      go p q e = rw (p, q, ← e) (omega arith)

-- a sum of errors, each at most L / 2, is at most L / 2 times the weights' total
pub bound : (w : ℕ → ℕ) (e : ℕ → ℤ) (L m : ℕ) → ((i : ℕ) → i < m → 2 * nat_abs (e i) ≤ L) → 2 * nat_abs (weigh m w e) ≤ L * total m w
unfolding sum total
bound w e L zero h = omega arith
bound w e L (suc m) h = go (nat_abs (weigh m w e)) (nat_abs (e m)) (bound w e L m (λ i l. h i (le_step l)))
    (mul-le-mul_left (w m) (h m (le_refl (suc m)))) (le_trans (abs-+ (weigh m w e) (pos (w m) *ℤ e m)) (le_of_eq (ap (λ (x : ℕ). nat_abs (weigh m w e) + x) (abs-* (pos (w m)) (e m)))))
  where
    go : (s x : ℕ) {r : ℕ} → 2 * s ≤ L * total m w → w m * (2 * x) ≤ w m * L → r ≤ s + w m * x → 2 * r ≤ L * (total m w + w m)
    go s x p q h = omega arith

pub pull : (w : ℕ → ℕ) (d f : ℕ → ℤ) (l : ℤ) (m : ℕ) → l *ℤ weigh m w d -ℤ weigh m w f ≡ weigh m w (λ i. l *ℤ d i -ℤ f i)
unfolding sum
pull w d f l zero = ring (l ∷ []) (λ l. l ⊗ K (pos 0) ⊝ K (pos 0) ≐ K (pos 0)) tt
pull w d f l (suc m) =
    ring (l ∷ weigh m w d ∷ weigh m w f ∷ pos (w m) ∷ d m ∷ f m ∷ [])
    (λ l s t v d f. l ⊗ (s ⊕ v ⊗ d) ⊝ (t ⊕ v ⊗ f) ≐ l ⊗ s ⊝ t ⊕ v ⊗ (l ⊗ d ⊝ f)) tt
    ∙ ap (λ x. x +ℤ pos (w m) *ℤ (l *ℤ d m -ℤ f m)) (pull w d f l m)

-- S is within k / 2 of the sum of c weighed by w, whose total is Q
pub record Near (m : ℕ) (w : ℕ → ℕ) (c : ℕ → ℤ) (Q k : ℕ) (S : ℤ) : Type 0 where
  pub whole : total m w ≡ Q
  pub close : 2 * nat_abs (pos Q *ℤ S -ℤ weigh m w c) ≤ k * Q

pub near-zero : (w : ℕ → ℕ) (c : ℕ → ℤ) → w 0 ≡ 1 → Near 1 w c 1 0 (c 0)
unfolding total sum
near-zero w c h = record { whole = omega arith; close = le_of_eq (ap (λ x. 2 * nat_abs x) e) }
  where
    e : pos 1 *ℤ c 0 -ℤ (pos 0 +ℤ pos (w 0) *ℤ c 0) ≡ pos 0
    e = rw h (ring (c 0 ∷ []) (λ x. K (pos 1) ⊗ x ⊝ (K (pos 0) ⊕ K (pos 1) ⊗ x) ≐ K (pos 0)) tt)

-- a row d that is the exact row of c, rounded: one half more
pub near_step : (α β w u : ℕ → ℕ) (o : Over α β w u) (m L Q k : ℕ) (c d : ℕ → ℤ) (S : ℤ)
    → w m ≡ 0 → ((i : ℕ) → i < m → α i + β i ≡ L) → ((i : ℕ) → i < m → 2 * nat_abs (pos L *ℤ d i -ℤ mix α β c i) ≤ L)
    → Near m w d Q k S → Near (suc m) u c (L * Q) (suc k) S
near_step α β w u o m L Q k c d S z h r n = record { whole = all; close = near }
  where
    all : total (suc m) u ≡ L * Q
    all = swapℕ α β w u o L m h ∙ rw (z, n.whole) (omega arith)

    upper : weigh (suc m) u c ≡ weigh m w (mix α β c)
    upper = swap α β w u o c m ∙ rw z (ring (weigh m w (mix α β c) ∷ c m ∷ pos (α m) ∷ []) (λ t c a. t ⊕ a ⊗ K (pos 0) ⊗ c ≐ t) tt)

    apart : pos (L * Q) *ℤ S -ℤ weigh (suc m) u c ≡ pos L *ℤ (pos Q *ℤ S -ℤ weigh m w d) +ℤ weigh m w (λ i. pos L *ℤ d i -ℤ mix α β c i)
    apart =
        ap (λ x. pos (L * Q) *ℤ S -ℤ x) upper
        ∙ ring (pos L ∷ pos Q ∷ S ∷ weigh m w d ∷ weigh m w (mix α β c) ∷ []) (λ l q s e e'. l ⊗ q ⊗ s ⊝ e' ≐ l ⊗ (q ⊗ s ⊝ e) ⊕ (l ⊗ e ⊝ e')) tt
        ∙ ap (λ x. pos L *ℤ (pos Q *ℤ S -ℤ weigh m w d) +ℤ x) (pull w d (mix α β c) (pos L) m)

    far : (a b : ℤ) → nat_abs (pos L *ℤ a +ℤ b) ≤ L * nat_abs a + nat_abs b
    far a b = le_trans (abs-+ (pos L *ℤ a) b) (le_of_eq (ap (λ (x : ℕ). x + nat_abs b) (abs-* (pos L) a)))

    near : 2 * nat_abs (pos (L * Q) *ℤ S -ℤ weigh (suc m) u c) ≤ suc k * (L * Q)
    near = rw apart (both (nat_abs (pos Q *ℤ S -ℤ weigh m w d)) (nat_abs (weigh m w (λ i. pos L *ℤ d i -ℤ mix α β c i)))
        (mul-le-mul_left L n.close) (subst (λ (x : ℕ). 2 * nat_abs (weigh m w (λ i. pos L *ℤ d i -ℤ mix α β c i)) ≤ L * x) n.whole (bound w (λ i. pos L *ℤ d i -ℤ mix α β c i) L m r))
        (far (pos Q *ℤ S -ℤ weigh m w d) (weigh m w (λ i. pos L *ℤ d i -ℤ mix α β c i))))
      where
        both : (x y : ℕ) {a : ℕ} → L * (2 * x) ≤ L * (k * Q) → 2 * y ≤ L * Q → a ≤ L * x + y → 2 * a ≤ suc k * (L * Q)
        both x y p q h = omega arith
