-- De Casteljau's scheme, rounded at each step, against Bernstein's weights: by Pascal's rule they are a level of the scheme over those of one degree less.
use mathlib.Core.Path.{◌≡◌, refl, sym, ◌∙◌, ap}
use mathlib.Core.List.{[], ◌∷◌}
use Prim.Native.Nat.{ℕ, zero, suc, ◌+◌, ◌*◌, ◌-◌, ◌^◌, ◌≤◌, ◌<◌}
use native.Mathlib.Nat.{pow-zero, pow-suc, pow-succ', sub-zero, suc-sub-suc, le_refl, le_of_suc-le-suc, not-suc-le-zero, mul-pos, zero-lt-suc, one-mul}
use lib.Pow.{pow-add}
use native.Mathlib.Decide.{dec_le}
use native.Mathlib.Omega.{arith}
use lib.IntN.{ℤ, pos, ◌-ℤ◌, ◌*ℤ◌}
use Rattle.rounding.specs.Round.{between}
use Rattle.rounding.specs.Fractions.{Frac, whole, ◌-ᶠ◌}
use Rattle.rounding.proofs.Ring.{ring, K, ◌⊕◌, ◌⊝◌, ◌⊗◌, ◌≐◌}
use Rattle.rounding.proofs.Rounding.{between-near}
use Rattle.rounding.proofs.FracLaws.{Is, is-conv, is_whole, is-times, is-minus, is-power}
use Rattle.point_exact.specs.Exact.{choose, bernstein}
use Rattle.point_exact.specs.Sampled.{pyramid}
use Rattle.point_exact.proofs.Scheme.{Over, Near, near-zero, near_step}

-- what control i weighs of D ^ n, at p parts of D
unfoldable pub share : (p D n i : ℕ) → ℕ
share p D n i = choose n i * p ^ i * (D - p) ^ (n - i)

choose-past : (n i : ℕ) → n < i → choose n i ≡ 0
unfolding choose
choose-past n zero h = absurd (not-suc-le-zero h)
choose-past zero (suc i) h = refl
choose-past (suc n) (suc i) h = go (choose-past n i (le_of_suc-le-suc h)) (choose-past n (suc i) (omega arith))
  where
    go : choose n i ≡ 0 → choose n (suc i) ≡ 0 → choose n i + choose n (suc i) ≡ 0
    go p q = omega arith

low-power : (q n i : ℕ) → choose n (suc i) * q ^ (n - i) ≡ q * (choose n (suc i) * q ^ (n - suc i))
low-power q n i = go (dec_le (suc i) n)
  where
    go : Dec (suc i ≤ n) → choose n (suc i) * q ^ (n - i) ≡ q * (choose n (suc i) * q ^ (n - suc i))
    go (yes h) =
        let e : n - i ≡ suc (n - suc i) = omega arith in
        rw (e, pow-suc) (omega arith)
    go (no h) = rw (choose-past n (suc i) (omega arith)) (omega arith)

share-over : (p D n : ℕ) → Over (λ i. D - p) (λ i. p) (share p D n) (share p D (suc n))
unfolding share choose
share-over p D n = record { first = rw (sub-zero, sub-zero, pow-suc) (omega arith); next = λ i. go i (ap (λ (x : ℕ). p ^ i * p * x) (low-power (D - p) n i)) }
  where
    go : (i : ℕ) → p ^ i * p * (choose n (suc i) * (D - p) ^ (n - i)) ≡ p ^ i * p * ((D - p) * (choose n (suc i) * (D - p) ^ (n - suc i)))
        → (choose n i + choose n (suc i)) * p ^ suc i * (D - p) ^ (suc n - suc i) ≡ p * (choose n i * p ^ i * (D - p) ^ (n - i)) + (D - p) * (choose n (suc i) * p ^ suc i * (D - p) ^ (n - suc i))
    go i h = rw (suc-sub-suc, pow-suc) (omega arith)

share-one : (p D : ℕ) → share p D 0 0 ≡ 1
unfolding share choose
share-one p D = rw (pow-zero p, sub-zero, pow-zero (D - p))

share-past : (p D n : ℕ) → share p D n (suc n) ≡ 0
unfolding share
share-past p D n = rw (choose-past n (suc n) (le_refl (suc n))) (omega arith)

pub casteljau-near : (p D : ℕ) → 0 < D → p ≤ D → (n : ℕ) (c : ℕ → ℤ) → Near (suc n) (share p D n) c (D ^ n) n (pyramid (λ r j. p) (λ r j. D) n c)
unfolding pyramid
casteljau-near p D h l zero c = rw pow-zero (near-zero (share p D 0) c (share-one p D))
casteljau-near p D h l (suc n) c =
    rw pow-succ' (near_step (λ i. D - p) (λ i. p) (share p D n) (share p D (suc n)) (share-over p D n) (suc n) D (D ^ n) n c (λ j. between (c j) (c (suc j)) p D)
    (pyramid (λ r j. p) (λ r j. D) (suc n) c) (share-past p D n) (λ i k. omega arith) (λ i k. between-near (c i) (c (suc i)) p D h)
    (casteljau-near p D h l n (λ j. between (c j) (c (suc j)) p D)))

pub power-above : (D n : ℕ) → 0 < D → 0 < D ^ n
power-above D zero h = rw pow-zero (zero-lt-suc 0)
power-above D (suc n) h = rw pow-suc (mul-pos (power-above D n h) h)

-- ---- the weights as fractions over D ^ n, where q is p / D
module _ (q : Frac) (p D : ℕ) (l : p ≤ D) (f : Is q (pos p) D) where
  rest : Is (whole (pos 1) -ᶠ q) (pos (D - p)) D
  rest = is-conv e refl (is-minus (is_whole (pos 1) D) f)
    where
      whole_is : D ≡ D - p + p
      whole_is = omega arith

      e : pos 1 *ℤ pos D -ℤ pos p ≡ pos (D - p)
      e =
          ap (λ (n : ℕ). pos 1 *ℤ pos n -ℤ pos p) whole_is
          ∙ ring (pos (D - p) ∷ pos p ∷ []) (λ r p. K (pos 1) ⊗ (r ⊕ p) ⊝ p ≐ r) tt

  pub bernstein-is : (n i : ℕ) → i ≤ n → Is (bernstein q n i) (pos (share p D n i)) (D ^ n)
  unfolding bernstein share
  bernstein-is n i h =
      is-conv (ring (pos (choose n i) ∷ pos (p ^ i) ∷ pos ((D - p) ^ (n - i)) ∷ []) (λ c a b. c ⊗ K (pos 1) ⊗ a ⊗ b ≐ c ⊗ a ⊗ b) tt) powers
      (is-times (is-times (is_whole (pos (choose n i)) 1) (is-power f i)) (is-power rest (n - i)))
    where
      split : i + (n - i) ≡ n
      split = omega arith

      powers : 1 * D ^ i * D ^ (n - i) ≡ D ^ n
      powers = ap (λ (k : ℕ). k * D ^ (n - i)) (one-mul (D ^ i)) ∙ sym (pow-add D i (n - i)) ∙ ap (λ (k : ℕ). D ^ k) split
