-- A point never leaves the range of the controls that it is made from: no step of the scheme does.
use Prim.Native.Nat.{ℕ, zero, suc, ◌+◌, ◌≤◌, ◌<◌}
use native.Mathlib.Omega.{arith}
use lib.IntN.{ℤ}
use lib.Signed.{◌≤ℤ◌}
use Rattle.rounding.specs.Round.{between}
use Rattle.rounding.proofs.Rounding.{between-above, between-below}
use Rattle.point_exact.specs.Directions.{Direction}
use Rattle.point_exact.specs.Rules.{Rules}
use Rattle.point_exact.specs.Sampled.{pyramid, offset_at, gap_at, first_control, curve_sampled, surface_sampled}
use Rattle.point_exact.proofs.Samplers.{step-parts}

module _ (p g : ℕ → ℕ → ℕ) (n : ℕ) (parts : (r j : ℕ) → r < n → j ≤ r → (p r j ≤ g r j) × (0 < g r j)) where
  above : {low : ℤ} (r : ℕ) (c : ℕ → ℤ) → r ≤ n → ((j : ℕ) → j ≤ r → low ≤ℤ c j) → low ≤ℤ pyramid p g r c
  unfolding pyramid
  above zero c h f = f 0 (omega arith)
  above (suc r) c h f =
      above r (λ j. between (c j) (c (suc j)) (p r j) (g r j)) (omega arith)
      (λ j l. between-above (c j) (c (suc j)) (p r j) (g r j) (parts r j h l).0 (parts r j h l).1 (f j (omega arith)) (f (suc j) (omega arith)))

  below : {high : ℤ} (r : ℕ) (c : ℕ → ℤ) → r ≤ n → ((j : ℕ) → j ≤ r → c j ≤ℤ high) → pyramid p g r c ≤ℤ high
  unfolding pyramid
  below zero c h f = f 0 (omega arith)
  below (suc r) c h f =
      below r (λ j. between (c j) (c (suc j)) (p r j) (g r j)) (omega arith)
      (λ j l. between-below (c j) (c (suc j)) (p r j) (g r j) (parts r j h l).0 (parts r j h l).1 (f j (omega arith)) (f (suc j) (omega arith)))

pub curve-above : (d : Direction) (t : ℤ) → Rules d t → (c : ℕ → ℤ) {low : ℤ}
    → ((j : ℕ) → j ≤ d.degree → low ≤ℤ c (first_control d t + j)) → low ≤ℤ curve_sampled d t c
unfolding curve_sampled
curve-above d t o c f = above (offset_at d t) (gap_at d t) d.degree (step-parts d t o) d.degree (λ j. c (first_control d t + j)) (omega arith) f

pub curve-below : (d : Direction) (t : ℤ) → Rules d t → (c : ℕ → ℤ) {high : ℤ}
    → ((j : ℕ) → j ≤ d.degree → c (first_control d t + j) ≤ℤ high) → curve_sampled d t c ≤ℤ high
unfolding curve_sampled
curve-below d t o c f = below (offset_at d t) (gap_at d t) d.degree (step-parts d t o) d.degree (λ j. c (first_control d t + j)) (omega arith) f

pub surface-above : (u v : Direction) (s t : ℤ) → Rules u s → Rules v t → (c : ℕ → ℕ → ℤ) {low : ℤ}
    → ((i j : ℕ) → i ≤ u.degree → j ≤ v.degree → low ≤ℤ c (first_control u s + i) (first_control v t + j)) → low ≤ℤ surface_sampled u v s t c
unfolding surface_sampled
surface-above u v s t a b c f =
    curve-above v t b (λ j. curve_sampled u s (λ i. c i j)) (λ j l. curve-above u s a (λ i. c i (first_control v t + j)) (λ i k. f i j k l))

pub surface-below : (u v : Direction) (s t : ℤ) → Rules u s → Rules v t → (c : ℕ → ℕ → ℤ) {high : ℤ}
    → ((i j : ℕ) → i ≤ u.degree → j ≤ v.degree → c (first_control u s + i) (first_control v t + j) ≤ℤ high) → surface_sampled u v s t c ≤ℤ high
unfolding surface_sampled
surface-below u v s t a b c f =
    curve-below v t b (λ j. curve_sampled u s (λ i. c i j)) (λ j l. curve-below u s a (λ i. c i (first_control v t + j)) (λ i k. f i j k l))
