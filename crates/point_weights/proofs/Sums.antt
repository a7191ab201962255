-- The weights of a row are Bernstein's parts of 64 to the third, so they sum to it, and the sum divided once is near; at both ends it is a control.
use mathlib.Core.Path.{◌≡◌, sym, ap, ◌∙◌, subst}
use mathlib.Core.List.{[], ◌∷◌}
use Prim.Native.Nat.{ℕ, ◌+◌, ◌*◌, ◌≤◌}
use native.Mathlib.Nat.{add-zero}
use native.Mathlib.Omega.{arith}
use lib.IntN.{ℤ, pos, nat_abs, ◌+ℤ◌, ◌-ℤ◌, ◌*ℤ◌}
use Rattle.rounding.specs.Round.{rounded}
use Rattle.rounding.proofs.Ring.{ring, K, ◌⊕◌, ◌⊗◌, ◌≐◌}
use Rattle.rounding.proofs.FracLaws.{sum}
use Rattle.rounding.proofs.Rounding.{rounded-near, rounded-whole}
use Rattle.point_exact.specs.Exact.{choose}
use Rattle.point_exact.proofs.Scheme.{total, weigh}
use Rattle.point_exact.proofs.Bernstein.{share, casteljau-near}
use Rattle.point_weights.specs.Weights.{weight, weighed, cubic_sampled}
use Rattle.point_weights.specs.Sums.{RowSums, SegmentEnds}

pub row-sums : RowSums
unfolding total weight share
row-sums j l = omega (arith, (casteljau-near j 64 (omega arith) l 3 (λ i. pos 0)).whole)

-- the sum of the segment's controls, divided once
pub sampled-near : (g j : ℕ) (c : ℕ → ℤ) → 2 * nat_abs (pos 262144 *ℤ cubic_sampled g j c -ℤ weigh 4 (share j 64 3) (λ i. c (g * 3 + i))) ≤ 1 * 262144
unfolding cubic_sampled weighed sum weight share
sampled-near g j c =
    subst (λ z. 2 * nat_abs (pos 262144 *ℤ rounded (all (c (g * 3))) 262144 -ℤ z) ≤ 1 * 262144) (ap all (ap c (sym (add-zero (g * 3)))) ∙ turned)
    (rounded-near (all (c (g * 3))) 262144 (omega arith))
  where
    all : ℤ → ℤ
    all a = a *ℤ pos (weight j 0) +ℤ c (g * 3 + 1) *ℤ pos (weight j 1) +ℤ c (g * 3 + 2) *ℤ pos (weight j 2) +ℤ c (g * 3 + 3) *ℤ pos (weight j 3)

    turned : all (c (g * 3 + 0)) ≡ weigh 4 (share j 64 3) (λ i. c (g * 3 + i))
    turned =
        ring (c (g * 3 + 0) ∷ c (g * 3 + 1) ∷ c (g * 3 + 2) ∷ c (g * 3 + 3) ∷ pos (weight j 0) ∷ pos (weight j 1) ∷ pos (weight j 2) ∷ pos (weight j 3) ∷ [])
        (λ a b d e u v w x. a ⊗ u ⊕ b ⊗ v ⊕ d ⊗ w ⊕ e ⊗ x ≐ K (pos 0) ⊕ u ⊗ a ⊕ v ⊗ b ⊕ w ⊗ d ⊕ x ⊗ e) tt

pub segment-ends : SegmentEnds
unfolding cubic_sampled weighed weight choose
segment-ends g c = (
  ap (λ z. rounded z 262144) (ring (c (g * 3) ∷ c (g * 3 + 1) ∷ c (g * 3 + 2) ∷ c (g * 3 + 3) ∷ [])
      (λ a b d e. a ⊗ K (pos 262144) ⊕ b ⊗ K (pos 0) ⊕ d ⊗ K (pos 0) ⊕ e ⊗ K (pos 0) ≐ a ⊗ K (pos 262144)) tt) ∙ rounded-whole (c (g * 3)) 262144 (omega arith),
  ap (λ z. rounded z 262144) (ring (c (g * 3) ∷ c (g * 3 + 1) ∷ c (g * 3 + 2) ∷ c (g * 3 + 3) ∷ [])
      (λ a b d e. a ⊗ K (pos 0) ⊕ b ⊗ K (pos 0) ⊕ d ⊗ K (pos 0) ⊕ e ⊗ K (pos 262144) ≐ e ⊗ K (pos 262144)) tt) ∙ rounded-whole (c (g * 3 + 3)) 262144 (omega arith),
)
