-- A direction's weights are fractions, none below 0, and come to 1: they are parts of one whole.
use mathlib.Core.Path.{refl}
use mathlib.Core.List.{[], ◌∷◌}
use Prim.Native.Nat.{ℕ, ◌<◌}
use lib.IntN.{ℤ, pos}
use lib.Signed.{◌≤ℤ◌}
use Rattle.rounding.specs.Fractions.{whole, ◌≈◌, sum_to}
use Rattle.rounding.proofs.Ring.{ring, K, ◌⊗◌, ◌≐◌}
use Rattle.rounding.proofs.FracLaws.{is-conv, is_same, is_whole, is-from-zero}
use Rattle.point_exact.specs.Directions.{Direction}
use Rattle.point_exact.specs.Rules.{Rules}
use Rattle.point_exact.specs.Exact.{weight_at}
use Rattle.point_exact.proofs.Samplers.{sampler}
use Rattle.point_exact.proofs.Weights.{weights-are}

pub weights-one : (d : Direction) (t : ℤ) → Rules d t → sum_to d.controls (weight_at d t) ≈ whole (pos 1)
weights-one d t r =
    let a = sampler d t r in
    is_same a.some (weights-are a) (is-conv (ring (pos a.all ∷ []) (λ q. K (pos 1) ⊗ q ≐ q) tt) refl (is_whole (pos 1) a.all))

pub weights-above : (d : Direction) (t : ℤ) → Rules d t → (i : ℕ) → i < d.controls → (0 < (weight_at d t i).bot) × (pos 0 ≤ℤ (weight_at d t i).top)
weights-above d t r i l =
    let a = sampler d t r in
    let e = a.are i l in
    (e.above, is-from-zero a.some e)
