-- (64-j)s + je is 64s + j(e-s), and fits.
use mathlib.Core.Path.{◌≡◌, ap, ap₂, ◌∙◌}
use mathlib.Core.List.{[], ◌∷◌}
use Prim.Native.Nat.{ℕ, ◌+◌, ◌*◌, ◌-◌, ◌≤◌}
use native.Mathlib.Omega.{arith}
use lib.IntN.{ℤ, pos, ◌+ℤ◌, ◌-ℤ◌, ◌*ℤ◌}
use mir.Facts.{to_z-of_z}
use Rattle.rounding.proofs.Ring.{ring, ◌⊕◌, ◌⊝◌, ◌⊗◌, ◌≐◌}
use Rattle.point_weights.proofs.Machine.{Added, one, plus, plus-fits}
use Rattle.point_cubics.proofs.steps.parameter64.Goals as goal
use Rattle.point_cubics.proofs.steps.parameter64.Goals.{After-weighted-2}

turned : (s e : ℤ) (j : ℕ) → j ≤ 64 → s *ℤ pos (64 - j) +ℤ e *ℤ pos j ≡ pos 64 *ℤ s +ℤ pos j *ℤ (e -ℤ s)
turned s e j l =
    let h : 64 - j + j ≡ 64 = omega arith in
    ring (s ∷ e ∷ pos (64 - j) ∷ pos j ∷ []) (λ s e k j. s ⊗ k ⊕ e ⊗ j ≐ (k ⊕ j) ⊗ s ⊕ j ⊗ (e ⊝ s)) tt
    ∙ ap (λ (n : ℕ). pos n *ℤ s +ℤ pos j *ℤ (e -ℤ s)) h

first : (c : After-weighted-2) → Added c.weighted.result c.weighted.result (2000000000 * (64 - c.args.j))
first c = one c.weighted.result (2000000000 * (64 - c.args.j)) c.weighted.ensures.1 (omega arith)

second : (c : After-weighted-2) → Added c.weighted-2.result c.weighted-2.result (2000000000 * c.args.j)
second c = one c.weighted-2.result (2000000000 * c.args.j) c.weighted-2.ensures.1 (omega (arith, c.requires.2))

few : (c : After-weighted-2) → 2000000000 * (64 - c.args.j) + 2000000000 * c.args.j ≤ 600000000000000
few c = omega (arith, c.requires.2)

pub overflow_add-result : goal.overflow_add-result
overflow_add-result c = plus-fits (first c) (second c) (few c)

pub returns : goal.returns
returns c =
    let a = plus (first c) (second c) (few c) in
    let m : 2000000000 * (64 - c.args.j) + 2000000000 * c.args.j ≤ 128000000000 = omega (arith, c.requires.2) in (
      a.back ∙ ap₂ ◌+ℤ◌ (rw (to_z-of_z c.ranges.s) at c.weighted.ensures.0) (rw (to_z-of_z c.ranges.e) at c.weighted-2.ensures.0) ∙ turned c.args.s c.args.e c.args.j c.requires.2,
      rw a.back (omega (arith, a.size, m)),
    )
