-- A direction by its type number: each side of the test on it opens the definitions of that kind.
use mathlib.Core.Path.{◌≡◌, refl, ◌∙◌, subst}
use mathlib.Core.Bool.{Bool, true, false, cond}
use mathlib.Core.List.{List}
use Prim.Native.Nat.{ℕ, ◌+◌, ◌-◌, ◌*◌, ◌≤◌, ◌<◌}
use native.Mathlib.Numerals.{add-one}
use native.Mathlib.Omega.{arith}
use lib.Dec.{eqb}
use lib.ListN.{length}
use lib.IntN.{ℤ, nat_abs, ◌-ℤ◌}
use Rattle.point_exact.specs.Directions.{bezier, bspline, by, Direction, at, segment, span, chosen}
use Rattle.point_exact.specs.Rules.{BezierRules, SplineRules, Rules}
use Rattle.point_exact.specs.Sampled.{low_at, high_at, offset_at, gap_at, first_control}
use Rattle.point_exact.proofs.Chosen.{span_below, span-from, segment-below}
use Rattle.point_rows.specs.Places.{direction}
use Rattle.point_rows.specs.Finding.{On}
use Rattle.point_rows.specs.declared.BodyDirection.{BodyDirection}

module _ (a : BodyDirection) (x : List ℤ) (t : ℤ) where
  module _ (e : eqb a.basis 2 ≡ true) where
    pub spline : Rules (direction a x) t → SplineRules a.degree a.controls x t
    unfolding Rules
    spline r = subst (λ (q : Bool). by (cond q bspline bezier) (BezierRules a.degree a.controls x t) (SplineRules a.degree a.controls x t)) e r

    pub chosen-span : chosen (direction a x) t ≡ span (at x) a.degree a.controls t
    unfolding chosen
    chosen-span = rw e

    pub spline-low : (g r j : ℕ) → g ≡ chosen (direction a x) t → at x (g + j - r) ≡ low_at (direction a x) t r j
    unfolding low_at
    spline-low g r j k = rw (e, k) (rw e)

    pub spline-high : (g r j : ℕ) → g ≡ chosen (direction a x) t → at x (g + j + 1) ≡ high_at (direction a x) t r j
    unfolding high_at
    spline-high g r j k = rw (e, k, add-one) (rw e)

    pub spline-first : (g : ℕ) → g ≡ chosen (direction a x) t → g - a.degree ≡ first_control (direction a x) t
    unfolding first_control
    spline-first g k = rw (e, k) (rw e)

    module _ {g : ℕ} (o : On a x t g) where
      is-span : g ≡ span (at x) a.degree a.controls t
      is-span = o.is ∙ chosen-span

      pub deep : a.degree ≤ g
      deep = omega (arith, is-span, span-from (spline o.sound.rules))

      pub below : g < a.controls
      below = omega (arith, is-span, span_below (spline o.sound.rules))

      pub inside : (j : ℕ) → j < a.degree → g + j + 1 < length x
      inside j h = omega (arith, below, (spline o.sound.rules).count)

  module _ (e : eqb a.basis 2 ≡ false) where
    pub bezier_only : Rules (direction a x) t → BezierRules a.degree a.controls x t
    unfolding Rules
    bezier_only r = subst (λ (q : Bool). by (cond q bspline bezier) (BezierRules a.degree a.controls x t) (SplineRules a.degree a.controls x t)) e r

    pub chosen-segment : chosen (direction a x) t ≡ segment (at x) (length x) t
    unfolding chosen
    chosen-segment = rw e

    pub bezier-low : (g r j : ℕ) → g ≡ chosen (direction a x) t → at x g ≡ low_at (direction a x) t r j
    unfolding low_at
    bezier-low g r j k = rw (e, k) (rw e)

    pub bezier-high : (g r j : ℕ) → g ≡ chosen (direction a x) t → at x (g + 1) ≡ high_at (direction a x) t r j
    unfolding high_at
    bezier-high g r j k = rw (e, k, add-one) (rw e)

    pub bezier-first : (g : ℕ) → g ≡ chosen (direction a x) t → g * a.degree ≡ first_control (direction a x) t
    unfolding first_control
    bezier-first g k = rw (e, k) (rw e)

    pub segment-inside : {g : ℕ} → On a x t g → g + 1 < length x
    segment-inside {g} o = omega (arith, o.is ∙ chosen-segment, segment-below (bezier_only o.sound.rules))

-- the parts and the interval of a step, from its two parameters
pub part-is : (d : Direction) (t : ℤ) (r j : ℕ) → nat_abs (t -ℤ low_at d t r j) ≡ offset_at d t r j
unfolding offset_at
part-is d t r j = refl

pub gap_is : (d : Direction) (t : ℤ) (r j : ℕ) → nat_abs (high_at d t r j -ℤ low_at d t r j) ≡ gap_at d t r j
unfolding gap_at
gap_is d t r j = refl
