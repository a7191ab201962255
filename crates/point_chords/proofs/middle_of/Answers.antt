-- The sum raised is not below zero, so that its half is rounded down.
use mathlib.Core.Path.{◌≡◌, ap, ◌∙◌}
use Prim.Native.Nat.{ℕ, ◌≤◌}
use native.Mathlib.Omega.{arith}
use lib.IntN.{ℤ, pos, nat_abs, ◌+ℤ◌, ◌-ℤ◌}
use lib.Signed.{quot_z}
use mir.Syntax.{w32, w64}
use mir.Val.{to_z, of_z, SFits}
use mir.Facts.{to_z-of_z, sfits_widen}
use Rattle.rounding.proofs.IntLaws.{abs-+}
use Rattle.rounding.proofs.Bits.{read_back}
use Rattle.point_chords.specs.Chords.{middle}
use Rattle.point_chords.proofs.Middle.{lowered, half-size, middle-fits}
use Rattle.point_chords.proofs.Sizes.{wide, kept, sum_is, sum-size}
use Rattle.point_chords.proofs.middle_of.Goals as goal

module _ {a b : ℤ} (f : SFits w32 a) (g : SFits w32 b) where
  -- whatever it is raised and lowered by, no step passes 64 bits
  module _ (by : ℕ) (h : by ≤ 4294967296) where
    raised-small : nat_abs (a +ℤ b +ℤ pos by) ≤ 8589934592
    raised-small = omega (arith, abs-+ (a +ℤ b) (pos by), sum-size f g)

    abbrev raised : ℤ
    raised = kept (wide a +ℤ wide b) +ℤ pos by

    raised_is : kept raised ≡ a +ℤ b +ℤ pos by
    raised_is = rw (sum_is f g) (read_back w64 (a +ℤ b +ℤ pos by) (omega (arith, raised-small)))

    half-small : nat_abs (quot_z (a +ℤ b +ℤ pos by) (pos 2)) ≤ 8589934592
    half-small = omega (arith, half-size (a +ℤ b +ℤ pos by), raised-small)

    half_is : kept (quot_z (kept raised) (pos 2)) ≡ quot_z (a +ℤ b +ℤ pos by) (pos 2)
    half_is = rw raised_is (read_back w64 (quot_z (a +ℤ b +ℤ pos by) (pos 2)) (omega (arith, half-small)))

  abbrev low : ℤ
  low = kept (quot_z (kept (raised 4294967296 (omega arith))) (pos 2)) -ℤ pos 2147483648

  middle-in : SFits w32 (middle a b)
  middle-in = record { sfits = middle-fits a b f.sfits g.sfits }

  kept_low : kept low ≡ middle a b
  unfolding middle
  kept_low = rw (half_is 4294967296 (omega arith), lowered (a +ℤ b) (sum-size f g)) (to_z-of_z {w = w64} (sfits_widen {w = w32} {w' = w64} (tt {0}) middle-in))

pub returns : goal.returns
returns c = ap (λ (z : ℤ). to_z w32 (of_z w32 z)) (kept_low c.ranges.a c.ranges.b) ∙ to_z-of_z (middle-in c.ranges.a c.ranges.b)
