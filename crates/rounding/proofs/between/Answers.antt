-- The sum's size is at most that of the larger number times d, so every step fits, and the sum is rounded.
use mathlib.Core.Path.{◌≡◌}
use Prim.Native.Nat.{◌*◌, ◌≤◌}
use native.Mathlib.Omega.{arith}
use lib.IntN.{nat_abs, ◌+ℤ◌}
use mir.Syntax.{w32, w64}
use mir.Val.{to_z, of_z}
use mir.Facts.{to_z-of_z}
use Rattle.rounding.specs.Round.{between}
use Rattle.rounding.proofs.IntLaws.{abs-+}
use Rattle.rounding.proofs.Bits.{read_back}
use Rattle.rounding.proofs.between.Goals as goal
use Rattle.rounding.proofs.between.Goals.{After-weighted-2}

-- the sum's size, and the sum as the machine has it
sum-size : (c : After-weighted-2) → nat_abs (c.weighted.result +ℤ c.weighted-2.result) ≤ 2000000000 * c.args.d
sum-size c = omega (arith, abs-+ c.weighted.result c.weighted-2.result, c.weighted.ensures.1, c.weighted-2.ensures.1)

sum_is : (c : After-weighted-2) → let x = c.weighted.result in let y = c.weighted-2.result in to_z w64 (of_z w64 (to_z w64 (of_z w64 x) +ℤ to_z w64 (of_z w64 y))) ≡ x +ℤ y
sum_is c =
    let x = c.weighted.result in
    let y = c.weighted-2.result in
    rw (read_back w64 x (omega arith), read_back w64 y (omega arith)) (read_back w64 (x +ℤ y) (omega (arith, sum-size c)))

pub returns : goal.returns
unfolding between
returns c =
    rw (read_back w32 c.rounded.result (omega arith)) (
      rw (sum_is c.before, c.weighted.ensures.0, c.weighted-2.ensures.0, to_z-of_z c.ranges.a, to_z-of_z c.ranges.b) at c.rounded.ensures.0,
      c.rounded.ensures.1,
    )
