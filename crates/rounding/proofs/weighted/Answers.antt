-- The product's size is the product of the sizes, which fits 64 bits (`abs-*`).
use mathlib.Core.Path.{refl}
use Prim.Native.Nat.{◌*◌, ◌≤◌}
use native.Mathlib.Omega.{arith}
use native.Mathlib.Nat.{mul-le-mul_right}
use lib.IntN.{nat_abs, pos, ◌*ℤ◌}
use mir.Syntax.{w64}
use mir.Facts.{to_z_pos}
use Rattle.rounding.proofs.IntLaws.{abs-*}
use Rattle.rounding.proofs.Bits.{read_back, widened}
use Rattle.rounding.proofs.weighted.Goals as goal
use Rattle.rounding.proofs.weighted.Goals.{Start}

small : (c : Start) → nat_abs (c.args.a *ℤ pos c.args.k) ≤ 2000000000 * c.args.k
small c = rw (abs-* c.args.a (pos c.args.k)) (mul-le-mul_right c.args.k c.requires.0)

pub returns : goal.returns
returns c =
    rw (widened c.ranges.a, to_z_pos w64 {n = c.args.k} (omega arith), read_back w64 (c.args.a *ℤ pos c.args.k) (omega (arith, small c)))
    (refl, small c)
