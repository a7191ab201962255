-- The sizes in a chord's test, and the bits they are kept in.
use mathlib.Core.Path.{◌≡◌}
use Prim.Native.Nat.{◌≤◌}
use native.Mathlib.Omega.{arith}
use lib.IntN.{ℤ, pos, nat_abs, neg_ℤ, ◌+ℤ◌, ◌-ℤ◌, ◌*ℤ◌}
use lib.Signed.{nat_abs-le}
use mir.Syntax.{w32, w64}
use mir.Val.{to_z, of_z, SFits}
use Rattle.rounding.proofs.Bits.{read_back, widened}
use Rattle.rounding.proofs.IntLaws.{abs-+, abs-*, abs_neg}

module _ {x y : ℤ} (f : SFits w32 x) (g : SFits w32 y) where
  pub twice-size : nat_abs (pos 2 *ℤ x) ≤ 4294967296
  twice-size = rw (abs-* (pos 2) x) (omega (arith, nat_abs-le x f.sfits))

  pub sum-size : nat_abs (x +ℤ y) ≤ 4294967296
  sum-size = omega (arith, abs-+ x y, nat_abs-le x f.sfits, nat_abs-le y g.sfits)

pub off-size : (x y : ℤ) → nat_abs x ≤ 4294967296 → nat_abs y ≤ 4294967296 → nat_abs (x -ℤ y) ≤ 8589934592
off-size x y h k = omega (arith, abs-+ x (neg_ℤ y), abs_neg y)

-- a parameter as 64 bits, and a number of 64 bits read back
abbrev pub wide : ℤ → ℤ
wide x = to_z w64 (of_z w64 (to_z w32 (of_z w32 x)))

abbrev pub kept : ℤ → ℤ
kept x = to_z w64 (of_z w64 x)

module _ {p q : ℤ} (f : SFits w32 p) (g : SFits w32 q) where
  pub sum_is : kept (wide p +ℤ wide q) ≡ p +ℤ q
  sum_is = rw (widened f, widened g) (read_back w64 (p +ℤ q) (omega (arith, sum-size f g)))

  way-small : nat_abs (p -ℤ q) ≤ 8589934592
  way-small = let h = nat_abs-le p f.sfits in let k = nat_abs-le q g.sfits in off-size p q (omega arith) (omega arith)

  pub way-is : kept (wide p -ℤ wide q) ≡ p -ℤ q
  way-is = rw (widened f, widened g) (read_back w64 (p -ℤ q) (omega (arith, way-small)))
