-- No sum passes 64 bits, so the tests are the definition's.
use mathlib.Core.Path.{◌≡◌}
use Prim.Native.Nat.{◌≤◌}
use native.Mathlib.Omega.{arith}
use lib.IntN.{ℤ, pos, nat_abs, ◌+ℤ◌, ◌-ℤ◌, ◌*ℤ◌}
use mir.Syntax.{w32, w64}
use mir.Val.{SFits}
use Rattle.rounding.proofs.Bits.{read_back, widened}
use Rattle.point_chords.specs.Chords.{near}
use Rattle.point_chords.proofs.Sizes.{twice-size, sum-size, off-size, wide, kept, sum_is}
use Rattle.point_chords.proofs.is_near.Goals as goal

module _ {x : ℤ} (f : SFits w32 x) where
  twice-is : kept (pos 2 *ℤ wide x) ≡ pos 2 *ℤ x
  twice-is = rw (widened f) (read_back w64 (pos 2 *ℤ x) (omega (arith, twice-size f f)))

module _ {p q : ℤ} (f : SFits w32 p) (g : SFits w32 q) where
  module _ {m : ℤ} (h : SFits w32 m) where
    off_small : nat_abs (pos 2 *ℤ m -ℤ (p +ℤ q)) ≤ 8589934592
    off_small = off-size (pos 2 *ℤ m) (p +ℤ q) (twice-size h h) (sum-size f g)

    off-is : kept (kept (pos 2 *ℤ wide m) -ℤ kept (wide p +ℤ wide q)) ≡ pos 2 *ℤ m -ℤ (p +ℤ q)
    off-is = rw (twice-is h, sum_is f g) (read_back w64 (pos 2 *ℤ m -ℤ (p +ℤ q)) (omega (arith, off_small)))

module _ {t : ℤ} (f : SFits w32 t) where
  under-small : nat_abs (pos 0 -ℤ pos 2 *ℤ t) ≤ 8589934592
  under-small = off-size (pos 0) (pos 2 *ℤ t) (omega arith) (twice-size f f)

  under-is : kept (pos 0 -ℤ kept (pos 2 *ℤ wide t)) ≡ pos 0 -ℤ pos 2 *ℤ t
  under-is = rw (twice-is f) (read_back w64 (pos 0 -ℤ pos 2 *ℤ t) (omega (arith, under-small)))

pub returns-then-room-off : goal.returns-then-room-off
unfolding near
returns-then-room-off c =
    let f = c.ranges in
    let k = rw (under-is f.tolerance, off-is f.p f.q f.m) at c.if-room-off.true in
    rw (off-is f.p f.q f.m, twice-is f.tolerance, k)

pub returns-else-room-off : goal.returns-else-room-off
unfolding near
returns-else-room-off c =
    let f = c.ranges in
    let k = rw (under-is f.tolerance, off-is f.p f.q f.m) at c.if-room-off.false in
    rw k c.if-room-off.false
