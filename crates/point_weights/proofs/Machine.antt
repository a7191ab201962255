-- Signed numbers as the machine has them: sums whose sizes are known, and four numbers weighed.
use mathlib.Core.Path.{◌≡◌, ◌∙◌}
use Prim.Native.Nat.{ℕ, ◌+◌, ◌≤◌}
use native.Mathlib.Omega.{arith}
use lib.IntN.{ℤ, nat_abs, ◌+ℤ◌}
use mir.Syntax.{w32, w64}
use mir.Val.{SFits, to_z, of_z}
use Rattle.rounding.specs.Range.{InRange}
use Rattle.rounding.proofs.IntLaws.{abs-+}
use Rattle.rounding.proofs.Bits.{fits-abs, read_back, read-back-small}
use Rattle.point_weights.specs.Weights.{weighed}

-- the machine's z is x, at most m from zero
pub record Added (z x : ℤ) (m : ℕ) : Type 0 where
  pub back : to_z w64 (of_z w64 z) ≡ x
  pub size : nat_abs x ≤ m

pub one : (x : ℤ) (m : ℕ) → nat_abs x ≤ m → m ≤ 600000000000000 → Added x x m
one x m h l = record { back = read_back w64 x (omega arith); size = h }

module _ {z w x y : ℤ} {m n : ℕ} (a : Added z x m) (b : Added w y n) (l : m + n ≤ 600000000000000) where
  pub plus-size : nat_abs (x +ℤ y) ≤ m + n
  plus-size = omega (arith, abs-+ x y, a.size, b.size)

  pub plus-fits : SFits w64 (to_z w64 (of_z w64 z) +ℤ to_z w64 (of_z w64 w))
  plus-fits = rw (a.back, b.back) (fits-abs w64 (x +ℤ y) (omega (arith, plus-size)))

  pub plus : Added (to_z w64 (of_z w64 z) +ℤ to_z w64 (of_z w64 w)) (x +ℤ y) (m + n)
  plus = record { back = rw (a.back, b.back) (read_back w64 (x +ℤ y) (omega (arith, plus-size))); size = plus-size }

-- what is made of four small numbers by their bits is made of the numbers
pub by_bits : (j : ℕ) {z a b c d p q r s : ℤ} → (z ≡ weighed j (to_z w32 (of_z w32 a)) (to_z w32 (of_z w32 b)) (to_z w32 (of_z w32 c)) (to_z w32 (of_z w32 d))) × InRange z
    → (a ≡ p) × InRange a → (b ≡ q) × InRange b → (c ≡ r) × InRange c → (d ≡ s) × InRange d
    → (to_z w32 (of_z w32 z) ≡ weighed j p q r s) × InRange (to_z w32 (of_z w32 z))
by_bits j {z} {a} {b} {c} {d} (e, h) (ea, ha) (eb, hb) (ec, hc) (ed, hd) =
    rw (read-back-small z h)
    (e ∙ same (read-back-small a ha ∙ ea) (read-back-small b hb ∙ eb) (read-back-small c hc ∙ ec) (read-back-small d hd ∙ ed), h)
  where
    same : {a b c d e f g h : ℤ} → a ≡ e → b ≡ f → c ≡ g → d ≡ h → weighed j a b c d ≡ weighed j e f g h
    same p q r s = cc
