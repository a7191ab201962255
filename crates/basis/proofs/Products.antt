-- Products of numbers of 32 bits fit 64: by the powers of two.
use Prim.Native.Nat.{ℕ, ◌*◌, ◌<◌, ◌≤◌}
use native.Mathlib.Nat.{mul-le-mul, lt_of_le_of_lt}
use native.Mathlib.Omega.{arith}
use mir.Syntax.{w64}
use mir.Val.{Fits}

pub product : (a b : ℕ) → a ≤ 4294967296 → b < 4294967296 → a * b ≤ 18446744069414584320
product a b h k =
    let x : a ≤ 4294967296 = h in
    let y : b ≤ 4294967295 = omega arith in
    mul-le-mul x y

pub product-fits : (a b : ℕ) → a ≤ 4294967296 → b < 4294967296 → Fits w64 (a * b)
product-fits a b h k = record { fits = lt_of_le_of_lt (product a b h k) (omega arith) }
