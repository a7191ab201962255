-- A signed number as it is handed on, or read from a lent table, is itself, by its bits.
use Prim.Native.Nat.{◌^◌, ◌<◌}
use mathlib.Core.Path.{◌≡◌, ◌∙◌}
use lib.IntN.{ℤ}
use lib.Signed.{mag}
use mir.Syntax.{w32}
use mir.Val.{to_z, of_z}
use mir.Facts.{to_z-of_z}

pub fitted : {z : ℤ} → mag z < 2147483648 → to_z w32 (of_z w32 z) ≡ z
fitted {z} h = to_z-of_z {w = w32} (record { sfits = h })

pub passed : {z z' : ℤ} → mag z < 2 ^ 31 → z ≡ z' → to_z w32 (of_z w32 z) ≡ z'
passed h e = fitted h ∙ e
