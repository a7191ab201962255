-- Must be believed: a promise reaches every definition of this file.
-- 01, "Bodies": a curv2's range.
use Rattle.std.specs.Prelude.{ℕ, List, Bool, not, ◌&&◌, ◌||◌, ℤ}
use Rattle.std.specs.Int.Signed.{le_z}
use Rattle.tables.specs.Bodies.{Basis, low, high}

-- "A curv2's range is the widest allowed"
unfoldable pub widest : Bool → Basis → ℕ → List ℤ → ℤ → ℤ → Bool
widest curv2 t n x start end = not curv2 || le_z start (low t n x) && le_z (high t n x) end
