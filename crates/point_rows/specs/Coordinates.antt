-- What the three numbers of a vertex or of a point are.
use Rattle.std.specs.Prelude.{◌≡◌, ℤ}
use Rattle.rounding.specs.Range.{InRange}
use Rattle.point_rows.specs.declared.Coordinates.{Coordinates}

-- three numbers, each of them in range
pub record HasCoordinates (p : Coordinates) (x y z : ℤ) : Type 0 where
  pub x-is : p.x ≡ x
  pub y-is : p.y ≡ y
  pub z-is : p.z ≡ z
  pub x-small : InRange p.x
  pub y-small : InRange p.y
  pub z-small : InRange p.z
