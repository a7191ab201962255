-- A type's number names it.
use mathlib.Core.Path.{◌≡◌, refl}
use Rattle.tables.specs.Bodies.{Basis, bezier, bspline, cardinal, taylor, basis_number, basis_of}

pub basis-back : (t : Basis) → basis_of (basis_number t) ≡ t
basis-back bezier = refl
basis-back bspline = refl
basis-back cardinal = refl
basis-back taylor = refl
