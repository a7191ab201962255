-- Each of the three is the callee's.
use mathlib.Core.Path.{◌≡◌}
use native.Mathlib.Omega.{arith}
use lib.IntN.{ℤ}
use mir.Syntax.{w32}
use mir.Val.{to_z, of_z}
use Rattle.rounding.specs.Range.{InRange}
use Rattle.rounding.proofs.Bits.{read-back-small}
use Rattle.point_weights.proofs.control.Goals as goal

-- a number that was read, as its bits say it
read : {y u : ℤ} → (y ≡ u) × InRange y → let z = to_z w32 (of_z w32 y) in (z ≡ u) × InRange z
read {y} h = rw (read-back-small y h.1) h

pub control-requires : goal.control-requires
control-requires c = (c.requires.0, omega (arith, c.requires.1))

pub control-requires-2 : goal.control-requires-2
control-requires-2 c = (c.requires.0, omega (arith, c.requires.1))

pub control-requires-3 : goal.control-requires-3
control-requires-3 c = (c.requires.0, omega (arith, c.requires.1))

pub returns : goal.returns
returns c =
    let x = read c.control.ensures in
    let y = read c.control-2.ensures in
    let z = read c.control-3.ensures in
    record { x-is = x.0; y-is = y.0; z-is = z.0; x-small = x.1; y-small = y.1; z-small = z.1 }
