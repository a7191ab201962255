-- Must be believed: a promise reaches every definition of this file.
-- What is relied on of the middle.
use Rattle.std.specs.Prelude.{ℤ, pos, ◌+ℤ◌, ◌*ℤ◌, ◌≤ℤ◌, ◌<ℤ◌}
use Rattle.point_chords.specs.Chords.{middle}

-- "the middle, rounded down", whatever the two numbers
pub record Floored (a b m : ℤ) : Type 0 where
  pub most : (pos 2 *ℤ m) ≤ℤ (a +ℤ b)
  pub least : (a +ℤ b) <ℤ (pos 2 *ℤ m +ℤ pos 2)

abbrev pub MiddleFloored : Type 0
MiddleFloored = (a b : ℤ) → Floored a b (middle a b)
