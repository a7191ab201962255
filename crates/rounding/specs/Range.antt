-- The numbers that are rounded: their range.
use Rattle.std.specs.Prelude.{◌≤◌, ℤ, nat_abs}

-- at most 2,000,000,000 millionths on either side of zero, as every number of an accepted file is
abbrev pub InRange : ℤ → Type 0
InRange z = nat_abs z ≤ 2000000000
