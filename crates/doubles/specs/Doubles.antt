-- Whole numbers as doubles, and the steps by which the number between two of them is guessed.
use Rattle.std.specs.Prelude.{◌≡◌, Bool, true, false, ℕ, ℤ, pos, negsuc, ◌+ℤ◌, Float}
use Rattle.std.specs.Float.{fin, binary64}
use Rattle.std.specs.Float.Ieee.{add, sub, mul, div, eq, of_int, to_signed}
use Rattle.rounding.specs.Range.{InRange}

-- 2^52 + 2^51: doubles from 2^52 to 2^53 lie 1 apart, so a sum that ends there is rounded to a whole number
abbrev pub anchor : ℕ
anchor = 6755399441055744

-- a whole number of millionths, as a double
unfoldable pub encode : ℤ → Float
encode z = of_int binary64 (pos anchor +ℤ z)

-- and back
unfoldable pub decode : Float → ℤ
decode a = to_signed 31 (sub binary64 a (of_int binary64 (pos anchor)))

-- a double keeps a whole number in range
pub record Encoding (a : Float) : Type 0 where
  pub number : ℤ
  pub small : InRange number
  pub same : a ≡ encode number

-- p / d, rounded to a double
unfoldable pub weight_of : ℕ → ℕ → Float
weight_of p d = div binary64 (of_int binary64 (pos p)) (of_int binary64 (pos d))

-- from a towards b by the weight w, and e further
unfoldable pub blend : (a b w e : Float) → Float
blend a b w e = add binary64 a (add binary64 (mul binary64 (sub binary64 b a) w) e)

-- 2^-16 to either side: far more than the doubles' errors add up to, and little beside 1 / 2
abbrev pub above : Float
above = fin false 1 (negsuc 15)

abbrev pub below : Float
below = fin true 1 (negsuc 15)

-- both lean to the same whole number
abbrev pub certain : (a b w : Float) → Bool
certain a b w = eq (blend a b w above) (blend a b w below)
