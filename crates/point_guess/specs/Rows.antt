-- The working row by its indices, and what it is worked down to.
use Rattle.std.specs.Prelude.{◌≡◌, List, ℕ, ◌≤◌, ◌<◌, length, get_or, ℤ}
use Rattle.std.specs.Float.{nan}
use Rattle.doubles.specs.Doubles.{decode}
use Rattle.point_exact.specs.Directions.{Direction}
use Rattle.point_exact.specs.Sampled.{pyramid, offset_at, gap_at}
use Rattle.point_guess.specs.Steps.{Axis, on, Encodes}
use Rattle.point_guess.specs.declared.Place.{Place}

abbrev pub place_at : List Place → ℕ → Place
place_at row j = get_or row j (record { x = nan; y = nan; z = nan })

-- number j of a row, on an axis
abbrev pub axis_number : List Place → Axis → ℕ → ℤ
axis_number row k j = decode (on k (place_at row j))

-- a row of `count` places stands at the front, each of them whole numbers in range
pub record Encoded (row : List Place) (count : ℕ) : Type 0 where
  pub most : count ≤ length row
  pub each : (j : ℕ) → j < count → Encodes (place_at row j)

-- a place has the number f k on each axis k
pub record PlaceHolds (p : Place) (f : Axis → ℤ) : Type 0 where
  pub whole : Encodes p
  pub is : (k : Axis) → decode (on k p) ≡ f k

-- what a row comes to, by the rounded rule on each axis
abbrev pub Descended : Direction → (t : ℤ) → List Place → Place → Type 0
Descended d t row p = PlaceHolds p (λ k. pyramid (offset_at d t) (gap_at d t) d.degree (axis_number row k))
