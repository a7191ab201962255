-- What a step makes of two places: on each axis the number between theirs.
use Rattle.std.specs.Prelude.{◌≡◌, false, List, ℕ, ◌≤◌, ◌<◌, eqb, ℤ, nat_abs, ◌-ℤ◌, Float}
use Rattle.rounding.specs.Round.{between}
use Rattle.rounding.specs.Range.{InRange}
use Rattle.doubles.specs.Doubles.{Encoding, decode, weight_of, blend}
use Rattle.point_exact.specs.Directions.{Direction}
use Rattle.point_exact.specs.Sampled.{low_at, high_at}
use Rattle.point_rows.specs.Places.{direction}
use Rattle.point_rows.specs.declared.BodyDirection.{BodyDirection}
use Rattle.point_guess.specs.declared.Interval.{Interval}
use Rattle.point_guess.specs.declared.Place.{Place}

pub data Axis : Type 0 where
  X Y Z : Axis

-- a place's number on an axis
abbrev pub on : Axis → Place → Float
on X p = p.x
on Y p = p.y
on Z p = p.z

-- a place keeps a whole number in range on each axis
abbrev pub Encodes : Place → Type 0
Encodes p = (k : Axis) → Encoding (on k p)

-- t lies from `low` to `high`, which differ
pub record InInterval (low high t : ℤ) : Type 0 where
  pub part : nat_abs (t -ℤ low) ≤ nat_abs (high -ℤ low)
  pub wide : 0 < nat_abs (high -ℤ low)
  pub low_small : InRange low
  pub high_small : InRange high
  pub here : InRange t

-- t lies in a interval, at its weight
pub record Fair (g : Interval) (t : ℤ) : Type 0 where
  pub within : InInterval g.low g.high t
  pub weight : g.part ≡ weight_of (nat_abs (t -ℤ g.low)) (nat_abs (g.high -ℤ g.low))

-- g is the interval of number j of the row of r + 1 numbers
pub record Parted (d : Direction) (t : ℤ) (r j : ℕ) (g : Interval) : Type 0 where
  pub low : g.low ≡ low_at d t r j
  pub high : g.high ≡ high_at d t r j
  pub fair : Fair g t

-- g is the one interval of a Bezier segment
abbrev pub First : (a : BodyDirection) (x : List ℤ) (t : ℤ) → Interval → Type 0
First a x t g = eqb a.basis 2 ≡ false → 0 < a.degree → Parted (direction a x) t 0 0 g

-- c keeps the number between those of a and b, at p parts of D
pub record EncodesBetween (a b : Float) (p D : ℕ) (c : Float) : Type 0 where
  pub whole : Encoding c
  pub is : decode c ≡ between (decode a) (decode b) p D

abbrev pub Blended : (a b : Place) (w e : Float) → Place → Type 0
Blended a b w e p = (k : Axis) → on k p ≡ blend (on k a) (on k b) w e

-- and so on each axis of a place
abbrev pub Next : (p D : ℕ) (a b c : Place) → Type 0
Next p D a b c = (k : Axis) → EncodesBetween (on k a) (on k b) p D (on k c)

abbrev pub Stepped : (a b : Place) → Interval → (t : ℤ) → Place → Type 0
Stepped a b g t p = Next (nat_abs (t -ℤ g.low)) (nat_abs (g.high -ℤ g.low)) a b p

-- p is the place that a step makes of a and b, wherever in the interval t lies
abbrev pub Makes : (a b : Place) → Interval → Place → Type 0
Makes a b g p = (t : ℤ) → Fair g t → Stepped a b g t p
