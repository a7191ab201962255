-- What is asked of a direction and a parameter, and how the segment or span that holds it is found.
use Rattle.std.specs.Prelude.{Bool, true, List, ◌≡◌, ℕ, ◌+◌, ◌-◌, ◌≤◌, ◌<◌, eqb, length, ℤ}
use Rattle.std.specs.Int.Signed.{le_z}
use Rattle.rounding.specs.Range.{InRange}
use Rattle.point_exact.specs.Directions.{by, Direction, at, last_where, starts, chosen}
use Rattle.point_exact.specs.Rules.{Rules}
use Rattle.point_rows.specs.declared.BodyDirection.{BodyDirection}
use Rattle.point_rows.specs.Places.{direction}

-- a degree n and p parameters of a direction that obeys the rules, of either type
pub record Sized (type n p : ℕ) : Type 0 where
  pub few : n ≤ 20
  pub many : 2 ≤ p
  pub knots : eqb type 2 ≡ true → n + 1 ≤ p

-- t lies in a direction that obeys the rules, and every number is small
pub record Sound (a : BodyDirection) (x : List ℤ) (t : ℤ) : Type 0 where
  pub rules : Rules (direction a x) t
  pub few : a.degree ≤ 20
  pub small : (i : ℕ) → i < length x → InRange (at x i)
  pub here : InRange t

-- and g is the segment or span chosen for t
pub record On (a : BodyDirection) (x : List ℤ) (t : ℤ) (g : ℕ) : Type 0 where
  pub sound : Sound a x t
  pub is : g ≡ chosen (direction a x) t

-- segment or span i may be the chosen one: the last below `limit` that passes is
abbrev pub passes : Direction → (t : ℤ) → ℕ → Bool
passes d t i = by d.basis (le_z (at d.parameters i) t) (starts (at d.parameters) d.degree t i)

abbrev pub limit : Direction → ℕ
limit d = by d.basis (length d.parameters - 1) d.controls

-- where the search begins: no span before x_n is chosen
abbrev pub lead : Direction → ℕ
lead d = by d.basis 0 d.degree

-- g is the last that passes below i, and the search goes on at i
pub record Hint (a : BodyDirection) (x : List ℤ) (t : ℤ) (g i : ℕ) : Type 0 where
  pub last : g ≡ last_where (passes (direction a x) t) i
  pub from : lead (direction a x) ≤ i
  pub upto : i ≤ limit (direction a x)
