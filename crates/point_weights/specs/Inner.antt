-- What the functions promise: each coordinate from the parts that are lent, and the rows of the table of weights.
use Rattle.std.specs.Prelude.{◌≡◌, Bool, true, ◌&&◌, List, [], ◌∷◌, ℕ, suc, length, ℤ}
use Rattle.lists.specs.Lists.{same}
use Rattle.point_rows.specs.Controls.{control_at}
use Rattle.point_weights.specs.Weights.{cubic_sampled, weight}

-- one coordinate, from number `entry` of each vertex that is named
abbrev pub axis_by : List ℤ → List ℕ → (first g j entry : ℕ) → ℤ
axis_by values corners first g j entry = cubic_sampled g j (control_at values corners first entry)

-- row j of the table of weights
abbrev pub weight_row : (j : ℕ) → List ℕ
weight_row j = weight j 0 ∷ weight j 1 ∷ weight j 2 ∷ weight j 3 ∷ []

-- the table's rule as one test of all its numbers; its first row is row j
abbrev pub ruled : (j : ℕ) → List (List ℕ) → Bool
ruled j [] = true
ruled j (r ∷ rows) = same r (weight_row j) && ruled (suc j) rows

pub record Ruled (table : List (List ℕ)) : Type 0 where
  pub long : length table ≡ 65
  pub each : ruled 0 table ≡ true
