-- Must be believed: a promise reaches every definition of this file.
-- 02, Q-14: what the weights of a row come to.
use Rattle.std.specs.Prelude.{◌≡◌, ℕ, ◌+◌, ◌*◌, ◌≤◌, ℤ}
use Rattle.point_weights.specs.Weights.{weight, cubic_sampled}

-- "so each row sums to 262,144"
abbrev pub RowSums : Type 0
RowSums = (j : ℕ) → j ≤ 64 → weight j 0 + weight j 1 + weight j 2 + weight j 3 ≡ 262144

-- the ends of a segment are its first and its last control, so that j = 64 of a segment and j = 0 of the next are one point
abbrev pub SegmentEnds : Type 0
SegmentEnds = (g : ℕ) (c : ℕ → ℤ) → (cubic_sampled g 0 c ≡ c (g * 3)) × (cubic_sampled g 64 c ≡ c (g * 3 + 3))
