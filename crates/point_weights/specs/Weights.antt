-- Must be believed: a promise reaches every definition of this file.
-- 02, Q-14: the weights of a cubic Bezier segment in 64 steps, and a coordinate at one of them.
use Rattle.std.specs.Prelude.{ℕ, ◌+◌, ◌*◌, ◌-◌, ◌^◌, ℤ, pos, ◌+ℤ◌, ◌*ℤ◌}
use Rattle.rounding.specs.Round.{rounded}
use Rattle.point_exact.specs.Exact.{choose}

-- "one table of 65 rows of four, the entry i of row j being C(3,i) j^i (64-j)^(3-i)"
unfoldable pub weight : (j i : ℕ) → ℕ
weight j i = choose 3 i * j ^ i * (64 - j) ^ (3 - i)

-- four numbers by the weights of row j, "divided once, ties away from zero"; "each row sums to 262,144"
unfoldable pub weighed : (j : ℕ) (a b c d : ℤ) → ℤ
weighed j a b c d = rounded (a *ℤ pos (weight j 0) +ℤ b *ℤ pos (weight j 1) +ℤ c *ℤ pos (weight j 2) +ℤ d *ℤ pos (weight j 3)) 262144

-- one coordinate at j/64 of segment g, c being the controls' numbers on that axis: "segment g .. has controls gn to gn+n"
unfoldable pub cubic_sampled : (g j : ℕ) → (c : ℕ → ℤ) → ℤ
cubic_sampled g j c = weighed j (c (g * 3)) (c (g * 3 + 1)) (c (g * 3 + 2)) (c (g * 3 + 3))
