-- 01, "Bodies": what the rules ask of a direction, and that t lies in it.
use Rattle.std.specs.Prelude.{List, ◌≡◌, ℕ, suc, ◌+◌, ◌*◌, ◌-◌, ◌≤◌, ◌<◌, length, ℤ, ◌≤ℤ◌, ◌<ℤ◌}
use Rattle.point_exact.specs.Directions.{by, Direction, at}

-- "parm u or v, then 2 or more"; "n(p-1)+1" controls; "Parameters strictly increase and first ≤ start < end ≤ last."
pub record BezierRules (n k : ℕ) (x : List ℤ) (t : ℤ) : Type 0 where
  pub many : 2 ≤ length x
  pub count : k ≡ n * (length x - 1) + 1
  pub rising : (i : ℕ) → suc i < length x → at x i <ℤ at x (suc i)
  pub low : at x 0 ≤ℤ t
  pub high : t ≤ℤ at x (length x - 1)

-- "p-n-1, at least n+1" controls; "knots x0.. never decrease .. and x_n ≤ start < end ≤ x_k"
pub record SplineRules (n k : ℕ) (x : List ℤ) (t : ℤ) : Type 0 where
  pub enough : n + 1 ≤ k
  pub count : length x ≡ k + n + 1
  pub rising : (i : ℕ) → suc i < length x → at x i ≤ℤ at x (suc i)
  pub wide : at x n <ℤ at x k
  pub low : at x n ≤ℤ t
  pub high : t ≤ℤ at x k

unfoldable pub Rules : Direction → (t : ℤ) → Type 0
Rules d t = by d.basis (BezierRules d.degree d.controls d.parameters t) (SplineRules d.degree d.controls d.parameters t)
