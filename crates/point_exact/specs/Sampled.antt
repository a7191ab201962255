-- Must be believed: a promise reaches every definition of this file.
-- 01, "How a point is made": the rounded rule, by which a point is handed out. Every number is `between` two others, rounded at each step.
use Rattle.std.specs.Prelude.{ℕ, zero, suc, ◌+◌, ◌*◌, ◌-◌, ℤ, nat_abs, ◌-ℤ◌}
use Rattle.rounding.specs.Round.{between}
use Rattle.point_exact.specs.Directions.{Direction, by, at, chosen}

-- de Casteljau and de Boor, from n + 1 numbers to one: of a row of r + 2 numbers comes one of r + 1, whose number j lies between numbers j and j + 1,
-- at `part r j` parts of `gap r j`
unfoldable pub pyramid : (part gap : ℕ → ℕ → ℕ) → ℕ → (ℕ → ℤ) → ℤ
pyramid part gap zero c = c 0
pyramid part gap (suc r) c = pyramid part gap r (λ j. between (c j) (c (suc j)) (part r j) (gap r j))

-- the parameters from which to which number j of the row of r + 1 numbers goes: of a Bezier those of the segment; of a B-spline in span k, x_(k+j-r) and x_(k+j+1)
unfoldable pub low_at : Direction → (t : ℤ) → ℕ → ℕ → ℤ
low_at d t r j = by d.basis (at d.parameters (chosen d t)) (at d.parameters (chosen d t + j - r))

unfoldable pub high_at : Direction → (t : ℤ) → ℕ → ℕ → ℤ
high_at d t r j = by d.basis (at d.parameters (suc (chosen d t))) (at d.parameters (suc (chosen d t + j)))

unfoldable pub offset_at : Direction → (t : ℤ) → ℕ → ℕ → ℕ
offset_at d t r j = nat_abs (t -ℤ low_at d t r j)

unfoldable pub gap_at : Direction → (t : ℤ) → ℕ → ℕ → ℕ
gap_at d t r j = nat_abs (high_at d t r j -ℤ low_at d t r j)

-- the first of the n + 1 controls that the point is made from: gn in segment g, and k - n in span k
unfoldable pub first_control : Direction → (t : ℤ) → ℕ
first_control d t = by d.basis (chosen d t * d.degree) (chosen d t - d.degree)

-- "Bezier: de Casteljau in the last segment whose start is ≤ t. B-spline: de Boor in the last non-empty span from x_n to x_k whose start is ≤ t"
unfoldable pub curve_sampled : Direction → (t : ℤ) → (ℕ → ℤ) → ℤ
curve_sampled d t c = pyramid (offset_at d t) (gap_at d t) d.degree (λ j. c (first_control d t + j))

-- "Surfaces: u first along each row, then v."
unfoldable pub surface_sampled : (u v : Direction) (s t : ℤ) → (ℕ → ℕ → ℤ) → ℤ
surface_sampled u v s t c = curve_sampled v t (λ j. curve_sampled u s (λ i. c i j))
