-- Must be believed: a promise reaches every definition of this file.
-- 01, "How a point is made": the one rounding rule.
use Rattle.std.specs.Prelude.{ℕ, suc, ◌+◌, ◌-◌, ◌*◌, ◌/◌, ℤ, pos, negsuc, neg_ℤ, ◌+ℤ◌, ◌*ℤ◌}

-- the nearest whole number of m / d, a half going up: the whole part of m / d + 1 / 2
abbrev pub nearest : ℕ → ℕ → ℕ
nearest m d = (2 * m + d) / (2 * d)

-- "to the nearest whole number, ties away from zero": z / d, by the size of z
unfoldable pub rounded : ℤ → ℕ → ℤ
rounded (pos m) d = pos (nearest m d)
rounded (negsuc m) d = neg_ℤ (pos (nearest (suc m) d))

-- "Between two values a and b at p parts of D: (a(D-p) + bp)/D, to the nearest whole number, ties away from zero."
unfoldable pub between : (a b : ℤ) (p D : ℕ) → ℤ
between a b p D = rounded (a *ℤ pos (D - p) +ℤ b *ℤ pos p) D
