-- Must be believed: a promise reaches every definition of this file.
-- 01, "The tidy text": "References positive", "numbers with six places and no plus", "zero has no minus".
use Rattle.std.specs.Prelude.{ℕ, zero, suc, ◌+◌, ◌/◌, ◌%◌, List, [], ◌∷◌, ◌++◌, cond, ltb, ℤ, pos, negsuc}
use Rattle.references.specs.Corner.{Corner}

-- n in up to k digits with no zero before it; n in k digits
abbrev pub short : ℕ → ℕ → List ℕ
short zero n = []
short (suc k) n = cond (ltb n 10) ((n + 48) ∷ []) (short k (n / 10) ++ (n % 10 + 48) ∷ [])

abbrev pub full : ℕ → ℕ → List ℕ
full zero n = []
full (suc k) n = full k (n / 10) ++ (n % 10 + 48) ∷ []

-- a whole number below 10,000,000,000
unfoldable pub written_whole : ℕ → List ℕ
written_whole n = short 10 n

-- m millionths: the whole part, a point, six digits
unfoldable pub written_millionths : ℕ → List ℕ
written_millionths m = written_whole (m / 1000000) ++ 46 ∷ full 6 (m % 1000000)

abbrev pub written_number : ℤ → List ℕ
written_number (pos m) = written_millionths m
written_number (negsuc m) = 45 ∷ written_millionths (suc m)

-- v, v/vt, v//vn or v/vt/vn, by the parts that are there
abbrev pub slashed : List ℕ → ℕ → ℕ → List ℕ
slashed a zero zero = a
slashed a (suc t) zero = a ++ 47 ∷ written_whole (suc t)
slashed a zero (suc n) = a ++ 47 ∷ 47 ∷ written_whole (suc n)
slashed a (suc t) (suc n) = a ++ 47 ∷ (written_whole (suc t) ++ 47 ∷ written_whole (suc n))

abbrev pub written_corner : Corner → List ℕ
written_corner c = slashed (written_whole c.v) c.vt c.vn
