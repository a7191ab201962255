-- Must be believed: a promise reaches every definition of this file.
-- Rows of digits, of which every form but the name is made.
use Rattle.std.specs.Prelude.{ℕ, ◌+◌, ◌-◌, ◌*◌, List, [], ◌∷◌, Bool, false, cond, ◌&&◌, length, leb, eqb}
use Rattle.lists.specs.Lists.{all}

abbrev pub is_digit : ℕ → Bool
is_digit b = leb 48 b && leb b 57

abbrev pub digits : List ℕ → Bool
digits l = all is_digit l

-- the number that a row of digits writes, after the digits of a
abbrev pub nat_of : ℕ → List ℕ → ℕ
nat_of a [] = a
nat_of a (b ∷ bs) = nat_of (a * 10 + (b - 48)) bs

-- 1 to k digits: "1 to 10 digits", "1 to 3 digits", "1 to 5 digits"
unfoldable pub is_whole : ℕ → List ℕ → Bool
is_whole k w = digits w && leb 1 (length w) && leb (length w) k

-- a minus at the front
abbrev pub negative : List ℕ → Bool
negative [] = false
negative (b ∷ bs) = eqb b 45

abbrev pub unminus : List ℕ → List ℕ
unminus [] = []
unminus (b ∷ bs) = cond (eqb b 45) bs (b ∷ bs)
