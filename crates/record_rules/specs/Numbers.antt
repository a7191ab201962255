-- Must be believed: a promise reaches every definition of this file.
-- 01, "Bytes, lines, words": what one number and a run of numbers of a lent table have to be.
use Rattle.std.specs.Prelude.{ℕ, zero, suc, ◌+◌, List, Bool, true, false, ◌&&◌, length, get_or, leb, eqb, ℤ, pos, negsuc, nat_abs}

-- "Beyond plus or minus 2,000,000,000 millionths after rounding: 7."
unfoldable pub in_range : ℤ → Bool
in_range z = leb (nat_abs z) 2000000000

-- two whole numbers are one
abbrev pub eq_z : ℤ → ℤ → Bool
eq_z (pos a) (pos b) = eqb a b
eq_z (pos a) (negsuc b) = false
eq_z (negsuc a) (pos b) = false
eq_z (negsuc a) (negsuc b) = eqb a b

-- the test holds at each index below n
abbrev pub all_below : ℕ → (ℕ → Bool) → Bool
all_below zero f = true
all_below (suc n) f = all_below n f && f n

-- the `count` numbers from entry `first` on are lent, and each is in range
unfoldable pub run_in_range : List ℤ → ℕ → ℕ → Bool
run_in_range l first count = leb (first + count) (length l) && all_below count (λ k. in_range (get_or l (first + k) (pos 0)))
