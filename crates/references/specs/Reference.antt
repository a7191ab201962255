-- Must be believed: a promise reaches every definition of this file.
-- 01: "Reference: optional -, then 1 to 10 digits. k means the k-th of its kind so far; -k the k-th from the last. Zero or past either end: 8."
use Rattle.std.specs.Prelude.{ℕ, ◌+◌, ◌-◌, List, Bool, cond, ◌&&◌, leb}
use Rattle.digits.specs.Said.{Said, says, must}
use Rattle.digits.specs.Digits.{nat_of, is_whole, negative, unminus}

-- "optional -, then 1 to 10 digits"
unfoldable pub is_reference : List ℕ → Bool
is_reference w = is_whole 10 (unminus w)

-- "k means the k-th of its kind so far; -k the k-th from the last", counted from 1; 0 where there is none
abbrev pub item : Bool → ℕ → ℕ → ℕ
item back count k = cond (leb 1 k && leb k count) (cond back (count + 1 - k) k) 0

unfoldable pub refer : ℕ → List ℕ → ℕ
refer count w = item (negative w) count (nat_of 0 (unminus w))

-- "Zero or past either end: 8"
unfoldable pub reference_of : ℕ → List ℕ → Said ℕ
reference_of count w = must (is_reference w) 6 (must (leb 1 (refer count w)) 8 (says (refer count w)))
