-- What the code computes on the way, from a place in the text to where its digits stop; the laws of proofs/ say that it comes to the forms of the word there.
use Rattle.std.specs.Prelude.{ℕ, ◌+◌, ◌-◌, ◌≤◌, min, ◌≡◌, List, [], ◌∷◌, Bool, true, false, cond, length, take, drop, leb}
use Rattle.digits.specs.Said.{Said, says, must}
use Rattle.digits.specs.Digits.{is_digit, nat_of, is_whole}

-- the byte at the front; past the end of the text LF, which ends a word too
abbrev pub first : List ℕ → ℕ
first [] = 10
first (b ∷ bs) = b

-- nothing is left
abbrev pub is_empty : List ℕ → Bool
is_empty [] = true
is_empty (b ∷ bs) = false

-- a digit's number, above 9 for every other byte: the byte less 48, in eight bits
abbrev pub digit_of : ℕ → ℕ
digit_of b = cond (leb 48 b) (b - 48) (b + 208)

-- the digits at the front, and what follows them
abbrev pub run : List ℕ → List ℕ
run [] = []
run (b ∷ bs) = cond (is_digit b) (b ∷ run bs) []

abbrev pub past : List ℕ → List ℕ
past l = drop (length (run l)) l

-- no more than what is out of range as a number and past the end as a reference
abbrev pub cap : ℕ → ℕ
cap n = min 20000000005 n

-- the digits of s from `at` on: where they end, and their number
pub record WholeRead (s : List ℕ) (at end value : ℕ) : Type 0 where
  pub to : end ≤ length s
  pub end_is : end ≡ at + length (run (drop at s))
  pub value-is : value ≡ cap (nat_of 0 (run (drop at s)))

-- the first `most` of the digits of s from `at` on, after the digits of a
pub record UptoRead (most : ℕ) (s : List ℕ) (at a end value : ℕ) : Type 0 where
  pub to : end ≤ length s
  pub end_is : end ≡ at + length (take most (run (drop at s)))
  pub value-is : value ≡ nat_of a (take most (run (drop at s)))

-- 1 to k digits
unfoldable pub whole_of : ℕ → List ℕ → Said ℕ
whole_of k w = must (is_whole k w) 6 (says (nat_of 0 w))

-- the bytes at the front that pass the test
abbrev pub front : (ℕ → Bool) → List ℕ → List ℕ
front f [] = []
front f (b ∷ bs) = cond (f b) (b ∷ front f bs) []
