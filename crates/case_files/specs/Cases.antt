-- The numbers and lines of a file of cases.
use Rattle.std.specs.Prelude.{ℕ, ◌+◌, ◌*◌, ◌-◌, List, [], ◌∷◌, cond, leb, eqb, drop}
use Rattle.text.specs.declared.Parsed.{Parsed}

abbrev number : ℕ → ℕ → Parsed ℕ
number n p = record { value = n; next = p }

-- the digits from the place p on, after those that make n: they end at a byte that is none, or at one more than a value above 4,000,000,000 has; that byte is passed
abbrev pub number_from : ℕ → ℕ → List ℕ → Parsed ℕ
number_from n p [] = number n p
number_from n p (b ∷ bs) =
    cond (leb 48 b) (cond (leb b 57) (cond (leb n 4000000000) (number_from (n * 10 + (b - 48)) (p + 1) bs) (number n (p + 1))) (number n (p + 1))) (number n (p + 1))

-- the whole number at `at`, and the place after the blank behind it
abbrev pub case_number_at : List ℕ → ℕ → Parsed ℕ
case_number_at s at = number_from 0 at (drop at s)

-- where the line that the bytes from the place p on begin with ends: at its LF or with the bytes
abbrev pub end_from : ℕ → List ℕ → ℕ
end_from p [] = p
end_from p (b ∷ bs) = cond (eqb b 10) p (end_from (p + 1) bs)

abbrev pub case_line_end : List ℕ → ℕ → ℕ
case_line_end s at = end_from at (drop at s)
