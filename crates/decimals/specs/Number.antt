-- Must be believed: a promise reaches every definition of this file.
-- 01: "Number: optional + or -, digits with at most one point, at least one digit, at most 64 bytes. Its exact decimal value is rounded once to the
-- nearest millionth, ties away from zero. Beyond plus or minus 2,000,000,000 millionths after rounding: 7." In place of 01's "No exponent (house rule)",
-- 02, Q-2: "A number may end in e or E, an optional sign and one to three digits. The value is still the exact decimal, rounded once."
use Rattle.std.specs.Prelude.{ℕ, ◌+◌, ◌*◌, ◌^◌, List, [], ◌∷◌, ◌++◌, Bool, true, cond, ◌&&◌, ◌||◌, length, leb, eqb, ℤ}
use Rattle.lists.specs.Signs.{with_sign}
use Rattle.rounding.specs.Round as round
use Rattle.digits.specs.Said.{Said, says, must}
use Rattle.digits.specs.Digits.{digits, nat_of, is_whole, negative}

-- "optional + or -"
abbrev pub is_sign : ℕ → Bool
is_sign b = eqb b 43 || eqb b 45

abbrev pub unsigned : List ℕ → List ℕ
unsigned [] = []
unsigned (b ∷ bs) = cond (is_sign b) bs (b ∷ bs)

-- "e or E"
abbrev pub is_e : ℕ → Bool
is_e b = eqb b 101 || eqb b 69

-- what stands before the first e or E, all where there is none; what stands from it on, nothing where there is none
abbrev pub mantissa : List ℕ → List ℕ
mantissa [] = []
mantissa (b ∷ bs) = cond (is_e b) [] (b ∷ mantissa bs)

abbrev pub exponent : List ℕ → List ℕ
exponent [] = []
exponent (b ∷ bs) = cond (is_e b) (b ∷ bs) (exponent bs)

-- "A number may end in e or E, an optional sign and one to three digits"
abbrev pub is_exponent : List ℕ → Bool
is_exponent [] = true
is_exponent (e ∷ x) = is_whole 3 (unsigned x)

-- what stands before the first point, all where there is none; what stands after it, nothing where there is none
abbrev pub before : List ℕ → List ℕ
before [] = []
before (b ∷ bs) = cond (eqb b 46) [] (b ∷ before bs)

abbrev pub after : List ℕ → List ℕ
after [] = []
after (b ∷ bs) = cond (eqb b 46) bs (after bs)

-- "digits with at most one point, at least one digit"
unfoldable pub decimal : List ℕ → Bool
decimal u = digits (before u) && digits (after u) && leb 1 (length (before u) + length (after u))

-- the exact decimal value of a mantissa u is numerator u / denominator u
unfoldable pub numerator : List ℕ → ℕ
numerator u = nat_of 0 (before u ++ after u)

unfoldable pub denominator : List ℕ → ℕ
denominator u = 10 ^ length (after u)

-- "The value is still the exact decimal": n / d times 10 ^ x, the power standing below the line where x is negative
abbrev pub raised : List ℕ → ℕ → ℕ
raised [] n = n
raised (e ∷ x) n = cond (negative x) n (n * 10 ^ nat_of 0 (unsigned x))

abbrev pub lowered : List ℕ → ℕ → ℕ
lowered [] d = d
lowered (e ∷ x) d = cond (negative x) (d * 10 ^ nat_of 0 (unsigned x)) d

-- "rounded once to the nearest millionth, ties away from zero": the millionths of n / d, the sign apart
unfoldable pub nearest : ℕ → ℕ → ℕ
nearest n d = round.nearest (1000000 * n) d

-- "Beyond plus or minus 2,000,000,000 millionths after rounding: 7"
abbrev pub limited : Bool → ℕ → Said ℤ
limited minus m = must (leb m 2000000000) 7 (says (with_sign minus m))

-- the exact value of a number without its sign, rounded
abbrev pub value_of : List ℕ → ℕ
value_of u = nearest (raised (exponent u) (numerator (mantissa u))) (lowered (exponent u) (denominator (mantissa u)))

unfoldable pub number_of : List ℕ → Said ℤ
number_of w =
    must (leb (length w) 64 && (decimal (mantissa (unsigned w)) && is_exponent (exponent (unsigned w)))) 6
    (limited (negative w) (value_of (unsigned w)))
