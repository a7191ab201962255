-- What the code computes on the way, from a place in the text to where its digits stop; the laws of proofs/ say that it comes to the forms of the word there.
use Rattle.std.specs.Prelude.{ℕ, ◌+◌, ◌-◌, ◌*◌, ◌/◌, ◌^◌, ◌≤◌, ◌≡◌, List, [], ◌∷◌, ◌++◌, Bool, true, false, cond, ◌&&◌, length, take, drop, leb, eqb, ℤ}
use Rattle.digits.specs.Said.{Said, says, wrong, must}
use Rattle.digits.specs.Digits.{digits, nat_of, is_whole, negative}
use Rattle.digits.specs.Straight.{first, run, cap}
use Rattle.decimals.specs.declared.exponent.Exponent.{Exponent}
use Rattle.decimals.specs.Number.{is_e, unsigned, mantissa, exponent, before, after, decimal, numerator, denominator, raised, lowered, limited}

-- ten-millionths, rounded down where a seventh decimal is not the last, and too large where the whole part is
unfoldable pub ten_millionths : List ℕ → ℕ
ten_millionths u = nat_of (cap (nat_of 0 (before u))) (take 7 (after u)) * 10 ^ (7 - length (after u))

unfoldable pub magnitude_of : List ℕ → Said ℕ
magnitude_of u = must (decimal u) 6 (says (ten_millionths u))

-- the same from the point on, after n whole digits whose number is a
unfoldable pub pointed : ℕ → ℕ → List ℕ → Said ℕ
pointed n a u = must (digits u && leb 1 (n + length u)) 6 (says (nat_of a (take 7 u) * 10 ^ (7 - length u)))

abbrev pub settle_of : Bool → ℕ → Said ℤ
settle_of minus t = limited minus ((t + 5) / 10)

-- ---- with an exponent
-- what stands after e or E: whether it is negative, and its number
unfoldable pub exponent_of : List ℕ → Said Exponent
exponent_of x = must (is_whole 3 (unsigned x)) 6 (says (record { minus = negative x; power = nat_of 0 (unsigned x) }))

abbrev pub has_exponent : List ℕ → Bool
has_exponent [] = false
has_exponent (e ∷ x) = is_whole 3 (unsigned x)

-- ten-millionths of a number that ends in an exponent, rounded down
unfoldable pub shifted : List ℕ → ℕ
shifted u = 10000000 * raised (exponent u) (numerator (mantissa u)) / lowered (exponent u) (denominator (mantissa u))

-- the same, no more than the cap
unfoldable pub scaled_of : List ℕ → Said ℕ
scaled_of u = must (decimal (mantissa u) && has_exponent (exponent u)) 6 (says (cap (shifted u)))

-- how many of the digits stand before the point, n of them before it moved by seven places and by the exponent k
abbrev pub places_of : Bool → ℕ → ℕ → ℕ
places_of minus n k = cond minus (n + 7 - k) (n + 7 + k)

-- the first q digits, zeros where they lack
abbrev pub taken_of : ℕ → List ℕ → ℕ
taken_of q d = nat_of 0 (take q d) * 10 ^ (q - length d)

-- where the digits of a mantissa at `at` stand: up to the point, and from after it to the end
pub record MantissaRead (s : List ℕ) (at point from end : ℕ) : Type 0 where
  pub point-is : point ≡ at + length (run (drop at s))
  pub from_is : from ≡ point + cond (eqb (first (drop point s)) 46) 1 0
  pub end_is : end ≡ from + length (run (drop from s))
  pub to : end ≤ length s

-- at most six decimals that were read straight ahead, e or E behind them, after `count` digits whose number is `whole`: their millionths
pub record DecimalsAhead (s : List ℕ) (at count whole m end : ℕ) : Type 0 where
  pub end_is : end ≡ at + length (run (drop at s))
  pub to : end ≤ length s
  pub few : length (run (drop at s)) ≤ 6
  pub some : 1 ≤ count + length (run (drop at s))
  pub value-is : 10 * m ≡ nat_of whole (run (drop at s)) * 10 ^ (7 - length (run (drop at s)))
  pub stops : is_e (first (drop end s)) ≡ true

-- the mantissa with them, of at most four digits before the point
pub record MantissaAhead (s : List ℕ) (at m end : ℕ) : Type 0 where
  pub point : ℕ
  pub from : ℕ
  pub read : MantissaRead s at point from end
  pub whole : length (run (drop at s)) ≤ 4
  pub few : length (run (drop from s)) ≤ 6
  pub some : 1 ≤ length (run (drop at s)) + length (run (drop from s))
  pub value-is : 10 * m ≡ nat_of 0 (run (drop at s) ++ run (drop from s)) * 10 ^ (7 - length (run (drop from s)))
  pub stops : is_e (first (drop end s)) ≡ true

-- ten-millionths t, the point moved by the exponent k
abbrev pub moved_of : Bool → ℕ → ℕ → ℕ
moved_of minus t k = cond minus (t / 10 ^ k) (t * 10 ^ k)

-- without an exponent or with one
abbrev pub first_said : Said ℕ → Said ℕ → Said ℕ
first_said (says m) x = says m
first_said (wrong n) x = x

abbrev pub size_of : List ℕ → Said ℕ
size_of u = first_said (magnitude_of u) (scaled_of u)
