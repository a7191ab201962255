-- What some words say, computed from the definitions: one for each rule that 01's starred cases (the crate cases) leave out. The program word_cases runs more.
use Prim.Native.Nat.{ℕ}
use Prim.Native.String.{String}
use mathlib.Core.Path.{◌≡◌, refl}
use mathlib.Core.Bool.{true, false}
use lib.ListN.{replicate}
use lib.IntN.{pos}
use Rattle.spellings.specs.Rows.{bytes}
use Rattle.keywords.specs.Arguments.{arguments, argument_bytes}
use Rattle.digits.specs.Said.{Said, says, wrong}
use Rattle.digits.specs.Digits.{is_whole}
use Rattle.digits.specs.Degree.{degree_of, smoothing_of, name_of}
use Rattle.decimals.specs.Number.{number_of, decimal, numerator, denominator, nearest}
use Rattle.references.specs.Reference.{is_reference, refer, reference_of}
use Rattle.references.specs.Corner.{Corner, Parts, corner_of}
use Rattle.references.specs.Written.{written_whole, written_millionths, written_corner}

abbrev corner : ℕ → ℕ → ℕ → Corner
corner v vt vn = record { v = v; vt = vt; vn = vn }

-- of 4 v, 3 vt and 2 vn, on a line of f or of l
abbrev corner_on : Parts → String → Said Corner
corner_on k w = corner_of (record { v = 4; vt = 3; vn = 2 }) k (bytes w)

abbrev f : Parts
f = record { vt = true; vn = true }

abbrev l : Parts
l = record { vt = true; vn = false }

examples :
    -- rounded once, whatever the exponent
    (number_of (bytes "49999999999999999999e-26") ≡ says (pos 0))
    -- at most three digits of an exponent
    × (number_of (bytes "1e1000") ≡ wrong 6)
    -- 65 bytes: the form comes before the range
    × (number_of (replicate 65 57) ≡ wrong 6)
    -- at most ten digits of a reference, and none is taken modulo 2^32
    × (reference_of 4 (bytes "00000000001") ≡ wrong 6)
    × (reference_of 4 (bytes "4294967297") ≡ wrong 8)
    × (corner_on f "1//2" ≡ says (corner 1 0 2))
    -- a corner's whole form comes before any of its references
    × (corner_on f "9/x" ≡ wrong 6)
    × (corner_on l "1//1" ≡ wrong 6)
    × (degree_of (bytes "21") ≡ wrong 7)
    × (smoothing_of (bytes "off") ≡ says 0)
    × (name_of (replicate 256 97) ≡ wrong 6)
    × (written_corner (corner 12 0 3) ≡ bytes "12//3")
unfolding number_of decimal numerator denominator nearest is_reference refer reference_of is_whole corner_of degree_of smoothing_of arguments argument_bytes name_of written_whole written_millionths
examples = (refl, refl, refl, refl, refl, refl, refl, refl, refl, refl, refl, refl)
