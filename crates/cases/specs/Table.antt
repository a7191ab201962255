-- 01, "Cases at the edges": the rows marked *, in its order, as one table; and what it is that a row claims. `1e3` and `1e4` follow 02, Q-2: "The case
-- 1e3 now reads as 1000.000000; 1e4 is 7."
use Rattle.std.specs.Prelude.{ℕ, ◌*◌, List, [], ◌∷◌, Bool, true, false, ◌&&◌, eqb, length, ℤ, pos, negsuc, ◌-ℤ◌}
use Prim.Native.String.{String}
use Rattle.spellings.specs.Rows.{bytes}
use Rattle.digits.specs.Said.{Said, says, wrong}
use Rattle.decimals.specs.Number.{number_of}
use Rattle.references.specs.Reference.{reference_of}
use Rattle.model.specs.Room.{Rooms}
use Rattle.model.specs.Read.{Answer, read, refused, read_of}
use Rattle.point_exact.specs.Directions.{PointBasis, bezier, bspline, at}
use Rattle.point_exact.specs.Sampled.{curve_sampled}

pub data Case : Type 0 where
  -- the word is a number of so many millionths, or is refused
  number : String → Said ℤ → Case
  -- of so many vertices the word means that one, or is refused
  reference : ℕ → String → Said ℕ → Case
  -- the file is refused with that number at that place
  refuses : String → ℕ → ℕ → Case
  -- the file is read
  reads : String → Case
  -- the curve with these parameters and controls has that point at t
  curve : PointBasis → ℕ → List ℤ → List ℤ → ℤ → ℤ → Case

abbrev pub same_int : ℤ → ℤ → Bool
same_int (pos a) (pos b) = eqb a b
same_int (pos a) (negsuc b) = false
same_int (negsuc a) (pos b) = false
same_int (negsuc a) (negsuc b) = eqb a b

abbrev pub same_said : {A : Type 0} → (A → A → Bool) → Said A → Said A → Bool
same_said f (says a) (says b) = f a b
same_said f (says a) (wrong n) = false
same_said f (wrong n) (says b) = false
same_said f (wrong n) (wrong m) = eqb n m

abbrev pub is_read : Answer → Bool
is_read (read m) = true
is_read (refused n p) = false

abbrev pub is_refused : Answer → ℕ → ℕ → Bool
is_refused (read m) n p = false
is_refused (refused i q) n p = eqb i n && eqb q p

-- tables with room for a hundred numbers each
abbrev pub roomy : Rooms
roomy = record { vertices = record { v = 100; vt = 100; vn = 100; vp = 100 }; elements = record { corners = 100; elements = 100 }; bodies = record { bodies = 100; ranges = 100; parameters = 100; loops = 100; spans = 100 } }

abbrev pub holds : Case → Bool
holds (number w a) = same_said same_int (number_of (bytes w)) a
holds (reference n w a) = same_said eqb (reference_of n (bytes w)) a
holds (refuses t n p) = is_refused (read_of roomy (bytes t)) n p
holds (reads t) = is_read (read_of roomy (bytes t))
holds (curve b n x c t y) = same_int (curve_sampled (record { basis = b; degree = n; controls = length c; parameters = x }) t (at c)) y

abbrev pub minus : ℕ → ℤ
minus n = pos 0 -ℤ pos n

abbrev pub units : ℕ → ℤ
units n = pos (n * 1000000)

unfoldable pub table : List Case
table =
    number "0.0000005" (says (pos 1))
    ∷ number "-0.0000005" (says (minus 1))
    ∷ number "0.0000004999" (says (pos 0))
    ∷ number "-0" (says (pos 0))
    ∷ number "2000.0000004" (says (pos 2000000000))
    ∷ number "2000.0000005" (wrong 7)
    ∷ number "." (wrong 6)
    ∷ number "1e3" (says (pos 1000000000))
    ∷ number "1e4" (wrong 7)
    ∷ reference 4 "-4" (says 1)
    ∷ reference 4 "-5" (wrong 8)
    ∷ refuses "v 0 0 0\nf 1 1 2\n" 8 14
    ∷ reads "v 0 0 0\nf 1 1 1\n"
    ∷ curve bezier 1 (pos 0 ∷ units 1 ∷ []) (pos 0 ∷ pos 1 ∷ []) (pos 500000) (pos 1)
    ∷ curve bezier 1 (pos 0 ∷ units 1 ∷ []) (pos 0 ∷ minus 1 ∷ []) (pos 500000) (minus 1)
    ∷ curve bezier 3 (pos 0 ∷ units 1 ∷ []) (units 0 ∷ units 1 ∷ units 2 ∷ units 3 ∷ []) (pos 500000) (pos 1500000)
    ∷ curve bspline 3 (minus 3000000 ∷ minus 2000000 ∷ minus 1000000 ∷ units 0 ∷ units 1 ∷ units 2 ∷ units 3 ∷ units 4 ∷ []) (units 0 ∷ units 6 ∷ units 0 ∷ units 0 ∷ []) (units 0) (units 4)
    ∷ []
