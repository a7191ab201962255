-- Must be believed: a promise reaches every definition of this file.
-- 01, "Bytes, lines, words": what a byte of a text can be.
use Rattle.std.specs.Prelude.{ℕ, List, [], ◌∷◌, Bool, false, ◌&&◌, ◌||◌, not, leb, eqb}

-- "Blanks are 9 and 32."
abbrev pub is_blank : ℕ → Bool
is_blank b = eqb b 32 || eqb b 9

-- "Words hold bytes 33 to 126"; a backslash, 92, joins lines or is refused
abbrev pub is_word : ℕ → Bool
is_word b = leb 33 b && leb b 126 && not (eqb b 92)

-- LF at the front
abbrev pub lf : List ℕ → Bool
lf [] = false
lf (b ∷ bs) = eqb b 10

-- "A line ends at LF or CR LF": one of them at the front
abbrev pub line_end : List ℕ → Bool
line_end [] = false
line_end (b ∷ bs) = eqb b 10 || (eqb b 13 && lf bs)
