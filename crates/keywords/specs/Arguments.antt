-- Must be believed: a promise reaches every definition of this file.
-- The words after a keyword that have a fixed spelling: cstype's rat and types, the directions of parm, smoothing's off, as 000 comes to them.
use Rattle.std.specs.Prelude.{ℕ, List, [], ◌∷◌, Bool, eqb}
use Rattle.spellings.specs.Rows.{Row, spells, row_of, kind_at, spelling_of}
use Rattle.keywords.specs.declared.Argument.{Argument}
use Rattle.keywords.specs.declared.Argument.TheVariants.{Rational, BasisMatrix, Bezier, Bspline, Cardinal, Taylor, DirectionU, DirectionV, Off, Other}

-- the letter that stands for it in the code's table; a blank is no row's
abbrev pub sign_of : Argument → ℕ
sign_of Rational = 65
sign_of BasisMatrix = 66
sign_of Bezier = 67
sign_of Bspline = 68
sign_of Cardinal = 69
sign_of Taylor = 70
sign_of DirectionU = 71
sign_of DirectionV = 72
sign_of Off = 73
sign_of Other = 32

-- each argument has its own sign
abbrev pub is_argument : Argument → Argument → Bool
is_argument a b = eqb (sign_of a) (sign_of b)

-- the form, and the types: "bezier, bspline, cardinal, taylor" are stored, "the type bmatrix" is refused; "parm u or v"; "Smoothing: off (0)"
unfoldable pub arguments : List (Row Argument)
arguments =
    spells "rat" Rational
    ∷ spells "bmatrix" BasisMatrix
    ∷ spells "bezier" Bezier
    ∷ spells "bspline" Bspline
    ∷ spells "cardinal" Cardinal
    ∷ spells "taylor" Taylor
    ∷ spells "u" DirectionU
    ∷ spells "v" DirectionV
    ∷ spells "off" Off
    ∷ []

unfoldable pub argument_of : List ℕ → Argument
argument_of w = kind_at Other arguments (row_of arguments w)

-- the bytes that an argument is written with
unfoldable pub argument_bytes : Argument → List ℕ
argument_bytes k = spelling_of sign_of arguments (sign_of k)
