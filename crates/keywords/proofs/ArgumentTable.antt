-- The fixed words after a keyword: each claim is one computed test, carried over by a law of every table.
use Prim.Native.Nat.{ℕ, ◌≤◌, ◌<◌}
use mathlib.Core.Path.{◌≡◌, refl, sym}
use mathlib.Core.List.{List}
use mathlib.Core.Bool.{true, false}
use native.Mathlib.Omega.{arith}
use lib.ListN.{length}
use lib.Dec.{leb, eqb}
use Rattle.lists.proofs.Tests.{never}
use Rattle.spellings.specs.Rows.{row_of, spelling_at, Finds}
use Rattle.keywords.specs.Arguments.{sign_of, arguments, argument_of, argument_bytes}
use Rattle.keywords.specs.declared.Argument.{Argument}
use Rattle.keywords.specs.declared.Argument.TheVariants.{Rational, BasisMatrix, Bezier, Bspline, Cardinal, Taylor, DirectionU, DirectionV, Off, Other}
use Rattle.spellings.proofs.Spellings.{distinct, is_token, tokens, rows_with, finds-exactly, no-two}

pub all-distinct : distinct arguments ≡ true
unfolding arguments
all-distinct = refl

-- a word finds a row exactly when it is that row's spelling
pub finds : (w : List ℕ) → Finds arguments w (row_of arguments w)
finds = finds-exactly arguments all-distinct

-- no two rows share a spelling
pub apart : (i j : ℕ) → i < length arguments → j < length arguments → spelling_at arguments i ≡ spelling_at arguments j → i ≡ j
apart = no-two arguments all-distinct

-- every spelling is a word of a line
pub all-tokens : tokens arguments ≡ true
unfolding arguments
all-tokens = refl

-- each has one row, and there are no others
pub one-row : (k : Argument) → leb 65 (sign_of k) ≡ true → rows_with sign_of (sign_of k) arguments ≡ 1
unfolding arguments
one-row Rational h = refl
one-row BasisMatrix h = refl
one-row Bezier h = refl
one-row Bspline h = refl
one-row Cardinal h = refl
one-row Taylor h = refl
one-row DirectionU h = refl
one-row DirectionV h = refl
one-row Off h = refl
one-row Other h = never h

pub no-others : length arguments ≡ 9
unfolding arguments
no-others = refl

-- written and read back
pub spelled : (k : Argument) → argument_of (argument_bytes k) ≡ k
unfolding arguments argument_of argument_bytes
spelled Rational = refl
spelled BasisMatrix = refl
spelled Bezier = refl
spelled Bspline = refl
spelled Cardinal = refl
spelled Taylor = refl
spelled DirectionU = refl
spelled DirectionV = refl
spelled Off = refl
spelled Other = refl

-- what is written is a word of a line
pub token : (k : Argument) → eqb (sign_of k) 32 ≡ false → is_token (argument_bytes k) ≡ true
unfolding arguments argument_bytes
token Rational h = refl
token BasisMatrix h = refl
token Bezier h = refl
token Bspline h = refl
token Cardinal h = refl
token Taylor h = refl
token DirectionU h = refl
token DirectionV h = refl
token Off h = refl
token Other h = never (sym h)

-- room for ten bytes is enough
pub short : (k : Argument) → length (argument_bytes k) ≤ 10
unfolding arguments argument_bytes
short Rational = omega arith
short BasisMatrix = omega arith
short Bezier = omega arith
short Bspline = omega arith
short Cardinal = omega arith
short Taylor = omega arith
short DirectionU = omega arith
short DirectionV = omega arith
short Off = omega arith
short Other = omega arith
