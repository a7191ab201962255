-- The keywords of 01: each claim is one computed test, carried over by a law of every table.
use Prim.Native.Nat.{ℕ, ◌+◌, ◌≤◌, ◌<◌}
use mathlib.Core.Path.{◌≡◌, refl}
use mathlib.Core.List.{List}
use mathlib.Core.Bool.{true}
use native.Mathlib.Omega.{arith}
use lib.ListN.{length}
use lib.Dec.{leb}
use Rattle.lists.proofs.Tests.{never}
use Rattle.spellings.specs.Rows.{row_of, spelling_at, Finds}
use Rattle.keywords.specs.Keywords.{letter_of, keywords, statement_of, keyword_of}
use Rattle.statements.specs.declared.VertexKind.TheVariants.{Geometric, Texture, Normal, Parametric}
use Rattle.statements.specs.declared.Shape.TheVariants.{Point, Line, Face}
use Rattle.statements.specs.declared.Free.TheVariants.{Curve, Curve2, Surface}
use Rattle.statements.specs.declared.Carried.TheVariants.{Vertex, Element, Body, Parameters, Trim, Hole, End, BodyType, Degree, Group, Smoothing, Material, PassedOver}
use Rattle.statements.specs.declared.Carried as carried
use Rattle.statements.specs.declared.Statement.{Statement}
use Rattle.statements.specs.declared.Statement.TheVariants.{Carried, Refused, Unknown}
use Rattle.spellings.proofs.Spellings.{distinct, is_token, tokens, rows_with, finds-exactly, no-two}

pub all-distinct : distinct keywords ≡ true
unfolding keywords
all-distinct = refl

-- a word finds a row exactly when it is that row's spelling
pub finds : (w : List ℕ) → Finds keywords w (row_of keywords w)
finds = finds-exactly keywords all-distinct

-- no two rows share a spelling
pub apart : (i j : ℕ) → i < length keywords → j < length keywords → spelling_at keywords i ≡ spelling_at keywords j → i ≡ j
apart = no-two keywords all-distinct

-- every spelling is a word of a line
pub all-tokens : tokens keywords ≡ true
unfolding keywords
all-tokens = refl

-- 01 has 19 keywords that are stored, 12 that are passed over and 13 that are refused: each stored statement has one row, and there are no others
pub one-row : (k : Statement) → leb 65 (letter_of k) ≡ true → rows_with letter_of (letter_of k) keywords ≡ 1
unfolding keywords
one-row (Carried (Vertex Geometric)) h = refl
one-row (Carried (Vertex Texture)) h = refl
one-row (Carried (Vertex Normal)) h = refl
one-row (Carried (Vertex Parametric)) h = refl
one-row (Carried BodyType) h = refl
one-row (Carried Degree) h = refl
one-row (Carried (Element Point)) h = refl
one-row (Carried (Element Line)) h = refl
one-row (Carried (Element Face)) h = refl
one-row (Carried (Body Curve)) h = refl
one-row (Carried (Body Curve2)) h = refl
one-row (Carried (Body Surface)) h = refl
one-row (Carried Parameters) h = refl
one-row (Carried Trim) h = refl
one-row (Carried Hole) h = refl
one-row (Carried End) h = refl
one-row (Carried Group) h = refl
one-row (Carried Smoothing) h = refl
one-row (Carried Material) h = refl
one-row (Carried PassedOver) h = never h
one-row Refused h = never h
one-row Unknown h = never h

pub passed_over : rows_with letter_of (letter_of (Carried PassedOver)) keywords ≡ 12
unfolding keywords
passed_over = refl

pub refused : rows_with letter_of (letter_of Refused) keywords ≡ 13
unfolding keywords
refused = refl

pub no-others : length keywords ≡ 19 + 12 + 13
unfolding keywords
no-others = refl

-- written and read back
pub spelled : (k : carried.Carried) → statement_of (keyword_of k) ≡ Carried k
unfolding keywords statement_of keyword_of
spelled (Vertex Geometric) = refl
spelled (Vertex Texture) = refl
spelled (Vertex Normal) = refl
spelled (Vertex Parametric) = refl
spelled BodyType = refl
spelled Degree = refl
spelled (Element Point) = refl
spelled (Element Line) = refl
spelled (Element Face) = refl
spelled (Body Curve) = refl
spelled (Body Curve2) = refl
spelled (Body Surface) = refl
spelled Parameters = refl
spelled Trim = refl
spelled Hole = refl
spelled End = refl
spelled Group = refl
spelled Smoothing = refl
spelled Material = refl
spelled PassedOver = refl

-- what is written is a word of a line
pub token : (k : carried.Carried) → is_token (keyword_of k) ≡ true
unfolding keywords keyword_of
token (Vertex Geometric) = refl
token (Vertex Texture) = refl
token (Vertex Normal) = refl
token (Vertex Parametric) = refl
token BodyType = refl
token Degree = refl
token (Element Point) = refl
token (Element Line) = refl
token (Element Face) = refl
token (Body Curve) = refl
token (Body Curve2) = refl
token (Body Surface) = refl
token Parameters = refl
token Trim = refl
token Hole = refl
token End = refl
token Group = refl
token Smoothing = refl
token Material = refl
token PassedOver = refl

-- room for ten bytes is enough
pub short : (k : carried.Carried) → length (keyword_of k) ≤ 10
unfolding keywords keyword_of
short (Vertex Geometric) = omega arith
short (Vertex Texture) = omega arith
short (Vertex Normal) = omega arith
short (Vertex Parametric) = omega arith
short BodyType = omega arith
short Degree = omega arith
short (Element Point) = omega arith
short (Element Line) = omega arith
short (Element Face) = omega arith
short (Body Curve) = omega arith
short (Body Curve2) = omega arith
short (Body Surface) = omega arith
short Parameters = omega arith
short Trim = omega arith
short Hole = omega arith
short End = omega arith
short Group = omega arith
short Smoothing = omega arith
short Material = omega arith
short PassedOver = omega arith
