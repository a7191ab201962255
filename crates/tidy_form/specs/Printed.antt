-- Must be believed: a promise reaches every definition of this file.
-- 01, "The tidy text": the words of each statement's line, and the text. "One space between words, LF after each line".
use Rattle.std.specs.Prelude.{ℕ, zero, suc, List, [], ◌∷◌, ◌++◌, map, Bool, true, false, cond, eqb, get_or, take, ℤ, pos, negsuc, nat_abs}
use Rattle.lists.specs.Lists.{flat}
use Rattle.text.specs.Written.{bytes_of, written_lines}
use Rattle.references.specs.Written.{written_whole, written_number, written_corner}
use Rattle.keywords.specs.Keywords.{keyword_of}
use Rattle.keywords.specs.Arguments.{argument_bytes}
use Rattle.keywords.specs.declared.Argument.{Argument}
use Rattle.keywords.specs.declared.Argument.TheVariants.{Rational, Bezier, Bspline, Cardinal, Taylor, DirectionU, DirectionV}
use Rattle.statements.specs.declared.Carried.{Carried as Keyword}
use Rattle.statements.specs.declared.Carried.TheVariants.{Vertex, Element, Body as BodyOf, Parameters, Trim, Hole, End, BodyType, Degree, Group, Smoothing, Material, PassedOver}
use Rattle.tables.specs.Bodies.{Basis, bezier, bspline, cardinal, taylor}
use Rattle.model.specs.Model.{VertexKind, geometric, texture, normal, parametric, Free, curve, curve2, surface, ParmDirection, along-u, along-v, Part, Body, Model}
use Rattle.model.specs.Statements.{Statement, vertex, element, group, smoothing, material, type, degree, body, parameters, loop, end, passed}
use Rattle.tidy_form.specs.declared.Weights.{Weights}
use Rattle.tidy_form.specs.declared.Weights.TheVariants.{WhenNeeded, Always}
use Rattle.tidy_form.specs.Tidied.{tidied}

-- ---- the keyword
abbrev pub loop_keyword : Bool → Keyword
loop_keyword false = Trim
loop_keyword true = Hole

abbrev pub keyword_in : Statement → Keyword
keyword_in (vertex k z) = Vertex k
keyword_in (element k cs) = Element k
keyword_in (group ws) = Group
keyword_in (smoothing n) = Smoothing
keyword_in (material w) = Material
keyword_in (type r t) = BodyType
keyword_in (degree m n) = Degree
keyword_in (body b cs) = BodyOf b.free
keyword_in (parameters d z) = Parameters
keyword_in (loop l) = loop_keyword l.hole
keyword_in end = End
keyword_in passed = PassedOver

-- ---- the words after it

-- 1.000000: exactly 1,000,000 millionths
abbrev pub is_one : ℤ → Bool
is_one (pos n) = eqb n 1000000
is_one (negsuc n) = false

-- the numbers of a v, x y z w. Q-11, "By default tidy now leaves w off when it is 1.000000; the old form stays as a choice that the caller names"
abbrev pub weighted : Weights → List ℤ → List ℤ
weighted WhenNeeded z = cond (is_one (get_or z 3 (pos 0))) (take 3 z) z
weighted Always z = z

-- "v, vt, vn (every coordinate), vp (those given)": the record of a vp begins with how many were given
abbrev pub coordinates : Weights → VertexKind → List ℤ → List ℤ
coordinates c geometric z = weighted c z
coordinates c texture z = z
coordinates c normal z = z
coordinates c parametric [] = []
coordinates c parametric (n ∷ z) = take (nat_abs n) z

-- "of two the first is rat; the last is a type"
abbrev pub basis_argument : Basis → Argument
basis_argument bezier = Bezier
basis_argument bspline = Bspline
basis_argument cardinal = Cardinal
basis_argument taylor = Taylor

abbrev pub type_words : Bool → Basis → List (List ℕ)
type_words true t = argument_bytes Rational ∷ argument_bytes (basis_argument t) ∷ []
type_words false t = argument_bytes (basis_argument t) ∷ []

-- "deg (one number on a curve, two on a surface)": a curve's v degree is 0
abbrev pub degree_words : ℕ → ℕ → List (List ℕ)
degree_words m zero = written_whole m ∷ []
degree_words m (suc n) = written_whole m ∷ written_whole (suc n) ∷ []

-- the range on a body's line: two numbers on a curve, four on a surface, none on a curv2
abbrev pub range_of : Free → Body → List ℤ
range_of curve b = b.start-u ∷ b.end-u ∷ []
range_of curve2 b = []
range_of surface b = b.start-u ∷ b.end-u ∷ b.start-v ∷ b.end-v ∷ []

abbrev pub direction_argument : ParmDirection → Argument
direction_argument along-u = DirectionU
direction_argument along-v = DirectionV

-- "two numbers, a curv2 number"
abbrev pub part_words : Part → List (List ℕ)
part_words p = written_number p.from ∷ written_number p.to ∷ written_whole p.curve ∷ []

-- a control of a curv2 has the first place alone, so that its corner is written as its number
abbrev pub words_after : Weights → Statement → List (List ℕ)
words_after c (vertex k z) = map written_number (coordinates c k z)
words_after c (element k cs) = map written_corner cs
words_after c (group ws) = bytes_of ws
words_after c (smoothing n) = written_whole n ∷ []
words_after c (material w) = w.bytes ∷ []
words_after c (type r t) = type_words r t
words_after c (degree m n) = degree_words m n
words_after c (body b cs) = map written_number (range_of b.free b) ++ map written_corner cs
words_after c (parameters d z) = argument_bytes (direction_argument d) ∷ map written_number z
words_after c (loop l) = flat part_words l.parts
words_after c end = []
words_after c passed = []

abbrev pub printed : Weights → Statement → List (List ℕ)
printed c t = keyword_of (keyword_in t) ∷ words_after c t

-- ---- "One space between words, LF after each line"
unfoldable pub tidy_text : Weights → Model → List ℕ
tidy_text c m = written_lines (map (printed c) (tidied m))
