-- Must be believed: a promise reaches every definition of this file.
-- The words of a line: what each is by its form, or what is wrong with it; 01, "Words after the keyword" and "Numbers of refusal".
use Rattle.std.specs.Prelude.{ℕ, suc, List, [], ◌∷◌, Bool, true, false, cond, ℤ}
use Rattle.std.proofs.Math.Option.{Option, none, some}
use Rattle.text.specs.Words.{Word}
use Rattle.digits.specs.Said.{Said, says, wrong}
use Rattle.decimals.specs.Number.{number_of}
use Rattle.references.specs.Reference.{reference_of}
use Rattle.references.specs.Corner.{Corner, Counts, corner_of}
use Rattle.digits.specs.Degree.{degree_of, smoothing_of, name_of}
use Rattle.keywords.specs.declared.Argument.{Argument}
use Rattle.keywords.specs.declared.Argument.TheVariants.{Rational, BasisMatrix, Bezier, Bspline, Cardinal, Taylor, DirectionU, DirectionV}
use Rattle.keywords.specs.Arguments.{is_argument, argument_of}
use Rattle.tables.specs.Bodies.{Basis, bezier, bspline, cardinal, taylor}
use Rattle.model.specs.Model.{ParmDirection, along-u, along-v}
pub use Rattle.statements.specs.declared.rules.WordForm.{WordForm}
pub use Rattle.statements.specs.declared.rules.WordForm.TheVariants.{Number as a-number, Corner as a-corner, Control as a-control, Curve as a-curve, Direction as a-direction, «Type» as a-type, Rational as a-rational, Degree as a-degree, Smoothing as a-smoothing, Name as a-name, Anything as anything}

-- ---- a refusal: its number and its place
pub data Parsed (A : Type 0) : Type 0 where
  fine : A → Parsed A
  fault : ℕ → ℕ → Parsed A

abbrev pub then : {A C : Type 0} → Parsed A → (A → Parsed C) → Parsed C
then (fine a) f = f a
then (fault n p) f = fault n p

-- a rule that has to hold, or else the refusal n at p
abbrev pub must : {A : Type 0} → Bool → ℕ → ℕ → Parsed A → Parsed A
must true n p r = r
must false n p r = fault n p

-- a word that must not be there, or else the refusal n at its place
abbrev pub unless : {A : Type 0} → Option ℕ → ℕ → Parsed A → Parsed A
unless none n r = r
unless (some p) n r = fault n p

-- ---- the fixed words
abbrev pub direction_of : Argument → Option ParmDirection
direction_of a = cond (is_argument a DirectionV) (some along-v) (cond (is_argument a DirectionU) (some along-u) none)

abbrev pub says_v : List Word → Bool
says_v [] = false
says_v (w ∷ ws) = is_argument (argument_of w.bytes) DirectionV

-- ---- 4 of a type, 6, 7, 8: the form of each word
-- what a word is found to be
pub data Value : Type 0 where
  number : ℤ → Value
  corner : Corner → Value
  whole : ℕ → Value
  direction : ParmDirection → Value
  basis : Basis → Value
  name : Word → Value
  nothing : Value

abbrev pub on_said : {A C : Type 0} → (A → C) → Said A → Said C
on_said f (says a) = says (f a)
on_said f (wrong n) = wrong n

-- "So is a cstype word out of form (of two the first is rat; the last is a type)"; "the type bmatrix" is known and refused
abbrev pub type_said : Argument → Said Basis
type_said a =
    cond (is_argument a Bezier) (says bezier)
    (cond (is_argument a Bspline) (says bspline)
    (cond (is_argument a Cardinal) (says cardinal)
    (cond (is_argument a Taylor) (says taylor) (wrong (cond (is_argument a BasisMatrix) 4 6)))))

abbrev pub rational_said : Argument → Said Value
rational_said a = cond (is_argument a Rational) (says nothing) (wrong 6)

-- "and a parm direction other than u or v"
abbrev pub direction_said : Option ParmDirection → Said Value
direction_said none = wrong 6
direction_said (some d) = says (direction d)

-- how many there are so far of what a word may refer to
pub record Seen : Type 0 where
  pub counts : Counts
  pub vp : ℕ
  pub curves : ℕ

abbrev pub said_of : Seen → WordForm → Word → Said Value
said_of n a-number w = on_said number (number_of w.bytes)
said_of n (a-corner k) w = on_said corner (corner_of n.counts k w.bytes)
said_of n a-control w = on_said (λ k. corner (record { v = k; vt = 0; vn = 0 })) (reference_of n.vp w.bytes)
said_of n a-curve w = on_said whole (reference_of n.curves w.bytes)
said_of n a-direction w = direction_said (direction_of (argument_of w.bytes))
said_of n a-type w = on_said basis (type_said (argument_of w.bytes))
said_of n a-rational w = rational_said (argument_of w.bytes)
said_of n a-degree w = on_said whole (degree_of w.bytes)
said_of n a-smoothing w = on_said whole (smoothing_of w.bytes)
said_of n a-name w = on_said (λ b. name w) (name_of w.bytes)
said_of n anything w = says nothing

-- "4 for a type, 6, 7 and 8 go together after 5, word by word from the left, in a word 6 first": the words from the i-th on
abbrev pub placed : {A : Type 0} → Said A → ℕ → Parsed A
placed (says a) p = fine a
placed (wrong n) p = fault n p

abbrev pub values_of : Seen → (ℕ → WordForm) → ℕ → List Word → Parsed (List Value)
values_of n f i [] = fine []
values_of n f i (w ∷ ws) = then (placed (said_of n (f i) w) w.place) (λ x. then (values_of n f (suc i) ws) (λ xs. fine (x ∷ xs)))

-- ---- what is told by the values of a line: those of each sort, and the first type and direction of them
pub record Told : Type 0 where
  pub numbers : List ℤ
  pub corners : List Corner
  pub wholes : List ℕ
  pub names : List Word
  pub type : Basis
  pub along : ParmDirection

abbrev pub with_value : Value → Told → Told
with_value (number z) x = record { numbers = z ∷ x.numbers; corners = x.corners; wholes = x.wholes; names = x.names; type = x.type; along = x.along }
with_value (corner c) x = record { numbers = x.numbers; corners = c ∷ x.corners; wholes = x.wholes; names = x.names; type = x.type; along = x.along }
with_value (whole k) x = record { numbers = x.numbers; corners = x.corners; wholes = k ∷ x.wholes; names = x.names; type = x.type; along = x.along }
with_value (direction d) x = record { numbers = x.numbers; corners = x.corners; wholes = x.wholes; names = x.names; type = x.type; along = d }
with_value (basis t) x = record { numbers = x.numbers; corners = x.corners; wholes = x.wholes; names = x.names; type = t; along = x.along }
with_value (name w) x = record { numbers = x.numbers; corners = x.corners; wholes = x.wholes; names = w ∷ x.names; type = x.type; along = x.along }
with_value nothing x = x

abbrev pub told : List Value → Told
told [] = record { numbers = []; corners = []; wholes = []; names = []; type = bezier; along = along-u }
told (x ∷ xs) = with_value x (told xs)

abbrev pub numbers_of : List Value → List ℤ
numbers_of xs = (told xs).numbers

abbrev pub corners_of : List Value → List Corner
corners_of xs = (told xs).corners

abbrev pub wholes_of : List Value → List ℕ
wholes_of xs = (told xs).wholes

abbrev pub names_of : List Value → List Word
names_of xs = (told xs).names

abbrev pub basis_said : List Value → Basis
basis_said xs = (told xs).type

abbrev pub direction_in : List Value → ParmDirection
direction_in xs = (told xs).along
