-- 01: "parm u or v, then 2 or more"; "trim, hole and parm v belong to surfaces": a parm line, and what the code finds of it.
use Rattle.std.specs.Prelude.{ℕ, ◌≤◌, ◌<◌, ◌≡◌, List, ◌∷◌, Bool, true, false, ◌||◌, not, length, ℤ, Option as Answer, Some, None}
use Rattle.std.proofs.Math.Option.{none, some}
use Rattle.text.specs.Words.{Word}
use Rattle.text.specs.declared.Parsed.{Parsed}
use Rattle.text.specs.Rest.{Rest, rest_at}
use Rattle.keywords.specs.declared.Argument.{Argument}
use Rattle.keywords.specs.declared.Argument.TheVariants.{Rational, BasisMatrix, Bezier, Bspline, Cardinal, Taylor, DirectionU, DirectionV, Off, Other}
use Rattle.keywords.specs.Arguments.{argument_of}
use Rattle.model.specs.Model.{ParmDirection, along-u, along-v}
use Rattle.model.specs.Parse.{direction_of}
use Rattle.model.specs.Standing.{is_v}
use Rattle.read_state.specs.State.{ParmAt}
use Rattle.read_bodies.specs.Numbers.{leading, numbers_at, AllNumbers}
use Rattle.read_bodies.specs.declared.parm.Parm.{Parm}

-- whether a direction is v
abbrev pub way_of : Argument → Answer Bool
way_of Rational = None
way_of BasisMatrix = None
way_of Bezier = None
way_of Bspline = None
way_of Cardinal = None
way_of Taylor = None
way_of DirectionU = Some false
way_of DirectionV = Some true
way_of Off = None
way_of Other = None

-- the numbers after the direction: two or more, to the line's end
pub record RowTaken (s : List ℕ) (at : ℕ) (v along-v : Bool) (n q : ℕ) : Type 0 where
  pub along : v ≡ along-v
  pub here : n ≡ at
  pub two : 2 ≤ length (numbers_at s at)
  pub all : AllNumbers s at (length (numbers_at s at)) q

abbrev pub ParmRowIs : List ℕ → ℕ → Bool → Answer (Parsed Parm) → Type 0
ParmRowIs s at v (Some p) = RowTaken s at p.value.along_v v p.value.numbers_at p.next
ParmRowIs s at v None = (rest_at s at).bad ≡ none → length (numbers_at s at) ≡ length (rest_at s at).words → length (numbers_at s at) < 2

-- a line that says the parameters zs along d, of a body that is a surface's or not
pub record ParmLine (surface : Bool) (r : Rest) (d : ParmDirection) (zs : List ℤ) : Type 0 where
  pub first : Word
  pub others : List Word
  pub words : r.words ≡ first ∷ others
  pub direction : direction_of (argument_of first.bytes) ≡ some d
  pub belongs : (surface || not (is_v (some d))) ≡ true
  pub numbers : leading others ≡ zs
  pub all : length zs ≡ length others
  pub two : 2 ≤ length zs
  pub good : r.bad ≡ none

abbrev pub parm_direction : Bool → ParmDirection
parm_direction true = along-v
parm_direction false = along-u

pub record ParmTaken (surface : Bool) (s : List ℕ) (at : ℕ) (v : Bool) (n q : ℕ) : Type 0 where
  pub line : ParmLine surface (rest_at s at) (parm_direction v) (numbers_at s n)
  pub from : 0 < n
  pub kept : ParmAt s n (numbers_at s n)
  pub next : q ≡ (rest_at s at).next
  pub to : q ≤ length s

abbrev pub ParmIs : Bool → List ℕ → ℕ → Answer (Parsed Parm) → Type 0
ParmIs surface s at (Some p) = ParmTaken surface s at p.value.along_v p.value.numbers_at p.next
ParmIs surface s at None = (d : ParmDirection) (zs : List ℤ) → ParmLine surface (rest_at s at) d zs → ⊥
