-- What holds between two lines: the state in numbers and the tables stand for what was said so far.
use Rattle.std.specs.Prelude.{ℕ, ◌+◌, ◌-◌, ◌≤◌, ◌≡◌, List, true, ℤ}
use Rattle.std.proofs.Math.Option.{Option, none, some}
use Rattle.text.specs.Rest.{rest_at}
use Rattle.tables.specs.Tables.{Tables}
use Rattle.model.specs.Model as model
use Rattle.model.specs.Parse.{Parsed, fine, unless, opened_body}
use Rattle.model.specs.Room.{Rooms, fits}
use Rattle.model.specs.Read.{step}
use Rattle.read_state.specs.declared.State.{State}
use Rattle.read_state.specs.State.{StateIs}
use Rattle.read_state.specs.Image.{image_of}
use Rattle.read_state.specs.Changed.{Wide}
use Rattle.read_state.specs.Bounds.{Bounded}

-- a body that has no end yet is of the type and degrees in force, and its range is what its line said
pub record Opened (f : model.Form) (o : model.Open) : Type 0 where
  pub numbers : List ℤ
  pub basis-is : o.body.basis ≡ (opened_body o.body.free f numbers).basis
  pub rational-is : o.body.rational ≡ f.rational
  pub degree-u-is : o.body.degree-u ≡ (opened_body o.body.free f numbers).degree-u
  pub degree-v-is : o.body.degree-v ≡ (opened_body o.body.free f numbers).degree-v
  pub start-u-is : o.body.start-u ≡ (opened_body o.body.free f numbers).start-u
  pub end-u-is : o.body.end-u ≡ (opened_body o.body.free f numbers).end-u
  pub start-v-is : o.body.start-v ≡ (opened_body o.body.free f numbers).start-v
  pub end-v-is : o.body.end-v ≡ (opened_body o.body.free f numbers).end-v

abbrev pub HoldsOpened : model.Form → Option model.Open → Type 0
HoldsOpened f none = Unit {0}
HoldsOpened f (some o) = Opened f o

-- the state x after n bytes were read, in tables of the lengths R: c in numbers, t the tables; names and parm lines stand in s
pub record Holds (R : Rooms) (s : List ℕ) (x : model.State) (c : State) (t : Tables) (n : ℕ) : Type 0 where
  pub state : StateIs s x c
  pub image : t ≡ image_of R x
  pub wide : Wide x.model.vertices
  pub room : fits R x ≡ true
  pub bounded : Bounded n x
  pub body : HoldsOpened x.form x.open-body

-- what the line at `at` comes to
abbrev pub line_says : Rooms → List ℕ → ℕ → model.State → Parsed model.State
line_says R s at x = unless (rest_at s at).bad 2 (step R x (rest_at s at).words)

-- the line of s at `at`, read after n bytes, does not pass the longest text
abbrev pub WithinLimit : List ℕ → ℕ → ℕ → Type 0
WithinLimit s at n = n + ((rest_at s at).next - at) ≤ 16777216

-- that line, up to `next`
pub record NextLine (R : Rooms) (s : List ℕ) (at n : ℕ) (x : model.State) (c : State) (t : Tables) (next : ℕ) : Type 0 where
  pub after : model.State
  pub said : line_says R s at x ≡ fine after
  pub holds : Holds R s after c t (n + (next - at))
