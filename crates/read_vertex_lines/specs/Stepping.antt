-- What the code does with a line that it knows the keyword of: the state after it, or that it is rejected.
use Rattle.std.specs.Prelude.{ℕ, ◌≡◌, List, length, ℤ, Bool, Result, Ok, Err, Option as Answer}
use Rattle.std.proofs.Math.Option.{none}
use Rattle.refusals.specs.declared.Reason.{Reason}
use Rattle.refusals.specs.Reasons.{reason_number}
use Rattle.text.specs.declared.Parsed.{Parsed}
use Rattle.text.specs.Words.{Word}
use Rattle.text.specs.Rest.{rest_at, push}
use Rattle.tables.specs.VertexTables.{VertexTables}
use Rattle.tables.specs.ElementTables.{ElementTables}
use Rattle.tables.specs.Tables.{Tables}
use Rattle.tables.specs.declared.Used.{Used}
use Rattle.keywords.specs.Keywords.{statement_of}
use Rattle.model.specs.Model as model
use Rattle.model.specs.Model.{VertexKind, geometric, texture, normal, parametric, Shape, Free}
use Rattle.model.specs.Statements.{Statement}
use Rattle.model.specs.Parse.{fine, fault, Keyword, a-vertex, an-element, a-body, ends}
use Rattle.model.specs.Room.{Rooms}
use Rattle.model.specs.Read.{carried_in}
use Rattle.read_state.specs.declared.State.{State}
use Rattle.read_state.specs.Changed.{with_vertices, with_elements, kind_stored, kind_in, range_stored, loops_stored, body_stored}
use Rattle.read_vertices.specs.Vertex.{VertexIs}
use Rattle.read_bodies.specs.Loops.{loop_word}
use Rattle.read_diagnosis.specs.Diagnosis.{parse_before, GivenIn}
use Rattle.read_vertex_lines.specs.declared.LineFault.{LineFault}
use Rattle.read_vertex_lines.specs.declared.LineFault.TheVariants.{AtKeyword, Unknown}
use Rattle.read_vertex_lines.specs.Bounds.{Keeps}
use Rattle.read_vertex_lines.specs.Holding.{Holds, line_says, WithinLimit, NextLine}

-- how many vertices of a kind are used, and the state with one more
abbrev pub count_in : VertexKind → Used → ℕ
count_in geometric u = u.v
count_in texture u = u.vt
count_in normal u = u.vn
count_in parametric u = u.vp

abbrev pub with_count : VertexKind → ℕ → Used → Used
with_count geometric n u = record { v = n; vt = u.vt; vn = u.vn; vp = u.vp; corners = u.corners; elements = u.elements; bodies = u.bodies; parameters = u.parameters; loops = u.loops }
with_count texture n u = record { v = u.v; vt = n; vn = u.vn; vp = u.vp; corners = u.corners; elements = u.elements; bodies = u.bodies; parameters = u.parameters; loops = u.loops }
with_count normal n u = record { v = u.v; vt = u.vt; vn = n; vp = u.vp; corners = u.corners; elements = u.elements; bodies = u.bodies; parameters = u.parameters; loops = u.loops }
with_count parametric n u = record { v = u.v; vt = u.vt; vn = u.vn; vp = n; corners = u.corners; elements = u.elements; bodies = u.bodies; parameters = u.parameters; loops = u.loops }

abbrev pub with_used : Used → State → State
with_used u c = record { used = u; curves = c.curves; names = c.names; form = c.form; «open» = c.«open» }

-- ---- what a line's function promises of the tables
-- what it answers: the state after the line and where the next one starts, or why not
abbrev pub Step : Type 0
Step = Result (Parsed State) LineFault

abbrev pub accepted : State → ℕ → Step
accepted d q = Ok (record { value = d; next = q })

-- at its keyword, or at what is still to be found
abbrev pub refuses : Reason → Step
refuses r = Err (AtKeyword r)

abbrev pub rejected : Step
rejected = Err Unknown

-- the line of s at p, read after n bytes, begins with the word w, which is the keyword k, and its other words stand from `at` on
pub record Began (R : Rooms) (s : List ℕ) (p at n : ℕ) (x : model.State) (c : State) (t : Tables) (w : Word) (k : Keyword) : Type 0 where
  pub small : WithinLimit s p n
  pub holds : Holds R s x c t n
  pub begins : rest_at s p ≡ push w (rest_at s at)
  pub keyword : carried_in (statement_of w.bytes) w.place ≡ fine k

-- a line that was rejected: the vp that were there are there, and if nothing is wrong with it then there is no room for it
pub record Left (R : Rooms) (s : List ℕ) (p at : ℕ) (x : model.State) (u : Tables) (w : Word) (k : Keyword) : Type 0 where
  pub given : GivenIn x.model.vertices.vp u.vertices.vp
  pub roomless : (rest_at s at).bad ≡ none → (y : Statement) → parse_before k x w.place (rest_at s at).words ≡ fine y → line_says R s p x ≡ fault 14 w.place

-- the tables held t and then hold u; the bounds are kept in whatever state the line is taken
abbrev pub StepIs : List ℕ → ℕ → Keyword → State → Tables → Tables → Step → Type 0
StepIs s at k c t u (Ok a) =
    Keeps s at c a.value a.next × ((R : Rooms) (p n : ℕ) (x : model.State) (w : Word) → Began R s p at n x c t w k → NextLine R s p n x a.value u a.next × (a.next ≡ (rest_at s p).next))
StepIs s at k c t u (Err (AtKeyword r)) =
    (R : Rooms) (p n : ℕ) (x : model.State) (w : Word) → Began R s p at n x c t w k → line_says R s p x ≡ fault (reason_number r) w.place
StepIs s at k c t u (Err Unknown) = (R : Rooms) (p n : ℕ) (x : model.State) (w : Word) → Began R s p at n x c t w k → Left R s p at x u w k

-- each family by the tables that it is lent; the others stay
-- what `vertex_into` answers: a vertex goes into the table of its kind, and the other three stay
abbrev pub VertexInto : VertexKind → List ℕ → ℕ → ℕ → VertexTables → VertexTables → Answer ℕ → Type 0
VertexInto k s at n a b r = VertexIs k s at n (kind_in k a) (kind_in k b) r × (b ≡ kind_stored k (kind_in k b) a)

abbrev pub VertexStep : VertexKind → List ℕ → ℕ → State → VertexTables → VertexTables → Step → Type 0
VertexStep k s at c a b r = (t : Tables) → StepIs s at (a-vertex k) c (with_vertices a t) (with_vertices b t) r

abbrev pub ElementStep : Shape → List ℕ → ℕ → State → ElementTables → ElementTables → Step → Type 0
ElementStep k s at c a b r = (t : Tables) → t.elements ≡ a → StepIs s at (an-element k) c t (with_elements b t) r

abbrev pub BodyStep : Free → List ℕ → ℕ → State → List ℤ → ElementTables → ElementTables → ℕ → List ℤ → List ℤ → Step → Type 0
BodyStep k s at c vp a b bodies y z r =
    (t : Tables) → t.vertices.vp ≡ vp → t.elements ≡ a → length t.bodies.bodies ≡ bodies → t.bodies.ranges ≡ y
    → StepIs s at (a-body k) c t (range_stored z (with_elements b t)) r

abbrev pub EndStep : List ℕ → ℕ → State → List ℕ → List ℕ → List ℤ → List ℤ → List ℤ → List ℤ → Step → Type 0
EndStep s at c b d y z p q r =
    (t : Tables) → t.bodies.bodies ≡ b → t.bodies.ranges ≡ y → t.bodies.parameters ≡ p → StepIs s at ends c t (body_stored d z q t) r

abbrev pub LoopStep : Bool → List ℕ → ℕ → State → List ℕ → List ℕ → List ℤ → List ℤ → Step → Type 0
LoopStep hole s at c l m y z r = (t : Tables) → t.bodies.loops ≡ l → t.bodies.spans ≡ y → StepIs s at (loop_word hole) c t (loops_stored m z t) r

-- a line that stores nothing: parm, a setting, a statement that is passed over
abbrev pub QuietStep : Keyword → List ℕ → ℕ → State → Step → Type 0
QuietStep k s at c r = (t : Tables) → StepIs s at k c t t r
