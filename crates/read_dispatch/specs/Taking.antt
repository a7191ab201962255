-- What is asked of the functions that find a line's statement and hand the tables on.
use Rattle.std.specs.Prelude.{ℕ, ◌≡◌, true, false, List, Result, Ok, Err}
use Rattle.refusals.specs.declared.Reason.{Reason}
use Rattle.refusals.specs.declared.Refusal.{Refusal}
use Rattle.refusals.specs.Reasons.{reason_number}
use Rattle.text.specs.declared.Parsed.{Parsed}
use Rattle.text.specs.Rest.{rest_at, WordMet, EndMet, BadMet}
use Rattle.tables.specs.VertexTables.{vertex_lengths}
use Rattle.tables.specs.ElementTables.{element_lengths}
use Rattle.tables.specs.BodyTables.{body_lengths}
use Rattle.tables.specs.Tables.{Tables}
use Rattle.statements.specs.declared.Statement.{Statement}
use Rattle.statements.specs.declared.Statement.TheVariants.{Carried, Refused, Unknown}
use Rattle.statements.specs.declared.Carried as carried
use Rattle.statements.specs.declared.Carried.TheVariants as carrying
use Rattle.keywords.specs.Lookup.{of_letter, keyword_at}
use Rattle.model.specs.Parse.{fault, a-vertex, an-element, a-body, parm, ends}
use Rattle.model.specs.Model as model
use Rattle.model.specs.Room.{Rooms}
use Rattle.read_state.specs.declared.State.{State}
use Rattle.read_bodies.specs.Loops.{loop_word}
use Rattle.read_element_lines.specs.declared.setting_lines.Setting.TheVariants.{BodyType, Degree, Group, Smoothing, Material, PassedOver}
use Rattle.read_element_lines.specs.InForce.{setting_of}
use Rattle.read_dispatch.specs.declared.families.Family.{Family}
use Rattle.read_dispatch.specs.declared.families.Family.TheVariants.{Vertex, Element, Body, Parameters, Loop, End, Set, Other}
use Rattle.read_dispatch.specs.declared.keys.Key as keys
use Rattle.read_dispatch.specs.declared.keys.Key.TheVariants as key
use Rattle.read_vertex_lines.specs.Bounds.{InBounds}
use Rattle.read_vertex_lines.specs.Holding.{Holds, line_says, WithinLimit, NextLine}
use Rattle.read_vertex_lines.specs.Stepping.{Step, rejected, StepIs}

-- ---- statements by the function that takes their line
abbrev pub family_in : carried.Carried → Family
family_in (carrying.Vertex k) = Vertex k
family_in (carrying.Element k) = Element k
family_in (carrying.Body k) = Body k
family_in carrying.Parameters = Parameters
family_in carrying.Trim = Loop false
family_in carrying.Hole = Loop true
family_in carrying.End = End
family_in carrying.BodyType = Set BodyType
family_in carrying.Degree = Set Degree
family_in carrying.Group = Set Group
family_in carrying.Smoothing = Set Smoothing
family_in carrying.Material = Set Material
family_in carrying.PassedOver = Set PassedOver

abbrev pub family_of : Statement → Family
family_of (Carried k) = family_in k
family_of Refused = Other
family_of Unknown = Other

-- the tables held t and then hold u; a statement that is known to be refused, or is not known, is left to be refused
abbrev pub FamilyIs : Family → List ℕ → ℕ → State → Tables → Tables → Step → Type 0
FamilyIs (Vertex k) s at c t u r = StepIs s at (a-vertex k) c t u r
FamilyIs (Element k) s at c t u r = StepIs s at (an-element k) c t u r
FamilyIs (Body k) s at c t u r = StepIs s at (a-body k) c t u r
FamilyIs Parameters s at c t u r = StepIs s at parm c t u r
FamilyIs (Loop hole) s at c t u r = StepIs s at (loop_word hole) c t u r
FamilyIs End s at c t u r = StepIs s at ends c t u r
FamilyIs (Set k) s at c t u r = StepIs s at (setting_of k) c t u r
FamilyIs Other s at c t u r = (r ≡ rejected) × (u ≡ t)

-- ---- what stands first in the line at `at`
abbrev pub KeyIs : List ℕ → ℕ → keys.Key → Type 0
KeyIs s at (key.Word p l e) = WordMet s at p × (record { statement = of_letter l; end = e } ≡ keyword_at s p)
KeyIs s at (key.End q) = EndMet s at q
KeyIs s at (key.Bad p) = BadMet s at p

-- ---- a line
-- each table is as long as it was
pub record SameLengths (t u : Tables) : Type 0 where
  pub vertices : vertex_lengths u.vertices ≡ vertex_lengths t.vertices
  pub elements : element_lengths u.elements ≡ element_lengths t.elements
  pub bodies : body_lengths u.bodies ≡ body_lengths t.bodies

-- what it comes to: the state after it and where the next one starts, or its refusal
abbrev pub Taken : Type 0
Taken = Result (Parsed State) Refusal

abbrev pub goes_on : State → ℕ → Taken
goes_on d q = Ok (record { value = d; next = q })

abbrev pub stops : Reason → ℕ → Taken
stops r p = Err (record { reason = r; place = p })

-- what the code finds in the line at `at`, after n bytes were read, in the state c with the tables t, which it leaves as u; the bounds are kept in whatever
-- state it is taken
abbrev pub LineIs : List ℕ → ℕ → State → Tables → Tables → Taken → Type 0
LineIs s at c t u (Ok a) =
    InBounds s a.next a.value × ((R : Rooms) (n : ℕ) (x : model.State) → WithinLimit s at n → Holds R s x c t n → NextLine R s at n x a.value u a.next × (a.next ≡ (rest_at s at).next))
LineIs s at c t u (Err r) = (R : Rooms) (n : ℕ) (x : model.State) → WithinLimit s at n → Holds R s x c t n → line_says R s at x ≡ fault (reason_number r.reason) r.place
