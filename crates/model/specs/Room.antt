-- Must be believed: a promise reaches every definition of this file.
-- 14, "a lent table lacks room": "Room for parm is checked at end, all other room at its own line; 14 is given exactly when the entries needed pass the lent length."
use Rattle.std.specs.Prelude.{ℕ, ◌+◌, ◌*◌, List, [], ◌∷◌, Bool, ◌&&◌, length}
use Rattle.std.proofs.Math.Option.{Option, none, some}
use Rattle.tables.specs.VertexTables.{VertexRooms, vertex_within}
use Rattle.tables.specs.ElementTables.{ElementRooms, element_within}
use Rattle.tables.specs.BodyTables.{BodyRooms, body_within}
use Rattle.tables.specs.Records.{v_width, vt_width, vn_width, vp_width, corner_width, element_width, body_width, range_width, loop_width, span_width}
use Rattle.model.specs.Model.{Vertices, Body, Kind, plain, free, Open, State}

-- how many entries each table has, or how many are needed
pub record Rooms : Type 0 where
  pub vertices : VertexRooms
  pub elements : ElementRooms
  pub bodies : BodyRooms

abbrev pub summed : {A : Type 0} → (A → ℕ) → List A → ℕ
summed f [] = 0
summed f (a ∷ xs) = f a + summed f xs

abbrev pub of_kind : (Body → ℕ) → Kind → ℕ
of_kind f (plain k) = 0
of_kind f (free b) = f b

abbrev pub of_open : (Open → ℕ) → Option Open → ℕ
of_open f none = 0
of_open f (some o) = f o

-- the parts of a body's loops
abbrev pub part_count : Body → ℕ
part_count b = summed (λ l. length l.parts) b.loops

-- corners, elements, bodies, parameters and loop parts of a state; a body that has no end yet counts, but for its parameters
abbrev pub corner_count : State → ℕ
corner_count x = summed (λ e. length e.corners) x.model.elements + of_open (λ o. length o.controls) x.open-body

abbrev pub element_count : State → ℕ
element_count x = length x.model.elements + of_open (λ o. 1) x.open-body

abbrev pub body_count : State → ℕ
body_count x = summed (λ e. of_kind (λ b. 1) e.kind) x.model.elements + of_open (λ o. 1) x.open-body

abbrev pub parameter_count : State → ℕ
parameter_count x = summed (λ e. of_kind (λ b. length b.us + length b.vs) e.kind) x.model.elements

abbrev pub loop_part_count : State → ℕ
loop_part_count x = summed (λ e. of_kind part_count e.kind) x.model.elements + of_open (λ o. part_count o.body) x.open-body

abbrev pub needed_vertices : Vertices → VertexRooms
needed_vertices x = record { v = v_width * length x.v; vt = vt_width * length x.vt; vn = vn_width * length x.vn; vp = vp_width * length x.vp }

abbrev pub needed_elements : State → ElementRooms
needed_elements x = record { corners = corner_width * corner_count x; elements = element_width * element_count x }

abbrev pub needed_bodies : State → BodyRooms
needed_bodies x =
    record {
      bodies = body_width * body_count x;
      ranges = range_width * body_count x;
      parameters = parameter_count x;
      loops = loop_width * loop_part_count x;
      spans = span_width * loop_part_count x;
    }

abbrev pub needed : State → Rooms
needed x = record { vertices = needed_vertices x.model.vertices; elements = needed_elements x; bodies = needed_bodies x }

abbrev pub within : Rooms → Rooms → Bool
within a b = vertex_within a.vertices b.vertices && element_within a.elements b.elements && body_within a.bodies b.bodies

unfoldable pub fits : Rooms → State → Bool
fits R x = within (needed x) R
