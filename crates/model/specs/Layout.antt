-- Must be believed: a promise reaches every definition of this file.
-- The tables of a file: its records, one after the other, as docs/RECORDS.md lays them out. "Entries after the used ones are 0."
use Rattle.std.specs.Prelude.{ℕ, suc, ◌+◌, ◌*◌, ◌-◌, List, [], ◌∷◌, ◌++◌, Bool, true, false, cond, length, ℤ}
use Rattle.std.proofs.Math.Option.{Option, none, some}
use Rattle.lists.specs.Lists.{flat}
use Rattle.text.specs.Words.{Word, words_of}
use Rattle.references.specs.Corner.{Corner}
use Rattle.tables.specs.VertexTables.{VertexTables, vertex_tables, VertexRooms, vertex_filled}
use Rattle.tables.specs.ElementTables.{ElementTables, element_tables, ElementRooms, element_filled}
use Rattle.tables.specs.BodyTables.{BodyTables, body_tables, BodyRooms, body_filled}
use Rattle.tables.specs.Tables.{Tables}
use Rattle.tables.specs.Bodies.{basis_number}
use Rattle.tables.specs.Records.{corner_width, point_kind, line_kind, face_kind, curve_kind, curve2_kind, surface_kind}
use Rattle.tables.specs.Asking.{part_of}
use Rattle.tables.specs.declared.NameRun.{NameRun}
use Rattle.tables.specs.declared.Used.{Used}
use Rattle.model.specs.Model.{Shape, point, line, face, Free, curve, curve2, surface, Vertices, Part, Loop, Body, Kind, plain, free, Element, Model}
use Rattle.model.specs.Room.{Rooms, summed, of_kind, part_count}

-- ---- names: "the place and length of its group run and material in the text", "from the first name to the last"; "0 where none is set and after a bare `g`"
abbrev pub last_end : Word → List Word → ℕ
last_end w [] = w.place + length w.bytes
last_end w (x ∷ xs) = last_end x xs

abbrev pub run_of : List Word → NameRun
run_of [] = record { place = 0; length = 0 }
run_of (w ∷ ws) = record { place = w.place; length = last_end w ws - w.place }

abbrev pub listed : Option Word → List Word
listed none = []
listed (some w) = w ∷ []

-- the words that a run shows in the text s, where they stand
abbrev pub words_in : List ℕ → NameRun → List Word
words_in s run = words_of (record { place = run.place; bytes = part_of s run })

-- ---- corners
abbrev pub corner_row : Corner → List ℕ
corner_row c = c.v ∷ c.vt ∷ c.vn ∷ []

abbrev pub corner_rows : Element → List ℕ
corner_rows e = flat corner_row e.corners

-- ---- elements: c numbers of corners and b bodies stand before this one's
abbrev pub shape_number : Shape → ℕ
shape_number point = point_kind
shape_number line = line_kind
shape_number face = face_kind

abbrev pub free_number : Free → ℕ
free_number curve = curve_kind
free_number curve2 = curve2_kind
free_number surface = surface_kind

abbrev pub kind_number : Kind → ℕ
kind_number (plain k) = shape_number k
kind_number (free b) = free_number b.free

abbrev pub body_number : Kind → ℕ → ℕ
body_number (plain k) b = 0
body_number (free x) b = suc b

abbrev pub element_row : ℕ → ℕ → Element → List ℕ
element_row c b e =
    kind_number e.kind ∷ c ∷ length e.corners ∷ body_number e.kind b ∷ e.names.smoothing
    ∷ (run_of e.names.group).place ∷ (run_of e.names.group).length
    ∷ (run_of (listed e.names.material)).place ∷ (run_of (listed e.names.material)).length ∷ []

abbrev pub element_rows : ℕ → ℕ → List Element → List ℕ
element_rows c b [] = []
element_rows c b (e ∷ es) = element_row c b e ++ element_rows (c + corner_width * length e.corners) (b + of_kind (λ x. 1) e.kind) es

-- ---- bodies: p parameters and l loop parts stand before this one's; a body with no loops has first loop part 0 (DECISIONS 139)
abbrev pub first_part : ℕ → ℕ → ℕ
first_part l n = cond (lib.Dec.eqb n 0) 0 l

abbrev pub flag : Bool → ℕ
flag true = 1
flag false = 0

abbrev pub body_row : ℕ → ℕ → Body → List ℕ
body_row p l b =
    basis_number b.basis ∷ flag b.rational ∷ b.degree-u ∷ b.degree-v ∷ p ∷ length b.us ∷ length b.vs
    ∷ first_part l (part_count b) ∷ part_count b ∷ []

abbrev pub range_row : Body → List ℤ
range_row b = b.start-u ∷ b.end-u ∷ b.start-v ∷ b.end-v ∷ []

-- the bodies of elements, in their order
abbrev pub body_of_kind : Kind → List Body
body_of_kind (plain k) = []
body_of_kind (free b) = b ∷ []

abbrev pub bodies_of : List Element → List Body
bodies_of es = flat (λ e. body_of_kind e.kind) es

abbrev pub body_rows : ℕ → ℕ → List Body → List ℕ
body_rows p l [] = []
body_rows p l (b ∷ bs) = body_row p l b ++ body_rows (p + (length b.us + length b.vs)) (l + part_count b) bs

-- "parameters (u, then v)"
abbrev pub parameter_row : Body → List ℤ
parameter_row b = b.us ++ b.vs

-- ---- loops, in the order of their lines: what begins with a part (1 a trim, 2 a hole, 0 nothing), its curv2; and its two numbers beside it
abbrev pub beginning : Bool → ℕ
beginning false = 1
beginning true = 2

abbrev pub part_row : ℕ → Part → List ℕ
part_row n p = n ∷ p.curve ∷ []

abbrev pub part_rows : ℕ → List Part → List ℕ
part_rows n [] = []
part_rows n (p ∷ ps) = part_row n p ++ flat (part_row 0) ps

abbrev pub loop_row : Loop → List ℕ
loop_row l = part_rows (beginning l.hole) l.parts

abbrev pub span_row : Part → List ℤ
span_row p = p.from ∷ p.to ∷ []

abbrev pub loop_rows : Body → List ℕ
loop_rows b = flat loop_row b.loops

abbrev pub span_rows : Body → List ℤ
span_rows b = flat (λ l. flat span_row l.parts) b.loops

-- ---- the eleven tables, of R's lengths
abbrev pub itself : {A : Type 0} → List A → List A
itself l = l

abbrev pub vertex_tables_of : VertexRooms → Vertices → VertexTables
vertex_tables_of R x = vertex_filled R (vertex_tables (flat itself x.v) (flat itself x.vt) (flat itself x.vn) (flat itself x.vp))

abbrev pub element_tables_of : ElementRooms → List Element → ElementTables
element_tables_of R es = element_filled R (element_tables (flat corner_rows es) (element_rows 0 0 es))

abbrev pub body_tables_of : BodyRooms → List Body → BodyTables
body_tables_of R bs = body_filled R (body_tables (body_rows 0 0 bs) (flat range_row bs) (flat parameter_row bs) (flat loop_rows bs) (flat span_rows bs))

unfoldable pub tables_of : Rooms → Model → Tables
tables_of R m =
    record {
      vertices = vertex_tables_of R.vertices m.vertices;
      elements = element_tables_of R.elements m.elements;
      bodies = body_tables_of R.bodies (bodies_of m.elements);
    }

-- "every count" after a refusal
abbrev pub none_used : Used
none_used = record { v = 0; vt = 0; vn = 0; vp = 0; corners = 0; elements = 0; bodies = 0; parameters = 0; loops = 0 }

-- how many are used: records, but for the corners, which count numbers
unfoldable pub used_of : Model → Used
used_of m =
    record {
      v = length m.vertices.v;
      vt = length m.vertices.vt;
      vn = length m.vertices.vn;
      vp = length m.vertices.vp;
      corners = corner_width * summed (λ e. length e.corners) m.elements;
      elements = length m.elements;
      bodies = length (bodies_of m.elements);
      parameters = summed (λ b. length b.us + length b.vs) (bodies_of m.elements);
      loops = summed part_count (bodies_of m.elements);
    }
