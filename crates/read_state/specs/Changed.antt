-- The tables with one of them or one group changed, the vertices of one kind in model and tables, and a state by its parts.
use Rattle.std.specs.Prelude.{ℕ, ◌*◌, ◌≡◌, List, [], ◌∷◌, length, get_or, ℤ, pos}
use Rattle.std.proofs.Math.Option.{Option}
use Rattle.lists.specs.Lists.{flat}
use Rattle.tables.specs.VertexTables.{VertexTables, vertex_tables}
use Rattle.tables.specs.ElementTables.{ElementTables, element_tables}
use Rattle.tables.specs.BodyTables.{BodyTables, body_tables}
use Rattle.tables.specs.Tables.{Tables}
use Rattle.tables.specs.Records.{v_width, vt_width, vn_width, vp_width}
use Rattle.model.specs.Model.{VertexKind, geometric, texture, normal, parametric, Vertices, Names, Model, Form, Open, State}
use Rattle.model.specs.Room.{Rooms}
use Rattle.model.specs.Layout.{itself}

-- ---- the tables with one group changed
abbrev pub with_vertices : VertexTables → Tables → Tables
with_vertices v t = record { vertices = v; elements = t.elements; bodies = t.bodies }

abbrev pub with_elements : ElementTables → Tables → Tables
with_elements e t = record { vertices = t.vertices; elements = e; bodies = t.bodies }

abbrev pub with_bodies : BodyTables → Tables → Tables
with_bodies b t = record { vertices = t.vertices; elements = t.elements; bodies = b }

-- ---- a group with some of its tables changed
abbrev pub kind_stored : VertexKind → List ℤ → VertexTables → VertexTables
kind_stored geometric l t = vertex_tables l t.vt t.vn t.vp
kind_stored texture l t = vertex_tables t.v l t.vn t.vp
kind_stored normal l t = vertex_tables t.v t.vt l t.vp
kind_stored parametric l t = vertex_tables t.v t.vt t.vn l

abbrev pub row_stored : VertexKind → List ℤ → Tables → Tables
row_stored k l t = with_vertices (kind_stored k l t.vertices) t

abbrev pub element_stored : List ℕ → List ℕ → Tables → Tables
element_stored c e t = with_elements (element_tables c e) t

abbrev pub range_stored : List ℤ → Tables → Tables
range_stored r t = let b = t.bodies in with_bodies (body_tables b.bodies r b.parameters b.loops b.spans) t

abbrev pub loops_stored : List ℕ → List ℤ → Tables → Tables
loops_stored l s t = let b = t.bodies in with_bodies (body_tables b.bodies b.ranges b.parameters l s) t

abbrev pub body_stored : List ℕ → List ℤ → List ℤ → Tables → Tables
body_stored b r p t = with_bodies (body_tables b r p t.bodies.loops t.bodies.spans) t

-- ---- the vertices of one kind
abbrev pub rows_of : VertexKind → Vertices → List (List ℤ)
rows_of geometric x = x.v
rows_of texture x = x.vt
rows_of normal x = x.vn
rows_of parametric x = x.vp

abbrev pub kind_in : VertexKind → VertexTables → List ℤ
kind_in geometric t = t.v
kind_in texture t = t.vt
kind_in normal t = t.vn
kind_in parametric t = t.vp

abbrev pub table_of : VertexKind → Tables → List ℤ
table_of k t = kind_in k t.vertices

abbrev pub width_of : VertexKind → ℕ
width_of geometric = v_width
width_of texture = vt_width
width_of normal = vn_width
width_of parametric = vp_width

abbrev pub room_of : VertexKind → Rooms → ℕ
room_of geometric R = R.vertices.v
room_of texture R = R.vertices.vt
room_of normal R = R.vertices.vn
room_of parametric R = R.vertices.vp

-- "vp the count given and u v w": four numbers, the first of them a count
pub record Counted (z : List ℤ) : Type 0 where
  pub wide : length z ≡ 4
  pub count : ℕ
  pub first : get_or z 0 (pos 0) ≡ pos count

abbrev pub AllCounted : List (List ℤ) → Type 0
AllCounted [] = Unit {0}
AllCounted (z ∷ zs) = Counted z × AllCounted zs

-- each vertex has as many numbers as its table says, and each vp begins with its count
pub record Wide (x : Vertices) : Type 0 where
  pub rows : (k : VertexKind) → length (flat itself (rows_of k x)) ≡ width_of k * length (rows_of k x)
  pub counts : AllCounted x.vp

-- ---- a state by its parts
abbrev pub state : Model → Names → Form → Option Open → State
state m n f o = record { model = m; names = n; form = f; open-body = o }
