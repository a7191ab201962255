-- Must be believed: a promise reaches every definition of this file.
-- How many entries of each table a text can need: for each joined line, what its statement's records take. A line counts by its keyword and by how many
-- words follow it, whether or not they have their forms; reading goes no further than the first line that is refused.
use Rattle.std.specs.Prelude.{ℕ, ◌+◌, ◌*◌, ◌-◌, ◌/◌, List, [], ◌∷◌, cond, length, leb}
use Rattle.std.proofs.Math.Option.{Option, none, some}
use Rattle.text.specs.Lines.{Line as JoinedLine, lines_of}
use Rattle.text.specs.Words.{Word, words_of, bad_of}
use Rattle.keywords.specs.Keywords.{statement_of}
use Rattle.statements.specs.declared.VertexKind.{VertexKind}
use Rattle.statements.specs.declared.VertexKind.TheVariants.{Geometric, Texture, Normal, Parametric}
use Rattle.statements.specs.declared.Carried as carried
use Rattle.statements.specs.declared.Carried.TheVariants.{Vertex, Element, Body, Parameters, Trim, Hole, End, BodyType, Degree, Group, Smoothing, Material, PassedOver}
use Rattle.statements.specs.declared.Statement.{Statement}
use Rattle.statements.specs.declared.Statement.TheVariants.{Carried, Refused, Unknown}
use Rattle.statements.specs.Rules.{range_words}
use Rattle.tables.specs.Records.{v_width, vt_width, vn_width, vp_width, corner_width, element_width, body_width, range_width, loop_width, span_width}
use Rattle.read_rooms.specs.declared.Rooms.{Rooms}

-- ---- rooms
abbrev pub no_room : Rooms
no_room = record { v = 0; vt = 0; vn = 0; vp = 0; corners = 0; elements = 0; bodies = 0; ranges = 0; parameters = 0; loops = 0; spans = 0 }

abbrev pub both : Rooms → Rooms → Rooms
both a b =
    record {
      v = a.v + b.v;
      vt = a.vt + b.vt;
      vn = a.vn + b.vn;
      vp = a.vp + b.vp;
      corners = a.corners + b.corners;
      elements = a.elements + b.elements;
      bodies = a.bodies + b.bodies;
      ranges = a.ranges + b.ranges;
      parameters = a.parameters + b.parameters;
      loops = a.loops + b.loops;
      spans = a.spans + b.spans;
    }

-- ---- what so many records take, as docs/RECORDS.md lists them; a body has a range, a loop part a span
abbrev pub room : (v vt vn vp corners elements bodies parameters parts : ℕ) → Rooms
room v vt vn vp corners elements bodies parameters parts =
    record {
      v = v_width * v;
      vt = vt_width * vt;
      vn = vn_width * vn;
      vp = vp_width * vp;
      corners = corner_width * corners;
      elements = element_width * elements;
      bodies = body_width * bodies;
      ranges = range_width * bodies;
      parameters = parameters;
      loops = loop_width * parts;
      spans = span_width * parts;
    }

-- an element with so many bodies, one or none, and so many corners
abbrev pub element_room : ℕ → ℕ → Rooms
element_room bodies corners = room 0 0 0 0 corners 1 bodies 0 0

-- so many parameters, and so many loop parts, of a body that has its own room already
abbrev pub body_room : ℕ → ℕ → Rooms
body_room parameters parts = room 0 0 0 0 0 0 0 parameters parts

-- ---- a line: n words follow its keyword. Of a curv two, of a surf four are its range; of a parm one is its direction; a part of a loop has three
abbrev pub kind_room : VertexKind → Rooms
kind_room Geometric = room 1 0 0 0 0 0 0 0 0
kind_room Texture = room 0 1 0 0 0 0 0 0 0
kind_room Normal = room 0 0 1 0 0 0 0 0 0
kind_room Parametric = room 0 0 0 1 0 0 0 0 0

abbrev pub carried_room : carried.Carried → ℕ → Rooms
carried_room (Vertex k) n = kind_room k
carried_room (Element k) n = element_room 0 n
carried_room (Body k) n = element_room 1 (n - range_words k)
carried_room Parameters n = body_room (n - 1) 0
carried_room Trim n = body_room 0 (n / 3)
carried_room Hole n = body_room 0 (n / 3)
carried_room End n = no_room
carried_room BodyType n = no_room
carried_room Degree n = no_room
carried_room Group n = no_room
carried_room Smoothing n = no_room
carried_room Material n = no_room
carried_room PassedOver n = no_room

abbrev pub room_for : Statement → ℕ → Rooms
room_for (Carried k) n = carried_room k n
room_for Refused n = no_room
room_for Unknown n = no_room

abbrev pub room_of_words : List Word → Rooms
room_of_words [] = no_room
room_of_words (w ∷ ws) = room_for (statement_of w.bytes) (length ws)

-- ---- all lines, up to the first with a byte that is not allowed: reading stops there
abbrev pub up_to : Option ℕ → Rooms → Rooms
up_to none r = r
up_to (some p) r = no_room

abbrev pub rooms_of_lines : List JoinedLine → Rooms
rooms_of_lines [] = no_room
rooms_of_lines (l ∷ ls) = up_to (bad_of l) (both (room_of_words (words_of l)) (rooms_of_lines ls))

-- "text over 16,777,216 bytes" is refused whatever it says
unfoldable pub rooms_of_text : List ℕ → Rooms
rooms_of_text s = cond (leb (length s) 16777216) (rooms_of_lines (lines_of s)) no_room
