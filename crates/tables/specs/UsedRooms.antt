-- Must be believed: a promise reaches every definition of this file.
-- How many entries the used records take, as docs/RECORDS.md lists them: the corners are counted in numbers, the ranges with the bodies, the spans with the loop parts.
use Rattle.std.specs.Prelude.{◌*◌}
use Rattle.tables.specs.VertexTables.{VertexRooms}
use Rattle.tables.specs.ElementTables.{ElementRooms}
use Rattle.tables.specs.BodyTables.{BodyRooms}
use Rattle.tables.specs.Records.{v_width, vt_width, vn_width, vp_width, element_width, body_width, range_width, loop_width, span_width}
use Rattle.tables.specs.declared.Used.{Used}

abbrev pub used_vertices : Used → VertexRooms
used_vertices used = record { v = v_width * used.v; vt = vt_width * used.vt; vn = vn_width * used.vn; vp = vp_width * used.vp }

abbrev pub used_elements : Used → ElementRooms
used_elements used = record { corners = used.corners; elements = element_width * used.elements }

abbrev pub used_bodies : Used → BodyRooms
used_bodies used =
    record { bodies = body_width * used.bodies; ranges = range_width * used.bodies; parameters = used.parameters; loops = loop_width * used.loops; spans = span_width * used.loops }
