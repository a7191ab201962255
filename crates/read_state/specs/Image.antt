-- What the tables hold in the middle of a text: the records so far, and of a body that has no end yet its element, controls, range and loops.
use Rattle.std.specs.Prelude.{List, [], ◌∷◌, ◌++◌}
use Rattle.std.proofs.Math.Option.{Option, none, some}
use Rattle.lists.specs.Lists.{flat}
use Rattle.tables.specs.BodyTables.{BodyTables, body_tables, BodyRooms, body_filled}
use Rattle.tables.specs.Tables.{Tables}
use Rattle.model.specs.Model.{free, Body, Element, Open, State}
use Rattle.model.specs.Room.{Rooms}
use Rattle.model.specs.Layout.{body_rows, bodies_of, range_row, parameter_row, loop_rows, span_rows, vertex_tables_of, element_tables_of}

abbrev pub open_element : Option Open → List Element
open_element none = []
open_element (some o) = record { kind = free o.body; corners = o.controls; names = o.names } ∷ []

abbrev pub open_body : Option Open → List Body
open_body none = []
open_body (some o) = o.body ∷ []

abbrev pub elements_in : State → List Element
elements_in x = x.model.elements ++ open_element x.open-body

abbrev pub bodies_in : State → List Body
bodies_in x = bodies_of x.model.elements ++ open_body x.open-body

abbrev pub body_image : BodyRooms → State → BodyTables
body_image R x =
    let ended = bodies_of x.model.elements in
    body_filled R (body_tables (body_rows 0 0 ended) (flat range_row (bodies_in x)) (flat parameter_row ended) (flat loop_rows (bodies_in x)) (flat span_rows (bodies_in x)))

unfoldable pub image_of : Rooms → State → Tables
image_of R x =
    record {
      vertices = vertex_tables_of R.vertices x.model.vertices;
      elements = element_tables_of R.elements (elements_in x);
      bodies = body_image R.bodies x;
    }
