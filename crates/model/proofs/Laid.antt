-- The tables of a model hold its rows, from their first entries on: by the layout, table by table.
use Prim.Native.Nat.{◌*◌}
use mathlib.Core.Path.{◌≡◌, refl, sym}
use lib.ListN.{length}
use lib.IntN.{pos}
use Rattle.lists.specs.Lists.{flat}
use Rattle.tables.specs.Tables.{Tables}
use Rattle.tables.specs.Records.{corner_width}
use Rattle.tables.specs.declared.Used.{Used}
use Rattle.model.specs.Model.{Element, Model}
use Rattle.model.specs.Room.{Rooms, summed, part_count}
use Rattle.model.specs.Layout.{corner_rows, element_rows, bodies_of, body_rows, range_row, parameter_row, loop_rows, span_rows, itself, tables_of, used_of}
use Rattle.model.proofs.Rows.{parameter_rows-length}
use Rattle.model.proofs.Stands.{Stands, stands-filled}

-- the rows of a model, in its tables, and how many are used
pub record Laid (u : Used) (t : Tables) (m : Model) : Type 0 where
  pub v : Stands t.vertices.v 0 (flat itself m.vertices.v)
  pub vt : Stands t.vertices.vt 0 (flat itself m.vertices.vt)
  pub vn : Stands t.vertices.vn 0 (flat itself m.vertices.vn)
  pub vp : Stands t.vertices.vp 0 (flat itself m.vertices.vp)
  pub corners : Stands t.elements.corners 0 (flat corner_rows m.elements)
  pub elements : Stands t.elements.elements 0 (element_rows 0 0 m.elements)
  pub bodies : Stands t.bodies.bodies 0 (body_rows 0 0 (bodies_of m.elements))
  pub ranges : Stands t.bodies.ranges 0 (flat range_row (bodies_of m.elements))
  pub parameters : Stands t.bodies.parameters 0 (flat parameter_row (bodies_of m.elements))
  pub loops : Stands t.bodies.loops 0 (flat loop_rows (bodies_of m.elements))
  pub spans : Stands t.bodies.spans 0 (flat span_rows (bodies_of m.elements))
  pub used_v : u.v ≡ length m.vertices.v
  pub used-vt : u.vt ≡ length m.vertices.vt
  pub used-vn : u.vn ≡ length m.vertices.vn
  pub used-vp : u.vp ≡ length m.vertices.vp
  pub used-corners : u.corners ≡ corner_width * summed (λ (e : Element). length e.corners) m.elements
  pub used-elements : u.elements ≡ length m.elements
  pub used-bodies : u.bodies ≡ length (bodies_of m.elements)
  pub used-parameters : u.parameters ≡ length (flat parameter_row (bodies_of m.elements))
  pub used-loops : u.loops ≡ summed part_count (bodies_of m.elements)

pub laid : (R : Rooms) (m : Model) → Laid (used_of m) (tables_of R m) m
unfolding tables_of used_of
laid R m =
    let x = m.vertices in
    let es = m.elements in
    let bs = bodies_of es in
    record {
      v = stands-filled R.vertices.v (pos 0) (flat itself x.v);
      vt = stands-filled R.vertices.vt (pos 0) (flat itself x.vt);
      vn = stands-filled R.vertices.vn (pos 0) (flat itself x.vn);
      vp = stands-filled R.vertices.vp (pos 0) (flat itself x.vp);
      corners = stands-filled R.elements.corners 0 (flat corner_rows es);
      elements = stands-filled R.elements.elements 0 (element_rows 0 0 es);
      bodies = stands-filled R.bodies.bodies 0 (body_rows 0 0 bs);
      ranges = stands-filled R.bodies.ranges (pos 0) (flat range_row bs);
      parameters = stands-filled R.bodies.parameters (pos 0) (flat parameter_row bs);
      loops = stands-filled R.bodies.loops 0 (flat loop_rows bs);
      spans = stands-filled R.bodies.spans (pos 0) (flat span_rows bs);
      used_v = refl;
      used-vt = refl;
      used-vn = refl;
      used-vp = refl;
      used-corners = refl;
      used-elements = refl;
      used-bodies = refl;
      used-parameters = sym (parameter_rows-length bs);
      used-loops = refl;
    }
