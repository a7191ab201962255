-- Used entries that are lent, group by group.
use Prim.Native.Nat.{◌*◌}
use mathlib.Core.Path.{◌≡◌, refl}
use mathlib.Core.Bool.{Bool, true, false, ◌&&◌}
use lib.ListN.{length}
use lib.Dec.{leb}
use Rattle.lists.proofs.Tests.{and_left, and_right, and_both}
use Rattle.tables.specs.VertexTables.{vertex_lengths, vertex_within}
use Rattle.tables.specs.ElementTables.{element_lengths, element_within}
use Rattle.tables.specs.BodyTables.{body_lengths, body_within}
use Rattle.tables.specs.Tables.{Tables}
use Rattle.tables.specs.declared.Used.{Used}
use Rattle.tables.proofs.Within.{VerticesWithin, ElementsWithin, BodiesWithin, vertices-parts, parts-vertices, elements-parts, parts-elements, bodies-parts, parts-bodies}
use Rattle.tables.specs.UsedRooms.{used_vertices, used_elements, used_bodies}
use Rattle.table_rules.specs.Whole.{lent_all}

pub record Lent (used : Used) (t : Tables) : Type 0 where
  pub vertices : VerticesWithin (used_vertices used) (vertex_lengths t.vertices)
  pub elements : ElementsWithin (used_elements used) (element_lengths t.elements)
  pub bodies : BodiesWithin (used_bodies used) (body_lengths t.bodies)

module _ (used : Used) (t : Tables) where
  abbrev v : Bool
  v = vertex_within (used_vertices used) (vertex_lengths t.vertices)

  abbrev e : Bool
  e = element_within (used_elements used) (element_lengths t.elements)

  abbrev b : Bool
  b = body_within (used_bodies used) (body_lengths t.bodies)

  pub lent-facts : lent_all used t ≡ true → Lent used t
  unfolding lent_all
  lent-facts h =
      record {
        vertices = vertices-parts _ _ (and_left v e (and_left (v && e) b h));
        elements = elements-parts _ _ (and_right v e (and_left (v && e) b h));
        bodies = bodies-parts _ _ (and_right (v && e) b h);
      }

  pub lent_of : Lent used t → lent_all used t ≡ true
  unfolding lent_all
  lent_of k = and_both (and_both (parts-vertices _ _ k.vertices) (parts-elements _ _ k.elements)) (parts-bodies _ _ k.bodies)

-- eight tests in a row, the first of them a group's, as the tests of three groups
grouped : (v c e b r p l s : Bool) → (v && c && e && b && r && p && l && s) ≡ (v && (c && e) && (b && r && p && l && s))
grouped false c e b r p l s = refl
grouped true false e b r p l s = refl
grouped true true false b r p l s = refl
grouped true true true b r p l s = refl

-- the tests of the eleven tables in the order in which they are lent
pub in_a_row : (used : Used) (t : Tables) →
    (leb (4 * used.v) (length t.vertices.v) && leb (3 * used.vt) (length t.vertices.vt) && leb (3 * used.vn) (length t.vertices.vn) && leb (4 * used.vp) (length t.vertices.vp)
    && leb used.corners (length t.elements.corners) && leb (9 * used.elements) (length t.elements.elements) && leb (9 * used.bodies) (length t.bodies.bodies)
    && leb (4 * used.bodies) (length t.bodies.ranges) && leb used.parameters (length t.bodies.parameters) && leb (2 * used.loops) (length t.bodies.loops)
    && leb (2 * used.loops) (length t.bodies.spans))
    ≡ lent_all used t
unfolding lent_all
in_a_row used t =
    grouped (vertex_within (used_vertices used) (vertex_lengths t.vertices)) (leb used.corners (length t.elements.corners)) (leb (9 * used.elements) (length t.elements.elements))
    (leb (9 * used.bodies) (length t.bodies.bodies)) (leb (4 * used.bodies) (length t.bodies.ranges)) (leb used.parameters (length t.bodies.parameters))
    (leb (2 * used.loops) (length t.bodies.loops)) (leb (2 * used.loops) (length t.bodies.spans))
