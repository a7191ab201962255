-- Room for a state is room in each of the three groups of tables: the one test taken apart. And rooms are equal that are equal group by group.
use mathlib.Core.Path.{◌≡◌}
use mathlib.Core.Bool.{true, ◌&&◌}
use Rattle.lists.proofs.Tests.{and_left, and_right, and_both}
use Rattle.tables.specs.VertexTables.{VertexRooms, vertex_within}
use Rattle.tables.specs.ElementTables.{ElementRooms, element_within}
use Rattle.tables.specs.BodyTables.{BodyRooms, body_within}
use Rattle.tables.proofs.Within.{VerticesWithin, ElementsWithin, BodiesWithin, vertices-parts, parts-vertices, elements-parts, parts-elements, bodies-parts, parts-bodies}
use Rattle.model.specs.Model.{State}
use Rattle.model.specs.Room.{Rooms, needed, within, fits}

pub record Within (a b : Rooms) : Type 0 where
  pub vertices : VerticesWithin a.vertices b.vertices
  pub elements : ElementsWithin a.elements b.elements
  pub bodies : BodiesWithin a.bodies b.bodies

pub within-parts : (a b : Rooms) → within a b ≡ true → Within a b
within-parts a b h =
    let v = vertex_within a.vertices b.vertices in
    let e = element_within a.elements b.elements in
    let w = body_within a.bodies b.bodies in
    let k = and_left (v && e) w h in
    record {
      vertices = vertices-parts a.vertices b.vertices (and_left v e k);
      elements = elements-parts a.elements b.elements (and_right v e k);
      bodies = bodies-parts a.bodies b.bodies (and_right (v && e) w h);
    }

pub parts_within : (a b : Rooms) → Within a b → within a b ≡ true
parts_within a b w =
    and_both
    (and_both (parts-vertices a.vertices b.vertices w.vertices) (parts-elements a.elements b.elements w.elements))
    (parts-bodies a.bodies b.bodies w.bodies)

pub fits-parts : (R : Rooms) (x : State) → fits R x ≡ true → Within (needed x) R
unfolding fits
fits-parts R x h = within-parts (needed x) R h

pub parts-fit : (R : Rooms) (x : State) → Within (needed x) R → fits R x ≡ true
unfolding fits
parts-fit R x w = parts_within (needed x) R w

pub rooms-eq : {v v' : VertexRooms} {e e' : ElementRooms} {b b' : BodyRooms} → v ≡ v' → e ≡ e' → b ≡ b'
    → ◌≡◌ {A = Rooms} (record { vertices = v; elements = e; bodies = b }) (record { vertices = v'; elements = e'; bodies = b' })
rooms-eq v e b = cc
