-- Must be believed: a promise reaches every definition of this file.
-- 01, "Records": "Tables are lent slices of 32-bit numbers, signed for millionths and unsigned for numbers and counts."
use Rattle.std.specs.Prelude.{ℕ, List, ℤ}
use Rattle.tables.specs.VertexTables.{VertexTables, vertex_tables, vertex_zeros}
use Rattle.tables.specs.ElementTables.{ElementTables, element_tables, element_zeros}
use Rattle.tables.specs.BodyTables.{BodyTables, body_tables, body_zeros}

-- the eleven lent slices, in three groups
pub record Tables : Type 0 where
  pub vertices : VertexTables
  pub elements : ElementTables
  pub bodies : BodyTables

-- the tables that eleven slices make, in the order in which they are lent
abbrev pub tables : List ℤ → List ℤ → List ℤ → List ℤ → List ℕ → List ℕ → List ℕ → List ℤ → List ℤ → List ℕ → List ℤ → Tables
tables v vt vn vp corners elements bodies ranges parameters loops spans =
    record { vertices = vertex_tables v vt vn vp; elements = element_tables corners elements; bodies = body_tables bodies ranges parameters loops spans }

-- "A refusal zeroes every lent table": the whole of its lent length
abbrev pub zeros : Tables → Tables
zeros t = record { vertices = vertex_zeros t.vertices; elements = element_zeros t.elements; bodies = body_zeros t.bodies }
