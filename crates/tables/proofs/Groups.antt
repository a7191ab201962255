-- Tables are equal that are equal group by group, and a group that is equal table by table; rooms likewise.
use Prim.Native.Nat.{ℕ}
use mathlib.Core.Path.{◌≡◌}
use mathlib.Core.List.{List}
use lib.IntN.{ℤ}
use Rattle.tables.specs.VertexTables.{VertexTables, vertex_tables, VertexRooms}
use Rattle.tables.specs.ElementTables.{ElementTables, element_tables, ElementRooms}
use Rattle.tables.specs.BodyTables.{BodyTables, body_tables, BodyRooms}
use Rattle.tables.specs.Tables.{Tables}

pub vertex-tables-eq : {v v' vt vt' vn vn' vp vp' : List ℤ} → v ≡ v' → vt ≡ vt' → vn ≡ vn' → vp ≡ vp' → vertex_tables v vt vn vp ≡ vertex_tables v' vt' vn' vp'
vertex-tables-eq v vt vn vp = cc

pub element-tables-eq : {corners corners' elements elements' : List ℕ} → corners ≡ corners' → elements ≡ elements' → element_tables corners elements ≡ element_tables corners' elements'
element-tables-eq corners elements = cc

pub body-tables-eq : {bodies bodies' : List ℕ} {ranges ranges' parameters parameters' : List ℤ} {loops loops' : List ℕ} {spans spans' : List ℤ}
    → bodies ≡ bodies' → ranges ≡ ranges' → parameters ≡ parameters' → loops ≡ loops' → spans ≡ spans'
    → body_tables bodies ranges parameters loops spans ≡ body_tables bodies' ranges' parameters' loops' spans'
body-tables-eq bodies ranges parameters loops spans = cc

pub tables-eq : {v v' : VertexTables} {e e' : ElementTables} {b b' : BodyTables} → v ≡ v' → e ≡ e' → b ≡ b'
    → ◌≡◌ {A = Tables} (record { vertices = v; elements = e; bodies = b }) (record { vertices = v'; elements = e'; bodies = b' })
tables-eq v e b = cc

pub vertex-rooms-eq : {v v' vt vt' vn vn' vp vp' : ℕ} → v ≡ v' → vt ≡ vt' → vn ≡ vn' → vp ≡ vp'
    → ◌≡◌ {A = VertexRooms} (record { v = v; vt = vt; vn = vn; vp = vp }) (record { v = v'; vt = vt'; vn = vn'; vp = vp' })
vertex-rooms-eq v vt vn vp = cc

pub element-rooms-eq : {corners corners' elements elements' : ℕ} → corners ≡ corners' → elements ≡ elements'
    → ◌≡◌ {A = ElementRooms} (record { corners = corners; elements = elements }) (record { corners = corners'; elements = elements' })
element-rooms-eq corners elements = cc

pub body-rooms-eq : {bodies bodies' ranges ranges' parameters parameters' loops loops' spans spans' : ℕ}
    → bodies ≡ bodies' → ranges ≡ ranges' → parameters ≡ parameters' → loops ≡ loops' → spans ≡ spans'
    → ◌≡◌ {A = BodyRooms} (record { bodies = bodies; ranges = ranges; parameters = parameters; loops = loops; spans = spans })
    (record { bodies = bodies'; ranges = ranges'; parameters = parameters'; loops = loops'; spans = spans' })
body-rooms-eq bodies ranges parameters loops spans = cc
