-- Must be believed: a promise reaches every definition of this file.
-- The lent tables of vertices: v, vt, vn, vp.
use Rattle.std.specs.Prelude.{ℕ, List, Bool, ◌&&◌, length, replicate, take, ℤ, pos, leb}
use Rattle.lists.specs.Lists.{filled}

pub record VertexTables : Type 0 where
  pub v : List ℤ
  pub vt : List ℤ
  pub vn : List ℤ
  pub vp : List ℤ

abbrev pub vertex_tables : List ℤ → List ℤ → List ℤ → List ℤ → VertexTables
vertex_tables v vt vn vp = record { v = v; vt = vt; vn = vn; vp = vp }

abbrev pub vertex_zeros : VertexTables → VertexTables
vertex_zeros t =
    vertex_tables (replicate (length t.v) (pos 0)) (replicate (length t.vt) (pos 0)) (replicate (length t.vn) (pos 0)) (replicate (length t.vp) (pos 0))

-- how many entries each has, or how many are needed
pub record VertexRooms : Type 0 where
  pub v : ℕ
  pub vt : ℕ
  pub vn : ℕ
  pub vp : ℕ

abbrev pub vertex_lengths : VertexTables → VertexRooms
vertex_lengths t = record { v = length t.v; vt = length t.vt; vn = length t.vn; vp = length t.vp }

abbrev pub vertex_within : VertexRooms → VertexRooms → Bool
vertex_within a b = leb a.v b.v && leb a.vt b.vt && leb a.vn b.vn && leb a.vp b.vp

-- "Entries after the used ones are 0."
abbrev pub vertex_filled : VertexRooms → VertexTables → VertexTables
vertex_filled R t = vertex_tables (filled R.v (pos 0) t.v) (filled R.vt (pos 0) t.vt) (filled R.vn (pos 0) t.vn) (filled R.vp (pos 0) t.vp)

-- the first so many entries of each
abbrev pub vertex_first : VertexRooms → VertexTables → VertexTables
vertex_first R t = vertex_tables (take R.v t.v) (take R.vt t.vt) (take R.vn t.vn) (take R.vp t.vp)
