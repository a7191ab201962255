-- Must be believed: a promise reaches every definition of this file.
-- The lent tables of bodies: their records and ranges, their parameters, and their loops with the spans of the parts.
use Rattle.std.specs.Prelude.{ℕ, List, Bool, ◌&&◌, length, replicate, take, ℤ, pos, leb}
use Rattle.lists.specs.Lists.{filled}

pub record BodyTables : Type 0 where
  pub bodies : List ℕ
  pub ranges : List ℤ
  pub parameters : List ℤ
  pub loops : List ℕ
  pub spans : List ℤ

abbrev pub body_tables : List ℕ → List ℤ → List ℤ → List ℕ → List ℤ → BodyTables
body_tables bodies ranges parameters loops spans = record { bodies = bodies; ranges = ranges; parameters = parameters; loops = loops; spans = spans }

abbrev pub body_zeros : BodyTables → BodyTables
body_zeros t =
    body_tables (replicate (length t.bodies) 0) (replicate (length t.ranges) (pos 0)) (replicate (length t.parameters) (pos 0))
    (replicate (length t.loops) 0) (replicate (length t.spans) (pos 0))

pub record BodyRooms : Type 0 where
  pub bodies : ℕ
  pub ranges : ℕ
  pub parameters : ℕ
  pub loops : ℕ
  pub spans : ℕ

abbrev pub body_lengths : BodyTables → BodyRooms
body_lengths t = record { bodies = length t.bodies; ranges = length t.ranges; parameters = length t.parameters; loops = length t.loops; spans = length t.spans }

abbrev pub body_within : BodyRooms → BodyRooms → Bool
body_within a b =
    leb a.bodies b.bodies && leb a.ranges b.ranges && leb a.parameters b.parameters && leb a.loops b.loops && leb a.spans b.spans

abbrev pub body_filled : BodyRooms → BodyTables → BodyTables
body_filled R t =
    body_tables (filled R.bodies 0 t.bodies) (filled R.ranges (pos 0) t.ranges) (filled R.parameters (pos 0) t.parameters)
    (filled R.loops 0 t.loops) (filled R.spans (pos 0) t.spans)

abbrev pub body_first : BodyRooms → BodyTables → BodyTables
body_first R t =
    body_tables (take R.bodies t.bodies) (take R.ranges t.ranges) (take R.parameters t.parameters) (take R.loops t.loops) (take R.spans t.spans)
