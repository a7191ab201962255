-- Must be believed: a promise reaches every definition of this file.
-- An answer and what every lent table holds with it.
use Rattle.std.specs.Prelude.{ℕ, Result, Ok, Err}
use Rattle.refusals.specs.declared.Refusal.{Refusal}
use Rattle.refusals.specs.Reasons.{reason_number, reason_of}
use Rattle.tables.specs.VertexTables.{vertex_lengths}
use Rattle.tables.specs.ElementTables.{element_lengths}
use Rattle.tables.specs.BodyTables.{body_lengths}
use Rattle.tables.specs.Tables.{Tables, zeros}
use Rattle.tables.specs.declared.Used.{Used}
use Rattle.model.specs.Room.{Rooms}
use Rattle.model.specs.Read.{Answer, read, refused}
use Rattle.model.specs.Layout.{tables_of, used_of, none_used}

-- "14 is given exactly when the entries needed pass the lent length"
abbrev pub rooms_of : Tables → Rooms
rooms_of t = record { vertices = vertex_lengths t.vertices; elements = element_lengths t.elements; bodies = body_lengths t.bodies }

-- "Any answer that is an enum has a definition that gives this paper's number and values for each of the enum's cases": the number of refusal, 0 where
-- the text is read, its place, and the counts
pub record ReadOutcome : Type 0 where
  pub number : ℕ
  pub place : ℕ
  pub used : Used

abbrev pub read_outcome : Result Used Refusal → ReadOutcome
read_outcome (Ok used) = record { number = 0; place = 0; used = used }
read_outcome (Err r) = record { number = reason_number r.reason; place = r.place; used = none_used }

-- the answer, its number and values, and the tables' final contents
pub record ReadAnswer : Type 0 where
  pub answer : Result Used Refusal
  pub outcome : ReadOutcome
  pub tables : Tables

abbrev pub read_answer : Result Used Refusal → Tables → ReadAnswer
read_answer r t = record { answer = r; outcome = read_outcome r; tables = t }

-- the refusal of that number and place
abbrev pub refusal : ℕ → ℕ → Refusal
refusal n p = record { reason = reason_of n; place = p }

-- "Then the tables hold what those rules say"; "A refusal zeroes every lent table and every count."
abbrev pub answered : Tables → Answer → ReadAnswer
answered t (read m) = read_answer (Ok (used_of m)) (tables_of (rooms_of t) m)
answered t (refused n p) = read_answer (Err (refusal n p)) (zeros t)
