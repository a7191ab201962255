-- Must be believed: a promise reaches every definition of this file.
-- Q-6, the retention sweep: its answer, and what every lent table and the list of new numbers hold at the end, for all used counts and tables.
use Rattle.std.specs.Prelude.{ℕ, ◌+◌, ◌*◌, List, ◌++◌, cond, length, take, drop, leb, ℤ, Result, Ok, Err}
use Rattle.tables.specs.VertexTables.{vertex_tables, vertex_lengths, vertex_filled}
use Rattle.tables.specs.ElementTables.{element_tables, element_lengths, element_filled}
use Rattle.tables.specs.BodyTables.{body_lengths, body_filled, body_first}
use Rattle.tables.specs.Tables.{Tables}
use Rattle.tables.specs.Records.{element_width}
use Rattle.tables.specs.UsedRooms.{used_bodies}
use Rattle.tables.specs.declared.Used.{Used}
use Rattle.model.specs.Model.{VertexKind, geometric, texture, normal, parametric}
use Rattle.model.specs.Layout.{none_used}
use Rattle.table_rules.specs.Whole.{whole_obeys}
use Rattle.sweep.specs.Named.{used_of_kind, table_in, width_in, named, kept_upto, dropped_upto, new_numbers, kept_rows, corners_after}
use Rattle.sweep.specs.declared.Dropped.{Dropped}
use Rattle.sweep.specs.declared.Swept.{Swept}
use Rattle.refusals.specs.Reasons.{reason_number}
use Rattle.refusals.specs.declared.Reason.{Reason}
use Rattle.refusals.specs.declared.Reason.TheVariants.{BrokenRecord, NoOutputRoom}

-- ---- the answer

abbrev pub none_dropped : Dropped
none_dropped = record { v = 0; vt = 0; vn = 0; vp = 0 }

-- 01: "Any answer that is an enum has a definition that gives this paper's number and values for each of the enum's cases": the number of refusal, 0 where
-- the tables were swept, the used counts after it, and how many of each kind were dropped
pub record SweepOutcome : Type 0 where
  pub number : ℕ
  pub used : Used
  pub dropped : Dropped

abbrev pub sweep_outcome : Result Swept Reason → SweepOutcome
sweep_outcome (Ok s) = record { number = 0; used = s.used; dropped = s.dropped }
sweep_outcome (Err r) = record { number = reason_number r; used = none_used; dropped = none_dropped }

-- the answer, its number and values, and the final contents of the tables and of the list of new numbers
pub record SweepAnswer : Type 0 where
  pub answer : Result Swept Reason
  pub outcome : SweepOutcome
  pub tables : Tables
  pub numbers : List ℕ

abbrev pub sweep_answer : Result Swept Reason → Tables → List ℕ → SweepAnswer
sweep_answer r t numbers = record { answer = r; outcome = sweep_outcome r; tables = t; numbers = numbers }

-- ---- what is left

-- how many of a kind stay, and how many do not: "dropped is counted from the references alone"
abbrev pub kept_in : Used → Tables → VertexKind → ℕ
kept_in used t kind = kept_upto (named used t kind) (used_of_kind kind used)

abbrev pub dropped_in : Used → Tables → VertexKind → ℕ
dropped_in used t kind = dropped_upto (named used t kind) (used_of_kind kind used)

unfoldable pub swept_used : Used → Tables → Used
swept_used used t =
    record {
      v = kept_in used t geometric;
      vt = kept_in used t texture;
      vn = kept_in used t normal;
      vp = kept_in used t parametric;
      corners = used.corners;
      elements = used.elements;
      bodies = used.bodies;
      parameters = used.parameters;
      loops = used.loops;
    }

unfoldable pub dropped_of : Used → Tables → Dropped
dropped_of used t =
    record {
      v = dropped_in used t geometric;
      vt = dropped_in used t texture;
      vn = dropped_in used t normal;
      vp = dropped_in used t parametric;
    }

-- the rows of a kind that stay
abbrev pub rows_after : Used → Tables → VertexKind → List ℤ
rows_after used t kind = kept_rows (width_in kind) (named used t kind) (table_in kind t) (used_of_kind kind used)

-- "Entries after the used ones are 0", in every table
unfoldable pub swept_tables : Used → Tables → Tables
swept_tables used t =
    record {
      vertices = vertex_filled (vertex_lengths t.vertices)
          (vertex_tables (rows_after used t geometric) (rows_after used t texture) (rows_after used t normal) (rows_after used t parametric));
      elements = element_filled (element_lengths t.elements) (element_tables (corners_after used t) (take (element_width * used.elements) t.elements.elements));
      bodies = body_filled (body_lengths t.bodies) (body_first (used_bodies used) t.bodies);
    }

-- "for each old record, all v, then vt, vn, vp, its new number, or 0 if dropped"
unfoldable pub swept_numbers : Used → Tables → List ℕ
swept_numbers used t =
    new_numbers (named used t geometric) used.v ++ new_numbers (named used t texture) used.vt
    ++ new_numbers (named used t normal) used.vn ++ new_numbers (named used t parametric) used.vp

-- how many entries of the list that takes
abbrev pub numbers_needed : Used → ℕ
numbers_needed used = used.v + used.vt + used.vn + used.vp

-- ---- the whole

-- "both leave all tables and the list as they were"
abbrev pub refused_sweep : Reason → Tables → List ℕ → SweepAnswer
refused_sweep r t numbers = sweep_answer (Err r) t numbers

-- "in a lent list whose rest stays as it was"
abbrev pub swept_answer : Used → Tables → List ℕ → SweepAnswer
swept_answer used t numbers =
    sweep_answer (Ok (record { used = swept_used used t; dropped = dropped_of used t })) (swept_tables used t) (swept_numbers used t ++ drop (numbers_needed used) numbers)

-- "15 if any record .. breaks a rule ..; 16 if the list of new numbers lacks room"
unfoldable pub sweep_into : Used → Tables → List ℕ → SweepAnswer
sweep_into used t numbers =
    cond (whole_obeys used t)
    (cond (leb (numbers_needed used) (length numbers)) (swept_answer used t numbers) (refused_sweep NoOutputRoom t numbers))
    (refused_sweep BrokenRecord t numbers)
