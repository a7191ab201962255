-- Must be believed: a promise reaches every definition of this file.
-- Q-6: the tables of an accepted file obey every rule that 15 names, so sweeping them is refused for want of room alone.
use Rattle.end_to_end.specs.EntryPoints.{as_read}
use Rattle.std.specs.Prelude.{ℕ, ◌≤◌, ◌<◌, ◌≡◌, true, List, length}
use Rattle.tables.specs.Tables.{Tables}
use Rattle.tables.specs.declared.Used.{Used}
use Rattle.model.specs.Model.{Model}
use Rattle.model.specs.Room.{Rooms}
use Rattle.model.specs.Read.{read, read_of}
use Rattle.model.specs.Layout.{tables_of, used_of}
use Rattle.reader.specs.Reading.{read_into}
use Rattle.table_rules.specs.Whole.{whole_obeys}
use Rattle.refusals.specs.declared.Reason.TheVariants.{NoOutputRoom}
use Rattle.sweep.specs.Swept.{numbers_needed, refused_sweep, sweep_into}

-- of the file's model, whatever the rooms
abbrev pub AcceptedObeys : Type 0
AcceptedObeys = (R : Rooms) (s : List ℕ) (m : Model) → read_of R s ≡ read m → whole_obeys (used_of m) (tables_of R m) ≡ true

pub record Sweeps (u : Used) (t : Tables) : Type 0 where
  pub whole : whole_obeys u t ≡ true
  -- 16 exactly where the list of new numbers lacks room
  pub given : (numbers : List ℕ) → numbers_needed u ≤ length numbers → (sweep_into u t numbers).outcome.number ≡ 0
  pub no_room : (numbers : List ℕ) → length numbers < numbers_needed u → sweep_into u t numbers ≡ refused_sweep NoOutputRoom t numbers
  pub never-15 : (numbers : List ℕ) → (sweep_into u t numbers).outcome.number ≡ 15 → ⊥

-- of every text and all tables lent, where reading fills them
abbrev pub AcceptedSweeps : Type 0
AcceptedSweeps = (s : List ℕ) (S : Tables) (u : Used) → (read_into s S).answer ≡ as_read u → Sweeps u (read_into s S).tables
