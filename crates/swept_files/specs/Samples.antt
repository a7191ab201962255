-- Must be believed: a promise reaches every definition of this file.
-- Q-6, the retention sweep: what is promised of every sweep, for all used counts, tables and lists of new numbers.
use Rattle.std.specs.Prelude.{ℕ, ◌≤◌, ◌<◌, ◌≡◌, true, false, List, length, ℤ}
use Rattle.tables.specs.Tables.{Tables}
use Rattle.tables.specs.declared.Used.{Used}
use Rattle.model.specs.Model.{VertexKind}
use Rattle.table_rules.specs.Whole.{whole_obeys}
use Rattle.sweep.specs.Swept.{SweepAnswer, numbers_needed, sweep_into}
use Rattle.sampled_files.specs.Joined.{SampledAlike}
use Rattle.polyline.specs.Answers.{polyline_into}
use Rattle.sampler.specs.Demand3.{sampling}
use Rattle.swept_files.specs.Promises.{AllNamed, SameShown, SameCounts, SweepCounted, number_after, Renumbered, RestKept, Unchanged}

-- every point, run and polyline of an element is the same before and after
pub record SampledSame (u : Used) (t : Tables) (v : Used) (w : Tables) : Type 0 where
  pub samples : SampledAlike sampling u t v w
  pub polylines : (number : ℕ) (tolerance : ℤ) (at : ℕ) (points : List ℤ)
      → polyline_into u t number tolerance at points ≡ polyline_into v w number tolerance at points

-- what is promised of a sweep that is not refused
pub record SweepHolds (used : Used) (t : Tables) (numbers : List ℕ) (a : SweepAnswer) : Type 0 where
  pub shown : SameShown used t a.tables
  pub counts : SameCounts used a.outcome.used
  pub counted : (kind : VertexKind) → SweepCounted used t a kind
  pub renumbered : (kind : VertexKind) → Renumbered used t a kind (number_after kind used a.numbers)
  pub rest : RestKept used numbers a.numbers
  pub named : AllNamed a.outcome.used a.tables
  pub obeys : whole_obeys a.outcome.used a.tables ≡ true
  pub again : (list : List ℕ) → numbers_needed a.outcome.used ≤ length list → Unchanged a (sweep_into a.outcome.used a.tables list)
  pub sampled : SampledSame used t a.outcome.used a.tables

abbrev pub EverySweep : Type 0
EverySweep =
    (used : Used) (t : Tables) (numbers : List ℕ) → (sweep_into used t numbers).outcome.number ≡ 0 → SweepHolds used t numbers (sweep_into used t numbers)

-- "15 if any record (names aside) breaks a rule ..", "16 if the list of new numbers lacks room", and neither otherwise; "both leave all tables and the list as
-- they were"
pub record Refusals (used : Used) (t : Tables) (numbers : List ℕ) (a : SweepAnswer) : Type 0 where
  pub fifteen : whole_obeys used t ≡ false → a.outcome.number ≡ 15
  pub sixteen : whole_obeys used t ≡ true → length numbers < numbers_needed used → a.outcome.number ≡ 16
  pub given : whole_obeys used t ≡ true → numbers_needed used ≤ length numbers → a.outcome.number ≡ 0
  pub same_tables : (a.outcome.number ≡ 0 → ⊥) → a.tables ≡ t
  pub same_numbers : (a.outcome.number ≡ 0 → ⊥) → a.numbers ≡ numbers

abbrev pub EveryRefusal : Type 0
EveryRefusal = (used : Used) (t : Tables) (numbers : List ℕ) → Refusals used t numbers (sweep_into used t numbers)
