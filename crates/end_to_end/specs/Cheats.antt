-- 01, "Promises and the cheats they stop": each cheat, whatever else it does, and that the demand named there stops it.
use Rattle.refusals.specs.declared.Refusal.{Refusal}
use Rattle.tidier.specs.Tidying.{as_written, as_too_long}
use Rattle.end_to_end.specs.EntryPoints.{as_read, Reader, Tidier, Sampler}
use Rattle.std.specs.Prelude.{ℕ, ◌+◌, ◌*◌, ◌≤◌, ◌≡◌, List, Err, take, get_or, ℤ, pos, ◌+ℤ◌, ◌≤ℤ◌}
use Rattle.tables.specs.Tables.{Tables}
use Rattle.tables.specs.declared.Used.{Used}
use Rattle.tidy_form.specs.declared.Weights.{Weights}
use Rattle.point_runs.specs.Runs.{tabulated}
use Rattle.sampler.specs.Points.{axes_of, curve_at}
use Rattle.sampler.specs.Answers.{element_of, body_of}
use Rattle.sampler.specs.Demand3.{sampling, Obeying, IsCurve}
use Rattle.refusals.specs.declared.Reason.{Reason}
use Rattle.end_to_end.specs.Demand1.{Outcomes}
use Rattle.end_to_end.specs.Demand2.{Demand2}
use Rattle.end_to_end.specs.Demand3.{Demand3}

-- "A reader that turns all files down, or gives one fixed set of tables, or touches no table": fixed for the tables lent, whatever the text
abbrev pub TurnsAllDown : Reader → Type 0
TurnsAllDown reads = (s : List ℕ) (S : Tables) → (f : Refusal) × ((reads s S).answer ≡ Err f)

abbrev pub FixedTables : Reader → Type 0
FixedTables reads = (s t : List ℕ) (S : Tables) → (reads s S).tables ≡ (reads t S).tables

abbrev pub TouchesNoTable : Reader → Type 0
TouchesNoTable reads = (s : List ℕ) (S : Tables) → (reads s S).tables ≡ S

-- "Used counts made up": the same for all that is read into the same tables
abbrev pub FixedCounts : Reader → Type 0
FixedCounts reads = (s t : List ℕ) (S : Tables) (u w : Used) → (reads s S).answer ≡ as_read u → (reads t S).answer ≡ as_read w → u ≡ w

-- "A tidier that copies its input"; "One that turns all away": by a choice of weights
abbrev pub CopiesItsInput : Weights → Tidier → Type 0
CopiesItsInput c tidies = (s : List ℕ) (S : Tables) (a : List ℕ) (n : ℕ) (u : Used) → (tidies c s S a).answer ≡ as_written n u → take n (tidies c s S a).out ≡ s

abbrev pub TurnsAllAway : Weights → Tidier → Type 0
TurnsAllAway c tidies = (s : List ℕ) (S : Tables) (a : List ℕ) → (k : ℕ) × (u : Used) × ((tidies c s S a).answer ≡ as_too_long k u)

-- "A sampler that refuses all, or gives one fixed point": the same at every parameter
abbrev pub RefusesAll : Sampler → Type 0
RefusesAll samples = (u : Used) (t : Tables) (number : ℕ) (p : ℤ) → (r : Reason) × ((samples.curve u t number p).answer ≡ Err r)

abbrev pub FixedPoint : Sampler → Type 0
FixedPoint samples = (u : Used) (t : Tables) (number : ℕ) (p q : ℤ) → (samples.curve u t number p).outcome ≡ (samples.curve u t number q).outcome

-- "A run that works out its first point and repeats it"
abbrev pub RepeatsFirst : Sampler → Type 0
RepeatsFirst samples =
    (u : Used) (t : Tables) (number steps at : ℕ) (points : List ℤ) (j axis : ℕ) → j ≤ steps
    → get_or (samples.run u t number steps at points).points (at + (axes_of (element_of t number) * j + axis)) (pos 0)
    ≡ get_or (samples.run u t number steps at points).points (at + axis) (pos 0)

-- "A sampler off by one within the bound": one more than the rounding rule gives
abbrev pub OffByOne : Sampler → Type 0
OffByOne samples =
    (u : Used) (t : Tables) (number : ℕ) (p : ℤ) (axis : ℕ)
    → get_or (samples.curve u t number p).outcome.coordinates axis (pos 0) ≡ get_or (sampling.curve u t number p).outcome.coordinates axis (pos 0) +ℤ pos 1

-- the part of demand 3 that stops it: a curve's point is the rounding rule's. The bound takes no part.
abbrev pub RoundedCurves : Sampler → Type 0
RoundedCurves samples =
    (u : Used) (t : Tables) (number : ℕ) (p : ℤ) → Obeying u t number → IsCurve t number → (body_of t number).start_u ≤ℤ p → p ≤ℤ (body_of t number).end_u
    → (samples.curve u t number p).outcome.coordinates ≡ tabulated (axes_of (element_of t number)) (curve_at t (element_of t number) (body_of t number) p)

pub record Stopped : Type 0 where
  pub turns-all-down : (reads : Reader) (tidies : Tidier) → TurnsAllDown reads → Demand2 reads tidies → ⊥
  pub fixed-tables : (reads : Reader) (tidies : Tidier) → FixedTables reads → Demand2 reads tidies → ⊥
  pub touches-no-table : (reads : Reader) (tidies : Tidier) → TouchesNoTable reads → Demand2 reads tidies → ⊥
  pub fixed-counts : (reads : Reader) (tidies : Tidier) → FixedCounts reads → Demand2 reads tidies → ⊥
  pub copies-its-input : (c : Weights) (reads : Reader) (tidies : Tidier) → CopiesItsInput c tidies → Demand2 reads tidies → ⊥
  pub turns-all-away : (c : Weights) (reads : Reader) (tidies : Tidier) → TurnsAllAway c tidies → Demand2 reads tidies → ⊥
  pub refuses-all : (reads : Reader) (tidies : Tidier) (samples : Sampler) → RefusesAll samples → Outcomes reads tidies samples → Demand3 reads tidies samples → ⊥
  pub fixed-point : (reads : Reader) (tidies : Tidier) (samples : Sampler) → FixedPoint samples → Demand3 reads tidies samples → ⊥
  pub repeats-first : (reads : Reader) (tidies : Tidier) (samples : Sampler) → RepeatsFirst samples → Demand3 reads tidies samples → ⊥
  pub off-by-one : (samples : Sampler) → OffByOne samples → RoundedCurves samples → ⊥
