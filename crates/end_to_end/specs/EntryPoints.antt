-- Must be believed: a promise reaches every definition of this file.
-- A reader and a tidier: the answer, the tables and the buffer that each leaves for every text and all that is lent; a tidier for each choice of weights. A `Sampler` is the same for points and runs.
use Rattle.refusals.specs.declared.Refusal.{Refusal}
use Rattle.std.specs.Prelude.{ℕ, List, Result, Ok}
use Rattle.tables.specs.Tables.{Tables}
use Rattle.tables.specs.declared.Used.{Used}
use Rattle.reader.specs.Reading.{ReadAnswer}
use Rattle.tidy_form.specs.declared.Weights.{Weights}
use Rattle.tidier.specs.Tidying.{TidyAnswer}
pub use Rattle.sampler.specs.Demand3.{Sampler}

abbrev pub Reader : Type 0
Reader = List ℕ → Tables → ReadAnswer

abbrev pub Tidier : Type 0
Tidier = Weights → List ℕ → Tables → List ℕ → TidyAnswer

-- a text that is read, with its counts
abbrev pub as_read : Used → Result Used Refusal
as_read u = Ok u
