-- Must be believed: a promise reaches every definition of this file.
-- All the demands, of whatever is equal to the definitions that the entry points promise to be equal to.
use Rattle.std.specs.Prelude.{ℕ, ◌≡◌, List, ℤ}
use Rattle.tables.specs.Tables.{Tables}
use Rattle.tables.specs.declared.Used.{Used}
use Rattle.reader.specs.Reading.{read_into}
use Rattle.tidy_form.specs.declared.Weights.{Weights}
use Rattle.tidier.specs.Tidying.{tidy_into}
use Rattle.sampler.specs.Answers.{point_on_curve, point_on_surface, run_into}
use Rattle.end_to_end.specs.EntryPoints.{Reader, Tidier, Sampler}
use Rattle.end_to_end.specs.Demand1.{Demand1}
use Rattle.end_to_end.specs.Demand2.{Demand2}
use Rattle.end_to_end.specs.Demand3.{Demand3}

-- what `read`, `tidy`, `point_on_curve`, `point_on_surface` and `run_on_curve` ensure, of every text and every request
pub record Promised (reads : Reader) (tidies : Tidier) (samples : Sampler) : Type 0 where
  pub read : (s : List ℕ) (S : Tables) → reads s S ≡ read_into s S
  pub tidy : (c : Weights) (s : List ℕ) (S : Tables) (a : List ℕ) → tidies c s S a ≡ tidy_into c s S a
  pub curve : (u : Used) (t : Tables) (number : ℕ) (p : ℤ) → samples.curve u t number p ≡ point_on_curve u t number p
  pub surface : (u : Used) (t : Tables) (number : ℕ) (p q : ℤ) → samples.surface u t number p q ≡ point_on_surface u t number p q
  pub run : (u : Used) (t : Tables) (number steps at : ℕ) (points : List ℤ) → samples.run u t number steps at points ≡ run_into u t number steps at points

pub record Demands (reads : Reader) (tidies : Tidier) (samples : Sampler) : Type 0 where
  pub first : Demand1 reads tidies samples
  pub second : Demand2 reads tidies
  pub third : Demand3 reads tidies samples

abbrev pub Kept : Type 0
Kept = (reads : Reader) (tidies : Tidier) (samples : Sampler) → Promised reads tidies samples → Demands reads tidies samples
