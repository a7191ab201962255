-- Must be believed: a promise reaches every definition of this file.
-- Demand 1: "either read or refused with a number and a place"; "A refused file leaves every lent table all zeros; a refused tidying or sampling call changes nothing in the buffer it would have filled."
use Rattle.refusals.specs.declared.Refusal.{Refusal}
use Rattle.end_to_end.specs.EntryPoints.{as_read, Reader, Tidier, Sampler}
use Rattle.std.specs.Prelude.{ℕ, ◌≤◌, ◌≡◌, List, Err, ℤ}
use Rattle.tables.specs.Tables.{Tables, zeros}
use Rattle.tables.specs.declared.Used.{Used}
use Rattle.model.specs.Layout.{none_used}
use Rattle.reader.specs.Reading.{read_outcome, ReadAnswer}
use Rattle.tidy_form.specs.declared.Weights.{Weights}
use Rattle.tidier.specs.declared.TidyError.TheVariants as tidying
use Rattle.tidier.specs.Tidying.{tidy_outcome, TidyAnswer, as_too_long}
use Rattle.refusals.specs.Reasons.{reason_number}
use Rattle.refusals.specs.declared.Reason.{Reason}
use Rattle.sampler.specs.Answers.{point_outcome, run_outcome, RunAnswer}

-- "Any answer that is an enum has a definition that gives this paper's number and values for each of the enum's cases": each answer with those of its case
pub record Outcomes (reads : Reader) (tidies : Tidier) (samples : Sampler) : Type 0 where
  pub reading : (s : List ℕ) (S : Tables) → (reads s S).outcome ≡ read_outcome (reads s S).answer
  pub tidying : (c : Weights) (s : List ℕ) (S : Tables) (a : List ℕ) → (tidies c s S a).outcome ≡ tidy_outcome (tidies c s S a).answer
  pub curve : (u : Used) (t : Tables) (number : ℕ) (p : ℤ) → (samples.curve u t number p).outcome ≡ point_outcome (samples.curve u t number p).answer
  pub surface : (u : Used) (t : Tables) (number : ℕ) (p q : ℤ) → (samples.surface u t number p q).outcome ≡ point_outcome (samples.surface u t number p q).answer
  pub run : (u : Used) (t : Tables) (number steps at : ℕ) (points : List ℤ)
      → (samples.run u t number steps at points).outcome ≡ run_outcome (samples.run u t number steps at points).answer

-- the number of a refusal is one of 01's table, so that 0 says that nothing was refused
pub record Between (first last n : ℕ) : Type 0 where
  pub least : first ≤ n
  pub most : n ≤ last

-- a reading that is refused with n, the tables S lent
pub record RefusedReading (S : Tables) (n : ℕ) (r : ReadAnswer) : Type 0 where
  pub number : Between 1 14 n
  pub tables : r.tables ≡ zeros S
  pub counts : r.outcome.used ≡ none_used

-- a tidying of the text s that is refused with f, the tables S and the buffer a lent: it is the reader's refusal
pub record RefusedTidying (reads : Reader) (s : List ℕ) (S : Tables) (a : List ℕ) (f : Refusal) (r : TidyAnswer) : Type 0 where
  pub read : (reads s S).answer ≡ Err f
  pub tables : r.tables ≡ zeros S
  pub counts : r.outcome.used ≡ none_used
  pub out : r.out ≡ a

-- "16 at place 0, the tables then filled": as reading fills them, with the counts u
pub record LongTidying (reads : Reader) (s : List ℕ) (S : Tables) (a : List ℕ) (u : Used) (r : TidyAnswer) : Type 0 where
  pub read : (reads s S).answer ≡ as_read u
  pub tables : r.tables ≡ (reads s S).tables
  pub out : r.out ≡ a

-- a run that is refused with n: the point table is as it was lent
pub record RefusedRun (lent : List ℤ) (n : ℕ) (r : RunAnswer) : Type 0 where
  pub number : Between 15 19 n
  pub points : r.points ≡ lent

pub record Demand1 (reads : Reader) (tidies : Tidier) (samples : Sampler) : Type 0 where
  pub outcomes : Outcomes reads tidies samples
  pub refused-reading : (s : List ℕ) (S : Tables) (f : Refusal) → (reads s S).answer ≡ Err f → RefusedReading S (reason_number f.reason) (reads s S)
  pub refuses : (c : Weights) (s : List ℕ) (S : Tables) (a : List ℕ) (f : Refusal) → (reads s S).answer ≡ Err f → (tidies c s S a).answer ≡ Err (tidying.Refused f)
  pub refused-tidying : (c : Weights) (s : List ℕ) (S : Tables) (a : List ℕ) (f : Refusal) → (tidies c s S a).answer ≡ Err (tidying.Refused f) → RefusedTidying reads s S a f (tidies c s S a)
  pub long-tidying : (c : Weights) (s : List ℕ) (S : Tables) (a : List ℕ) (k : ℕ) (u : Used) → (tidies c s S a).answer ≡ as_too_long k u → LongTidying reads s S a u (tidies c s S a)
  pub refused-curve : (u : Used) (t : Tables) (number : ℕ) (p : ℤ) (r : Reason) → (samples.curve u t number p).answer ≡ Err r → Between 15 19 (reason_number r)
  pub refused-surface : (u : Used) (t : Tables) (number : ℕ) (p q : ℤ) (r : Reason) → (samples.surface u t number p q).answer ≡ Err r → Between 15 19 (reason_number r)
  pub refused-run : (u : Used) (t : Tables) (number steps at : ℕ) (points : List ℤ) (r : Reason) → (samples.run u t number steps at points).answer ≡ Err r
      → RefusedRun points (reason_number r) (samples.run u t number steps at points)
