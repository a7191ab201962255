-- Must be believed: a promise reaches every definition of this file.
-- The whole of tidying: the answer, what every lent table holds at the end, and what the lent buffer holds, for every text and all lent lengths.
use Rattle.std.specs.Prelude.{ℕ, min, List, ◌++◌, Bool, cond, ◌&&◌, leb, length, drop, Result, Ok, Err}
use Rattle.refusals.specs.Reasons.{reason_number}
use Rattle.tables.specs.Tables.{Tables, zeros}
use Rattle.tables.specs.declared.Used.{Used}
use Rattle.model.specs.Read.{Answer, read, refused, read_of}
use Rattle.model.specs.Layout.{tables_of, used_of, none_used}
use Rattle.tidy_form.specs.declared.Weights.{Weights}
use Rattle.tidy_form.specs.Printed.{tidy_text}
use Rattle.read_lines.specs.Answered.{rooms_of, refusal}
use Rattle.tidier.specs.declared.Tidied.{Tidied}
use Rattle.tidier.specs.declared.TidyError.{TidyError}
use Rattle.tidier.specs.declared.TidyError.TheVariants.{TooLong, Refused}

-- the two answers that come with counts, by their values
abbrev pub as_written : ℕ → Used → Result Tidied TidyError
as_written n u = Ok (record { length = n; used = u })

abbrev pub as_too_long : ℕ → Used → Result Tidied TidyError
as_too_long k u = Err (TooLong k u)

-- "Any answer that is an enum has a definition that gives this paper's number and values for each of the enum's cases"; "Tidying gives the reader's refusals,
-- or 16 at place 0": the number of refusal, 0 where the text was written, its place, the length of the text written, with 16 the length that is needed, and the counts
pub record TidyOutcome : Type 0 where
  pub number : ℕ
  pub place : ℕ
  pub length : ℕ
  pub needed : ℕ
  pub used : Used

abbrev pub tidy_outcome : Result Tidied TidyError → TidyOutcome
tidy_outcome (Ok d) = record { number = 0; place = 0; length = d.length; needed = 0; used = d.used }
tidy_outcome (Err (TooLong k u)) = record { number = 16; place = 0; length = 0; needed = k; used = u }
tidy_outcome (Err (Refused r)) = record { number = reason_number r.reason; place = r.place; length = 0; needed = 0; used = none_used }

-- the answer, its number and values, and the final contents of the tables and of the lent buffer
pub record TidyAnswer : Type 0 where
  pub answer : Result Tidied TidyError
  pub outcome : TidyOutcome
  pub tables : Tables
  pub out : List ℕ

abbrev pub tidy_answer : Result Tidied TidyError → Tables → List ℕ → TidyAnswer
tidy_answer r t out = record { answer = r; outcome = tidy_outcome r; tables = t; out = out }

-- "if its text passes the lent buffer or 16,777,216 bytes": where w does neither
abbrev pub has_room : List ℕ → List ℕ → Bool
has_room w out = leb (length w) (length out) && leb (length w) 16777216

-- the length of a buffer in which w has room; where w passes 16,777,216 bytes none has, and it is one more than these
abbrev pub needed_for : List ℕ → ℕ
needed_for w = min (length w) 16777217

-- "16 at place 0, the tables then filled"; "A refused tidying or sampling leaves the output as it was; success writes only the text"
abbrev pub written : List ℕ → Used → Tables → List ℕ → TidyAnswer
written w used t out =
    cond (has_room w out) (tidy_answer (as_written (length w) used) t (w ++ drop (length w) out)) (tidy_answer (as_too_long (needed_for w) used) t out)

-- "A refusal zeroes every lent table and every count."
abbrev pub answered : Weights → Tables → Answer → List ℕ → TidyAnswer
answered c t (read m) out = written (tidy_text c m) (used_of m) (tables_of (rooms_of t) m) out
answered c t (refused n p) out = tidy_answer (Err (Refused (refusal n p))) (zeros t) out

-- what tidying the text s comes to by a choice of weights, with the tables t and the buffer out lent
unfoldable pub tidy_into : Weights → List ℕ → Tables → List ℕ → TidyAnswer
tidy_into c s t out = answered c t (read_of (rooms_of t) s) out
