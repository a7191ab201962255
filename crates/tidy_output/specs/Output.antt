-- Must be believed: a promise reaches every definition of this file.
-- 01, "The tidy text": what the program `tidy` prints.
use Rattle.std.specs.Prelude.{ℕ, min, List, [], ◌∷◌, ◌++◌, cond, leb, length, take, drop, Result, Ok, Err}
use Rattle.refusals.specs.Reasons.{reason_number}
use Rattle.refusals.specs.declared.Reason.TheVariants.{TextTooLong}
use Rattle.spellings.specs.Rows.{bytes}
use Rattle.references.specs.Written.{written_whole}
use Rattle.tables.specs.Tables.{Tables}
use Rattle.tidy_form.specs.declared.Weights.TheVariants.{WhenNeeded}
use Rattle.tidier.specs.Tidying.{TidyAnswer, tidy_answer, tidy_into}
use Rattle.tidier.specs.declared.Tidied.{Tidied}
use Rattle.tidier.specs.declared.TidyError.{TidyError}
use Rattle.tidier.specs.declared.TidyError.TheVariants.{TooLong, Refused}

-- "A refusal prints `refused 8 at 14` and LF"
unfoldable pub refusal_line : ℕ → ℕ → List ℕ
refusal_line n p = bytes "refused" ++ ((32 ∷ written_whole n) ++ (bytes " at" ++ ((32 ∷ written_whole p) ++ (10 ∷ []))))

-- what is printed for an answer of tidying, whose text stands at the front of out: the text; "16 at place 0"; the refusal. No place of a text passes
-- 4,294,967,295, the largest that is written.
abbrev pub answer_bytes : Result Tidied TidyError → List ℕ → List ℕ
answer_bytes (Ok d) out = take d.length out
answer_bytes (Err (TooLong k u)) out = refusal_line 16 0
answer_bytes (Err (Refused r)) out = refusal_line (reason_number r.reason) (min r.place 4294967295)

-- how many bytes at the front of the buffer are printed, with its final contents
pub record Printing : Type 0 where
  pub length : ℕ
  pub out : List ℕ

abbrev pub printing : ℕ → List ℕ → Printing
printing n m = record { length = n; out = m }

-- w is printed from the buffer l: it stands at its front; nothing is printed where it has no room there
abbrev pub printed_in : List ℕ → List ℕ → Printing
printed_in w l = cond (leb (length w) (length l)) (printing (length w) (w ++ drop (length w) l)) (printing 0 l)

-- the same with the final contents of the tables
pub record Output : Type 0 where
  pub printing : Printing
  pub tables : Tables

abbrev pub output : Printing → Tables → Output
output p t = record { printing = p; tables = t }

abbrev pub printed_for : TidyAnswer → Output
printed_for x = output (printed_in (answer_bytes x.answer x.out) x.out) x.tables

-- "The program takes 65,536 bytes; longer prints `refused 1 at 0`": the tables are then as they were. Q-11, "By default tidy now leaves w off"
unfoldable pub output_of : List ℕ → Tables → List ℕ → Output
output_of s t out = printed_for (cond (leb (length s) 65536) (tidy_into WhenNeeded s t out) (tidy_answer (Err (Refused (record { reason = TextTooLong; place = 0 }))) t out))
