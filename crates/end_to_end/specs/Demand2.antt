-- Must be believed: a promise reaches every definition of this file.
-- Demand 2: a file is accepted exactly when it obeys the rules and its records find room; its tables are what the rules say; its tidy text is one fixed form, read back to tables that agree, and the same for two files exactly when their tables agree.
use Rattle.refusals.specs.Reasons.{reason_number}
use Rattle.refusals.specs.declared.Refusal.{Refusal}
use Rattle.end_to_end.specs.EntryPoints.{as_read, Reader, Tidier}
use Rattle.std.specs.Prelude.{ℕ, ◌≤◌, ◌<◌, min, ◌≡◌, ◌⊎◌, List, length, take, drop, Err}
use Rattle.tables.specs.Tables.{Tables}
use Rattle.tables.specs.declared.Used.{Used}
use Rattle.model.specs.Model.{Model}
use Rattle.model.specs.Read.{read, refused, read_of}
use Rattle.model.specs.Layout.{tables_of, used_of}
use Rattle.reader.specs.Reading.{rooms_of, ReadAnswer}
use Rattle.tidy_form.specs.declared.Weights.{Weights}
use Rattle.tidy_form.specs.Printed.{tidy_text}
use Rattle.tidy_form.specs.Agree.{TablesAgree}
use Rattle.tidier.specs.Tidying.{TidyAnswer, as_written, as_too_long}

-- "Then the tables hold what those rules say.": of the file m, read into the tables S
pub record AcceptedReading (S : Tables) (m : Model) (r : ReadAnswer) : Type 0 where
  pub answer : r.answer ≡ as_read (used_of m)
  pub tables : r.tables ≡ tables_of (rooms_of S) m

-- "reading that form gives the same tables, apart from where names stand and the blanks between them": the form is the text w, read into the tables T;
-- the file was s, which left the tables S with u of them used
pub record ReadBack (reads : Reader) (w : List ℕ) (T : Tables) (s : List ℕ) (S : Tables) (u : Used) : Type 0 where
  pub answer : (reads w T).answer ≡ as_read u
  pub tables : TablesAgree w (reads w T).tables u s S u

-- a tidying of the text s that writes n bytes, the tables S and the buffer a lent: it leaves the tables that reading leaves, "success writes only the text",
-- and the text is read back into any tables of those lengths
pub record WrittenTidying (reads : Reader) (s : List ℕ) (S : Tables) (a : List ℕ) (n : ℕ) (u : Used) (r : TidyAnswer) : Type 0 where
  pub read : (reads s S).answer ≡ as_read u
  pub tables : r.tables ≡ (reads s S).tables
  pub room : n ≤ length a
  pub behind : drop n r.out ≡ drop n a
  pub back : (T : Tables) → rooms_of T ≡ rooms_of S → ReadBack reads (take n r.out) T s r.tables u

-- a reading that is refused with n at the place p
pub record RefusedWith (n p : ℕ) (r : ReadAnswer) : Type 0 where
  pub refusal : Refusal
  pub answer : r.answer ≡ Err refusal
  pub number : reason_number refusal.reason ≡ n
  pub place : refusal.place ≡ p

pub record Demand2 (reads : Reader) (tidies : Tidier) : Type 0 where
  -- "A file is accepted exactly when it obeys the OBJ rules as set down in document 01 and its records find room."
  pub accepts : (s : List ℕ) (S : Tables) (m : Model) → read_of (rooms_of S) s ≡ read m → AcceptedReading S m (reads s S)
  pub refuses : (s : List ℕ) (S : Tables) (n p : ℕ) → read_of (rooms_of S) s ≡ refused n p → RefusedWith n p (reads s S)
  -- "Tidying writes an accepted file in one fixed form", one for each choice of weights; 16 exactly where its text passes the lent buffer or 16,777,216 bytes, with the text's length,
  -- or 16,777,217 where it passes that
  pub writes : (c : Weights) (s : List ℕ) (S : Tables) (a : List ℕ) (m : Model) → read_of (rooms_of S) s ≡ read m → length (tidy_text c m) ≤ length a → length (tidy_text c m) ≤ 16777216
      → (tidies c s S a).answer ≡ as_written (length (tidy_text c m)) (used_of m)
  pub sixteen : (c : Weights) (s : List ℕ) (S : Tables) (a : List ℕ) (m : Model) → read_of (rooms_of S) s ≡ read m → (length a < length (tidy_text c m)) ⊎ (16777216 < length (tidy_text c m))
      → (tidies c s S a).answer ≡ as_too_long (min (length (tidy_text c m)) 16777217) (used_of m)
  pub form : (c : Weights) (s : List ℕ) (S : Tables) (a : List ℕ) (m : Model) → read_of (rooms_of S) s ≡ read m → (n : ℕ) (u : Used) → (tidies c s S a).answer ≡ as_written n u
      → take n (tidies c s S a).out ≡ tidy_text c m
  pub written : (c : Weights) (s : List ℕ) (S : Tables) (a : List ℕ) (n : ℕ) (u : Used) → (tidies c s S a).answer ≡ as_written n u → WrittenTidying reads s S a n u (tidies c s S a)
  -- "Two accepted files that can be tidied get the same tidy text exactly when their tables agree in that sense.": within one choice
  pub agree : (c : Weights) (s t : List ℕ) (S T : Tables) (a b : List ℕ) (n k : ℕ) (u w : Used) → (tidies c s S a).answer ≡ as_written n u → (tidies c t T b).answer ≡ as_written k w
      → take n (tidies c s S a).out ≡ take k (tidies c t T b).out → TablesAgree s (tidies c s S a).tables u t (tidies c t T b).tables w
  pub same : (c : Weights) (s t : List ℕ) (S T : Tables) (a b : List ℕ) (n k : ℕ) (u w : Used) → (tidies c s S a).answer ≡ as_written n u → (tidies c t T b).answer ≡ as_written k w
      → TablesAgree s (tidies c s S a).tables u t (tidies c t T b).tables w → take n (tidies c s S a).out ≡ take k (tidies c t T b).out
