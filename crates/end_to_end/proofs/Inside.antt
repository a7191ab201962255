-- What an answer says of the file behind it: the model that was read, its counts, its tables, its tidy text.
use Prim.Native.Nat.{ℕ, ◌≤◌}
use mathlib.Core.Path.{◌≡◌, refl, sym, ap, ◌∙◌}
use mathlib.Core.Bool.{Bool, true, false, cond}
use mathlib.Core.List.{List, ◌++◌}
use native.Mathlib.Omega.{arith}
use borrow.Author.Tests.{leb-true}
use lib.Dec.{leb}
use lib.ListN.{length, take, drop}
use lib.Seq.{take-append_seam, drop-append_seam}
use Rattle.read_lines.specs.Answered.{refusal}
use Rattle.tidier.specs.declared.TidyError.TheVariants.{Refused}
use Rattle.tidier.specs.declared.TidyError.{TidyError}
use Rattle.tidier.specs.declared.Tidied.{Tidied}
use Rattle.refusals.specs.declared.Refusal.{Refusal}
use Rattle.std.specs.Prelude.{Result, Err}
use Rattle.end_to_end.specs.EntryPoints.{as_read}
use Rattle.lists.proofs.Tests.{and_left, and_right}
use Rattle.tables.specs.Tables.{Tables, zeros}
use Rattle.tables.specs.declared.Used.{Used}
use Rattle.model.specs.Model.{Model}
use Rattle.model.specs.Room.{Rooms}
use Rattle.model.specs.Read.{Answer, read, refused, read_of}
use Rattle.model.specs.Layout.{tables_of, used_of}
use Rattle.reader.specs.Reading.{rooms_of, ReadAnswer, read_into}
use Rattle.reader.specs.Reading as reader
use Rattle.tidy_form.specs.declared.Weights.{Weights}
use Rattle.tidy_form.specs.Printed.{tidy_text}
use Rattle.tidier.specs.Tidying.{TidyAnswer, tidy_answer, has_room, needed_for, written, answered, tidy_into, as_written, as_too_long}

-- two answers of other cases are never equal
apart-read : {A : Type 0} (u : Used) (f : Refusal) → Err f ≡ as_read u → A
apart-read u f e = absurd (let z : ◌≡◌ {A = ℕ} 0 1 = cc in omega arith)

apart-written : {A : Type 0} (n : ℕ) (u : Used) (k : ℕ) (w : Used) → as_too_long k w ≡ as_written n u → A
apart-written n u k w e = absurd (let z : ◌≡◌ {A = ℕ} 0 1 = cc in omega arith)

apart-refused : {A : Type 0} (n : ℕ) (u : Used) (f : Refusal) → Err (Refused f) ≡ as_written n u → A
apart-refused n u f e = absurd (let z : ◌≡◌ {A = ℕ} 0 1 = cc in omega arith)

apart-long : {A : Type 0} (j : ℕ) (u : Used) (f : Refusal) → Err (Refused f) ≡ as_too_long j u → A
apart-long j u f e = absurd (let z : ◌≡◌ {A = ℕ} 0 1 = cc in omega arith)

-- ---- reading
pub record Accepted (s : List ℕ) (S : Tables) (u : Used) : Type 0 where
  pub model : Model
  pub is_read : read_of (rooms_of S) s ≡ read model
  pub used : used_of model ≡ u

-- the number and the place that 01's rules give, of a text that is refused with f
pub record TurnedDown (s : List ℕ) (S : Tables) (f : Refusal) : Type 0 where
  pub number : ℕ
  pub place : ℕ
  pub is-refused : read_of (rooms_of S) s ≡ refused number place
  pub same : refusal number place ≡ f

module _ (s : List ℕ) (S : Tables) where
  abbrev R : Rooms
  R = rooms_of S

  pub read_is : (x : Answer) → read_of R s ≡ x → read_into s S ≡ reader.answered S x
  unfolding read_into
  read_is x e = ap (reader.answered S) e

  pub accepted : (u : Used) → (read_into s S).answer ≡ as_read u → Accepted s S u
  accepted u h = go (read_of R s) refl
    where
      go : (x : Answer) → read_of R s ≡ x → Accepted s S u
      go (read m) e = let f : as_read (used_of m) ≡ as_read u = sym (ap (λ (r : ReadAnswer). r.answer) (read_is (read m) e)) ∙ h in record { model = m; is_read = e; used = cc }
      go (refused n p) e = apart-read u (refusal n p) (sym (ap (λ (r : ReadAnswer). r.answer) (read_is (refused n p) e)) ∙ h)

  pub turned_down : (f : Refusal) → (read_into s S).answer ≡ Err f → TurnedDown s S f
  turned_down f h = go (read_of R s) refl
    where
      go : (x : Answer) → read_of R s ≡ x → TurnedDown s S f
      go (read m) e = apart-read (used_of m) f (sym h ∙ ap (λ (r : ReadAnswer). r.answer) (read_is (read m) e))
      go (refused k q) e = let g : Err (refusal k q) ≡ Err f = sym (ap (λ (r : ReadAnswer). r.answer) (read_is (refused k q) e)) ∙ h in record { number = k; place = q; is-refused = e; same = cc }

-- ---- writing: w is the tidy text
pub record Wrote (w : List ℕ) (used : Used) (a : List ℕ) (n : ℕ) (u : Used) (out : List ℕ) : Type 0 where
  pub counts : used ≡ u
  pub short : length w ≤ 16777216
  pub room : n ≤ length a
  pub text : take n out ≡ w
  pub behind : drop n out ≡ drop n a

module _ (w : List ℕ) (used : Used) (t : Tables) (a : List ℕ) where
  written-with : (b : Bool) → has_room w a ≡ b → written w used t a ≡ cond b (tidy_answer (as_written (length w) used) t (w ++ drop (length w) a)) (tidy_answer (as_too_long (needed_for w) used) t a)
  written-with b e = ap (λ (c : Bool). cond c (tidy_answer (as_written (length w) used) t (w ++ drop (length w) a)) (tidy_answer (as_too_long (needed_for w) used) t a)) e

  its-answer : (r : TidyAnswer) → written w used t a ≡ r → (d : Result Tidied TidyError) → (written w used t a).answer ≡ d → r.answer ≡ d
  its-answer r e d h = sym (ap (λ (x : TidyAnswer). x.answer) e) ∙ h

  pub keeps-tables : (written w used t a).tables ≡ t
  keeps-tables = go (has_room w a) refl
    where
      go : (b : Bool) → has_room w a ≡ b → (written w used t a).tables ≡ t
      go true e = ap (λ (x : TidyAnswer). x.tables) (written-with true e)
      go false e = ap (λ (x : TidyAnswer). x.tables) (written-with false e)

  pub wrote : (n : ℕ) (u : Used) → (written w used t a).answer ≡ as_written n u → Wrote w used a n u (written w used t a).out
  wrote n u h = go (has_room w a) refl
    where
      go : (b : Bool) → has_room w a ≡ b → Wrote w used a n u (written w used t a).out
      go false e = apart-written n u (needed_for w) used (its-answer _ (written-with false e) (as_written n u) h)
      go true e =
          let f : as_written (length w) used ≡ as_written n u = its-answer _ (written-with true e) (as_written n u) h in
          let d : ◌≡◌ {A = Tidied} (record { length = length w; used = used }) (record { length = n; used = u }) = cc in
          let long : length w ≡ n = ap (λ (x : Tidied). x.length) d in
          let out : (written w used t a).out ≡ w ++ drop (length w) a = ap (λ (x : TidyAnswer). x.out) (written-with true e) in
          let fits : length w ≤ length a = leb-true (length w) (length a) (and_left (leb (length w) (length a)) (leb (length w) 16777216) e) in
          record {
            counts = ap (λ (x : Tidied). x.used) d;
            short = leb-true (length w) 16777216 (and_right (leb (length w) (length a)) (leb (length w) 16777216) e);
            room = omega arith;
            text = rw (out, ← long) (take-append_seam w (drop (length w) a));
            behind = rw (out, ← long) (drop-append_seam w (drop (length w) a));
          }

  pub too_long : (k : ℕ) (u : Used) → (written w used t a).answer ≡ as_too_long k u → (used ≡ u) × ((written w used t a).out ≡ a)
  too_long k u h = go (has_room w a) refl
    where
      go : (b : Bool) → has_room w a ≡ b → (used ≡ u) × ((written w used t a).out ≡ a)
      go true e = apart-written (length w) used k u (sym (its-answer _ (written-with true e) (as_too_long k u) h))
      go false e =
          let f : as_too_long (needed_for w) used ≡ as_too_long k u = its-answer _ (written-with false e) (as_too_long k u) h in
          (cc, ap (λ (x : TidyAnswer). x.out) (written-with false e))

  pub never-refused : {A : Type 0} (f : Refusal) → (written w used t a).answer ≡ Err (Refused f) → A
  never-refused {A} f h = go (has_room w a) refl
    where
      go : (b : Bool) → has_room w a ≡ b → A
      go true e = apart-refused (length w) used f (sym (its-answer _ (written-with true e) (Err (Refused f)) h))
      go false e = apart-long (needed_for w) used f (sym (its-answer _ (written-with false e) (Err (Refused f)) h))

-- ---- tidying
pub record Tidy (c : Weights) (s : List ℕ) (S : Tables) (a : List ℕ) (n : ℕ) (u : Used) : Type 0 where
  pub model : Model
  pub is_read : read_of (rooms_of S) s ≡ read model
  pub tables : (tidy_into c s S a).tables ≡ tables_of (rooms_of S) model
  pub rest : Wrote (tidy_text c model) (used_of model) a n u (tidy_into c s S a).out

pub record Long (c : Weights) (s : List ℕ) (S : Tables) (a : List ℕ) (u : Used) : Type 0 where
  pub model : Model
  pub is_read : read_of (rooms_of S) s ≡ read model
  pub tables : (tidy_into c s S a).tables ≡ tables_of (rooms_of S) model
  pub counts : used_of model ≡ u
  pub kept : (tidy_into c s S a).out ≡ a

pub record Down (c : Weights) (s : List ℕ) (S : Tables) (a : List ℕ) (f : Refusal) : Type 0 where
  pub down : TurnedDown s S f
  pub tables : (tidy_into c s S a).tables ≡ zeros S
  pub kept : (tidy_into c s S a).out ≡ a

module _ (c : Weights) (s : List ℕ) (S : Tables) (a : List ℕ) where
  pub tidy-is : (x : Answer) → read_of (rooms_of S) s ≡ x → tidy_into c s S a ≡ answered c S x a
  unfolding tidy_into
  tidy-is x e = ap (λ (y : Answer). answered c S y a) e

  abbrev of : Model → TidyAnswer
  of m = written (tidy_text c m) (used_of m) (tables_of (rooms_of S) m) a

  told : (x : Answer) → read_of (rooms_of S) s ≡ x → (d : Result Tidied TidyError) → (tidy_into c s S a).answer ≡ d → (answered c S x a).answer ≡ d
  told x e d h = sym (ap (λ (r : TidyAnswer). r.answer) (tidy-is x e)) ∙ h

  its-tables : (m : Model) → read_of (rooms_of S) s ≡ read m → (tidy_into c s S a).tables ≡ tables_of (rooms_of S) m
  its-tables m e = ap (λ (r : TidyAnswer). r.tables) (tidy-is (read m) e) ∙ keeps-tables (tidy_text c m) (used_of m) (tables_of (rooms_of S) m) a

  pub tidied-file : (n : ℕ) (u : Used) → (tidy_into c s S a).answer ≡ as_written n u → Tidy c s S a n u
  tidied-file n u h = go (read_of (rooms_of S) s) refl
    where
      go : (x : Answer) → read_of (rooms_of S) s ≡ x → Tidy c s S a n u
      go (refused k p) e = apart-refused n u (refusal k p) (told (refused k p) e (as_written n u) h)
      go (read m) e =
          let out : (tidy_into c s S a).out ≡ (of m).out = ap (λ (r : TidyAnswer). r.out) (tidy-is (read m) e) in
          record {
            model = m;
            is_read = e;
            tables = its-tables m e;
            rest = rw out (wrote (tidy_text c m) (used_of m) (tables_of (rooms_of S) m) a n u (told (read m) e (as_written n u) h));
          }

  pub long-file : (k : ℕ) (u : Used) → (tidy_into c s S a).answer ≡ as_too_long k u → Long c s S a u
  long-file j u h = go (read_of (rooms_of S) s) refl
    where
      go : (x : Answer) → read_of (rooms_of S) s ≡ x → Long c s S a u
      go (refused k p) e = apart-long j u (refusal k p) (told (refused k p) e (as_too_long j u) h)
      go (read m) e =
          let l = too_long (tidy_text c m) (used_of m) (tables_of (rooms_of S) m) a j u (told (read m) e (as_too_long j u) h) in
          record {
            model = m;
            is_read = e;
            tables = its-tables m e;
            counts = l.0;
            kept = ap (λ (r : TidyAnswer). r.out) (tidy-is (read m) e) ∙ l.1;
          }

  pub refused-file : (f : Refusal) → (tidy_into c s S a).answer ≡ Err (Refused f) → Down c s S a f
  refused-file f h = go (read_of (rooms_of S) s) refl
    where
      go : (x : Answer) → read_of (rooms_of S) s ≡ x → Down c s S a f
      go (read m) e = never-refused (tidy_text c m) (used_of m) (tables_of (rooms_of S) m) a f (told (read m) e (Err (Refused f)) h)
      go (refused k q) e =
          let g : Err (Refused (refusal k q)) ≡ Err (Refused f) = told (refused k q) e (Err (Refused f)) h in
          record {
            down = record { number = k; place = q; is-refused = e; same = cc };
            tables = ap (λ (r : TidyAnswer). r.tables) (tidy-is (refused k q) e);
            kept = ap (λ (r : TidyAnswer). r.out) (tidy-is (refused k q) e);
          }
