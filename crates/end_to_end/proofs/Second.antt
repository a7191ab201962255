-- Demand 2 of read_into and tidy_into: from `tidy-tables` and `same-tidy-tables`, at the file behind each answer.
use Prim.Native.Nat.{ℕ, ◌≤◌, ◌<◌}
use mathlib.Core.Path.{◌≡◌, refl, sym, ap, ◌∙◌, subst}
use mathlib.Core.Bool.{Bool, true, false, cond}
use mathlib.Core.Logic.{◌⊎◌, inl, inr}
use mathlib.Core.List.{List}
use borrow.Author.Tests.{le-leb, lt-leb}
use native.Mathlib.Omega.{arith}
use lib.Dec.{leb}
use lib.ListN.{length, take}
use Rattle.end_to_end.proofs.Numbers.{refusal-number}
use Rattle.read_lines.specs.Answered.{refusal}
use Rattle.refusals.proofs.Numbers.{number-kept}
use Rattle.end_to_end.specs.EntryPoints.{as_read}
use Rattle.lists.proofs.Tests.{and_both, and_first, and_second}
use Rattle.tables.specs.Tables.{Tables}
use Rattle.tables.specs.declared.Used.{Used}
use Rattle.model.specs.Model.{Model}
use Rattle.model.specs.Room.{Rooms}
use Rattle.model.specs.Read.{read, refused, read_of}
use Rattle.model.specs.Layout.{tables_of, used_of}
use Rattle.reader.specs.Reading.{rooms_of, ReadAnswer, read_into}
use Rattle.tidy_form.specs.declared.Weights.{Weights}
use Rattle.tidy_form.specs.Printed.{tidy_text}
use Rattle.tidy_form.specs.Agree.{TablesAgree}
use Rattle.tidy_form.proofs.TidyTables.{tidy-tables, same-tidy-tables}
use Rattle.tidier.specs.Tidying.{TidyAnswer, has_room, needed_for, tidy_into, as_written, as_too_long}
use Rattle.end_to_end.specs.Demand2.{ReadBack, Demand2}
use Rattle.end_to_end.proofs.Inside.{read_is, tidy-is, Tidy, tidied-file}

-- the file m, read
module _ (s : List ℕ) (S : Tables) (m : Model) (h : read_of (rooms_of S) s ≡ read m) where
  pub its-answer : (read_into s S).answer ≡ as_read (used_of m)
  its-answer = ap (λ (r : ReadAnswer). r.answer) (read_is s S (read m) h)

  pub its-tables : (read_into s S).tables ≡ tables_of (rooms_of S) m
  its-tables = ap (λ (r : ReadAnswer). r.tables) (read_is s S (read m) h)

-- agreeing tables, under other names
moved : (s t : List ℕ) (S S' T T' : Tables) (u u' w w' : Used) → S ≡ S' → T ≡ T' → u ≡ u' → w ≡ w' → TablesAgree s S u t T w → TablesAgree s S' u' t T' w'
moved s t S S' T T' u u' w w' e f g h a = rw (← e, ← f, ← g, ← h) a

module _ (c : Weights) (s : List ℕ) (S : Tables) (a : List ℕ) (n : ℕ) (u : Used) (h : (tidy_into c s S a).answer ≡ as_written n u) where
  abbrev file : Tidy c s S a n u
  file = tidied-file c s S a n u h

  abbrev m : Model
  m = file.model

  pub its-counts : (read_into s S).answer ≡ as_read u
  its-counts = its-answer s S m file.is_read ∙ ap (λ (w : Used). as_read w) file.rest.counts

  pub read_back : (T : Tables) → rooms_of T ≡ rooms_of S → ReadBack read_into (take n (tidy_into c s S a).out) T s (tidy_into c s S a).tables u
  read_back T e =
      let b = tidy-tables c (rooms_of S) s m file.is_read file.rest.short in
      let k = b.0 in
      let again : read_of (rooms_of T) (tidy_text c m) ≡ read k = ap (λ (R : Rooms). read_of R (tidy_text c m)) e ∙ b.1 in
      let counts : used_of k ≡ u = b.2.used ∙ file.rest.counts in
      let filled : tables_of (rooms_of S) k ≡ (read_into (tidy_text c m) T).tables = sym (its-tables (tidy_text c m) T k again ∙ ap (λ (R : Rooms). tables_of R k) e) in
      subst (λ (w : List ℕ). ReadBack read_into w T s (tidy_into c s S a).tables u) (sym file.rest.text)
      (record {
        answer = its-answer (tidy_text c m) T k again ∙ ap (λ (w : Used). as_read w) counts;
        tables = moved (tidy_text c m) s (tables_of (rooms_of S) k) (read_into (tidy_text c m) T).tables (tables_of (rooms_of S) m) (tidy_into c s S a).tables (used_of k) u (used_of m) u filled (sym file.tables) counts file.rest.counts b.2;
      })

-- ---- 16 is exact
module _ (c : Weights) (s : List ℕ) (S : Tables) (a : List ℕ) (m : Model) (h : read_of (rooms_of S) s ≡ read m) where
  with-room : (b : Bool) → has_room (tidy_text c m) a ≡ b
      → (tidy_into c s S a).answer ≡ cond b (as_written (length (tidy_text c m)) (used_of m)) (as_too_long (needed_for (tidy_text c m)) (used_of m))
  with-room true e = ap (λ (r : TidyAnswer). r.answer) (tidy-is c s S a (read m) h) ∙ rw e refl
  with-room false e = ap (λ (r : TidyAnswer). r.answer) (tidy-is c s S a (read m) h) ∙ rw e refl

  pub fits : length (tidy_text c m) ≤ length a → length (tidy_text c m) ≤ 16777216 → (tidy_into c s S a).answer ≡ as_written (length (tidy_text c m)) (used_of m)
  fits f g = with-room true (and_both (le-leb (length (tidy_text c m)) (length a) f) (le-leb (length (tidy_text c m)) 16777216 g))

  pub passes : (length a < length (tidy_text c m)) ⊎ (16777216 < length (tidy_text c m)) → (tidy_into c s S a).answer ≡ as_too_long (needed_for (tidy_text c m)) (used_of m)
  passes (inl f) = with-room false (and_first (leb (length (tidy_text c m)) 16777216) (lt-leb (length (tidy_text c m)) (length a) f))
  passes (inr f) = with-room false (and_second (leb (length (tidy_text c m)) (length a)) (lt-leb (length (tidy_text c m)) 16777216 f))

  pub its-form : (n : ℕ) (u : Used) → (tidy_into c s S a).answer ≡ as_written n u → take n (tidy_into c s S a).out ≡ tidy_text c m
  its-form n u g =
      let f = tidied-file c s S a n u g in
      let e : read f.model ≡ read m = sym f.is_read ∙ h in
      let k : f.model ≡ m = cc in
      f.rest.text ∙ ap (tidy_text c) k

pub second : Demand2 read_into tidy_into
second =
    record {
      accepts = λ s S m h. record { answer = its-answer s S m h; tables = its-tables s S m h };
      refuses = λ s S n p h.
          let r = refusal-number (rooms_of S) s n p h in
          record {
            refusal = refusal n p;
            answer = ap (λ (r : ReadAnswer). r.answer) (read_is s S (refused n p) h);
            number = number-kept n r.least (omega (arith, r.most));
            place = refl;
          };
      writes = fits;
      sixteen = passes;
      form = its-form;
      written = λ c s S a n u h.
          let f = tidied-file c s S a n u h in
          record {
            read = its-counts c s S a n u h;
            tables = f.tables ∙ sym (its-tables s S f.model f.is_read);
            room = f.rest.room;
            behind = f.rest.behind;
            back = read_back c s S a n u h;
          };
      agree = λ c s t S T a b n k u w h g e.
          let f = tidied-file c s S a n u h in
          let d = tidied-file c t T b k w g in
          let both = same-tidy-tables c (rooms_of S) (rooms_of T) s t f.model d.model f.is_read d.is_read f.rest.short d.rest.short in
          moved s t (tables_of (rooms_of S) f.model) (tidy_into c s S a).tables (tables_of (rooms_of T) d.model) (tidy_into c t T b).tables (used_of f.model) u (used_of d.model) w
          (sym f.tables) (sym d.tables) f.rest.counts d.rest.counts (both.0 (sym f.rest.text ∙ e ∙ d.rest.text));
      same = λ c s t S T a b n k u w h g e.
          let f = tidied-file c s S a n u h in
          let d = tidied-file c t T b k w g in
          let both = same-tidy-tables c (rooms_of S) (rooms_of T) s t f.model d.model f.is_read d.is_read f.rest.short d.rest.short in
          f.rest.text
          ∙ both.1 (moved s t (tidy_into c s S a).tables (tables_of (rooms_of S) f.model) (tidy_into c t T b).tables (tables_of (rooms_of T) d.model) u (used_of f.model) w (used_of d.model)
          f.tables d.tables (sym f.rest.counts) (sym d.rest.counts) e)
          ∙ sym d.rest.text;
    }
