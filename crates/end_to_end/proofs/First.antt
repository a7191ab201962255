-- Demand 1: by what the text is read as, and by the tests of the sampler.
use Prim.Native.Nat.{ℕ}
use mathlib.Core.Path.{◌≡◌, refl, sym, ap, ◌∙◌}
use mathlib.Core.Bool.{Bool, true, false}
use mathlib.Core.List.{List}
use Rattle.tidier.specs.declared.TidyError.TheVariants.{Refused}
use Rattle.tidier.specs.declared.TidyError.{TidyError}
use Rattle.tidier.specs.declared.Tidied.{Tidied}
use Rattle.refusals.proofs.Numbers.{number-kept}
use Rattle.refusals.specs.Reasons.{reason_number}
use Rattle.refusals.specs.declared.Refusal.{Refusal}
use Rattle.std.specs.Prelude.{Result, Err}
use Rattle.end_to_end.specs.EntryPoints.{as_read}
use native.Mathlib.Omega.{arith}
use Rattle.tables.specs.Tables.{Tables}
use Rattle.tables.specs.declared.Used.{Used}
use Rattle.model.specs.Read.{Answer, read, refused, read_of}
use Rattle.model.specs.Layout.{tables_of, used_of}
use Rattle.reader.specs.Reading.{rooms_of, read_outcome, ReadAnswer, read_into}
use Rattle.reader.specs.Reading as reader
use Rattle.tidy_form.specs.declared.Weights.{Weights}
use Rattle.tidy_form.specs.Printed.{tidy_text}
use Rattle.tidier.specs.Tidying.{tidy_outcome, TidyAnswer, has_room, written, answered, tidy_into}
use Rattle.sampler.specs.Demand3.{sampling}
use Rattle.end_to_end.specs.Demand1.{Outcomes, Demand1}
use Rattle.end_to_end.proofs.Numbers.{refusal-number}
use Rattle.end_to_end.proofs.Inside.{read_is, turned_down, tidy-is, long-file, refused-file}
use Rattle.end_to_end.proofs.Samples.{curve-sound, surface-sound, run_sound}

abbrev as_refused : Refusal → Result Tidied TidyError
as_refused f = Err (Refused f)

abbrev as_unread : Refusal → Result Used Refusal
as_unread f = Err f

-- ---- each answer with its number and values
read-outcome : (S : Tables) (x : Answer) → (reader.answered S x).outcome ≡ read_outcome (reader.answered S x).answer
read-outcome S (read m) = refl
read-outcome S (refused n p) = refl

tidy-outcome : (c : Weights) (S : Tables) (x : Answer) (a : List ℕ) → (answered c S x a).outcome ≡ tidy_outcome (answered c S x a).answer
tidy-outcome c S (refused n p) a = refl
tidy-outcome c S (read m) a = go (tidy_text c m) (used_of m) (tables_of (rooms_of S) m) (has_room (tidy_text c m) a) refl
  where
    go : (w : List ℕ) (u : Used) (t : Tables) (b : Bool) → has_room w a ≡ b → (written w u t a).outcome ≡ tidy_outcome (written w u t a).answer
    go w u t true e = rw e refl
    go w u t false e = rw e refl

outcomes : Outcomes read_into tidy_into sampling
unfolding read_into tidy_into
outcomes =
    record {
      reading = λ s S. read-outcome S (read_of (rooms_of S) s);
      tidying = λ c s S a. tidy-outcome c S (read_of (rooms_of S) s) a;
      curve = λ u t number p. (curve-sound u t number p).outcome;
      surface = λ u t number p q. (surface-sound u t number p q).outcome;
      run = λ u t number steps at points. (run_sound u t number steps at points).outcome;
    }

pub first : Demand1 read_into tidy_into sampling
first =
    record {
      outcomes = outcomes;
      refused-reading = λ s S f h.
          let d = turned_down s S f h in
          let e = read_is s S (refused d.number d.place) d.is-refused in
          let r = refusal-number (rooms_of S) s d.number d.place d.is-refused in
          let n : reason_number f.reason ≡ d.number = sym (ap (λ (g : Refusal). reason_number g.reason) d.same) ∙ number-kept d.number r.least (omega (arith, r.most)) in
          record {
            number = record { least = omega (arith, r.least); most = omega (arith, r.most) };
            tables = ap (λ (r : ReadAnswer). r.tables) e;
            counts = ap (λ (r : ReadAnswer). r.outcome.used) e;
          };
      refuses = λ c s S a f h.
          let d = turned_down s S f h in
          ap (λ (r : TidyAnswer). r.answer) (tidy-is c s S a (refused d.number d.place) d.is-refused) ∙ ap (λ (g : Refusal). as_refused g) d.same;
      refused-tidying = λ c s S a f h.
          let d = refused-file c s S a f h in
          let x = refused d.down.number d.down.place in
          let e = tidy-is c s S a x d.down.is-refused in
          record {
            read = ap (λ (r : ReadAnswer). r.answer) (read_is s S x d.down.is-refused) ∙ ap (λ (g : Refusal). as_unread g) d.down.same;
            tables = d.tables;
            counts = ap (λ (r : TidyAnswer). r.outcome.used) e;
            out = d.kept;
          };
      long-tidying = λ c s S a k u h.
          let l = long-file c s S a k u h in
          let e = read_is s S (read l.model) l.is_read in
          record {
            read = ap (λ (r : ReadAnswer). r.answer) e ∙ ap (λ (w : Used). as_read w) l.counts;
            tables = l.tables ∙ sym (ap (λ (r : ReadAnswer). r.tables) e);
            out = l.kept;
          };
      refused-curve = λ u t number p n e. (curve-sound u t number p).number n e;
      refused-surface = λ u t number p q n e. (surface-sound u t number p q).number n e;
      refused-run = λ u t number steps at points n e. (run_sound u t number steps at points).refused n e;
    }
