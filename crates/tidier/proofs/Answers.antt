-- What each way out of tidying comes to: `sets-eq` at the buffer's front, and the law that the tables of a text that is read hold its tidy text.
use Prim.Native.Nat.{ℕ, ◌+◌, ◌≤◌, ◌<◌, min}
use mathlib.Core.Path.{◌≡◌, refl, sym, ap, ap₂, ◌∙◌, subst}
use mathlib.Core.List.{List, ◌++◌}
use mathlib.Core.Bool.{Bool, true, false}
use mathlib.Core.Logic.{⊎_elim}
use native.Mathlib.Omega.{arith}
use borrow.Author.Tests.{le-leb, lt-leb, leb-true}
use lib.Dec.{leb}
use lib.ListN.{length, drop}
use lib.Seq.{sets-eq}
use Rattle.std.specs.Prelude.{Result, Ok, Err}
use Rattle.refusals.specs.declared.Refusal.{Refusal}
use Rattle.lists.proofs.Tests.{and_both, and_first, and_second, never, test}
use Rattle.tables.specs.Tables.{Tables}
use Rattle.tables.specs.declared.Used.{Used}
use Rattle.model.specs.Read.{Answer, read, refused, read_of}
use Rattle.model.specs.Layout.{tables_of, used_of}
use Rattle.tidy_words.specs.Emitting.{emission, emitted_whole}
use Rattle.tidy_words.proofs.Emissions.{emitted-whole, whole-kept}
use Rattle.tidy_form.specs.declared.Weights.{Weights}
use Rattle.tidy_writer.specs.TidyFrom.{tidy_from}
use Rattle.tidy_agreement.proofs.TidyFrom.{tidy-from}
use Rattle.reader.specs.Reading.{ReadAnswer, read_answer, rooms_of, read_into}
use Rattle.reader.specs.Reading as reader
use Rattle.tidier.specs.declared.Tidied.{Tidied}
use Rattle.tidier.specs.declared.TidyError.{TidyError}
use Rattle.tidier.specs.declared.TidyError.TheVariants.{TooLong, Refused}
use Rattle.tidier.specs.Tidying.{TidyAnswer, tidy_answer, has_room, needed_for, written, answered, tidy_into}

-- ---- writing: k is the length of w, as `write_tidy` answers it, and m what the buffer holds then
module _ (w out m : List ℕ) (used : Used) (t : Tables) (k : ℕ) (e : emission k m ≡ emitted_whole 0 w out) where
  ends : k ≡ min (0 + length w) 16777217
  ends = (emitted-whole e).ends

  no_room : has_room w out ≡ false → min (length out) 16777216 < 0 + length w → tidy_answer (Err (TooLong k used)) t m ≡ written w used t out
  no_room h g =
      let needed : k ≡ needed_for w = ends ∙ ap (λ (n : ℕ). min n 16777217) (let z : 0 + length w ≡ length w = omega arith in z) in
      rw (h, whole-kept 0 w out e g) (ap (λ (n : ℕ). tidy_answer (Err (TooLong n used)) t out) needed)

  pub too-long : min (length m) 16777216 < k → tidy_answer (Err (TooLong k used)) t m ≡ written w used t out
  too-long h =
      let same : length m ≡ length out = (emitted-whole e).same in
      let long : k ≡ min (0 + length w) 16777217 = ends in
      ⊎_elim
      (λ (f : leb (length w) (length out) ≡ true).
      let g : length w ≤ length out = leb-true (length w) (length out) f in
      no_room (and_second (leb (length w) (length out)) (lt-leb (length w) 16777216 (omega arith))) (omega arith))
      (λ (f : leb (length w) (length out) ≡ false). no_room (and_first (leb (length w) 16777216) f) (omega arith))
      (test (leb (length w) (length out)))

  pub written-whole : k ≤ min (length m) 16777216 → tidy_answer (Ok (record { length = k; used = used })) t m ≡ written w used t out
  written-whole h =
      let kept : length m ≡ length out = (emitted-whole e).same in
      let long : k ≡ min (0 + length w) 16777217 = ends in
      let same : k ≡ length w = omega arith in
      let fits : length w ≤ length out = omega arith in
      let short : length w ≤ 16777216 = omega arith in
      let room : has_room w out ≡ true = and_both (le-leb (length w) (length out) fits) (le-leb (length w) 16777216 short) in
      let held : m ≡ w ++ drop (length w) out = (emitted-whole e).stored (omega arith) (omega arith) ∙ sets-eq w out 0 (omega arith) ∙ ap (λ (n : ℕ). w ++ drop n out) (let z : 0 + length w ≡ length w = omega arith in z) in
      rw room (ap₂ (λ (n : ℕ) (l : List ℕ). tidy_answer (Ok (record { length = n; used = used })) t l) same held)

-- ---- tidying: the text s was read into the tables t, which then held u. An equation of two answers gives one of what each holds.
abbrev used_in : Used → Result Used Refusal → Used
used_in d (Ok n) = n
used_in d (Err r) = d

abbrev is_read : Result Used Refusal → Bool
is_read (Ok n) = true
is_read (Err r) = false

abbrev passed_on : Result Used Refusal → Tables → List ℕ → TidyAnswer
passed_on (Ok n) t out = tidy_answer (Err (TooLong 0 n)) t out
passed_on (Err r) t out = tidy_answer (Err (Refused r)) t out

module _ (c : Weights) (s : List ℕ) (t u : Tables) (out : List ℕ) where
  from-read : (n : Used) (x : Answer) → read_of (rooms_of t) s ≡ x → read_answer (Ok n) u ≡ reader.answered t x
      → written (tidy_from c s n u) n u out ≡ answered c t x out
  from-read n (read m) e f =
      ap₂ (λ (k : Used) (y : Tables). written (tidy_from c s k y) k y out) (ap (λ (r : ReadAnswer). used_in n r.answer) f) (ap (λ (r : ReadAnswer). r.tables) f)
      ∙ ap (λ (w : List ℕ). written w (used_of m) (tables_of (rooms_of t) m) out) (tidy-from c (rooms_of t) s m e)
  from-read n (refused k p) e f = never (sym (ap (λ (r : ReadAnswer). is_read r.answer) f))

  from-refused : (r : Refusal) (x : Answer) → read_answer (Err r) u ≡ reader.answered t x → tidy_answer (Err (Refused r)) u out ≡ answered c t x out
  from-refused r (read m) f = never (ap (λ (y : ReadAnswer). is_read y.answer) f)
  from-refused r (refused n p) f = ap (λ (y : ReadAnswer). passed_on y.answer y.tables out) f

  module _ (a : Result Used Refusal) (is : read_answer a u ≡ read_into s t) where
    pub tidied-read : (n : Used) → a ≡ Ok n → (r : Result Tidied TidyError) (m : List ℕ) → tidy_answer r u m ≡ written (tidy_from c s n u) n u out → tidy_answer r u m ≡ tidy_into c s t out
    unfolding read_into tidy_into
    tidied-read n k r m f = f ∙ from-read n (read_of (rooms_of t) s) refl (subst (λ (b : Result Used Refusal). read_answer b u ≡ read_into s t) k is)

    pub tidied-refused : (r : Refusal) → a ≡ Err r → tidy_answer (Err (Refused r)) u out ≡ tidy_into c s t out
    unfolding read_into tidy_into
    tidied-refused r k = from-refused r (read_of (rooms_of t) s) (subst (λ (b : Result Used Refusal). read_answer b u ≡ read_into s t) k is)
