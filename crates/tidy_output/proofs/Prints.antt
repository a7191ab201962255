-- What each way of printing comes to: `sets-eq` at the buffer's front; a refusal's line is short, so that its length is never capped.
use Prim.Native.Nat.{ℕ, ◌+◌, ◌≤◌, ◌<◌, min}
use mathlib.Core.Path.{◌≡◌, refl, sym, ap, ap₂, ◌∙◌}
use mathlib.Core.List.{List, [], ◌∷◌, ◌++◌, append-nil}
use mathlib.Core.Bool.{true, false}
use mathlib.Core.Logic.{⊎_elim}
use native.Mathlib.Omega.{arith}
use borrow.Author.Tests.{le-leb, lt-leb, leb-true, leb-false}
use lib.Dec.{leb}
use lib.ListN.{length, take, drop, length-append, take-append-drop, drop_of_length-le}
use lib.Seq.{length-take-le, take_all, sets-eq}
use Rattle.std.specs.Prelude.{Result, Ok, Err}
use Rattle.refusals.specs.declared.Refusal.{Refusal}
use Rattle.refusals.specs.declared.Reason.TheVariants.{TextTooLong}
use Rattle.refusals.specs.Reasons.{reason_number}
use Rattle.lists.proofs.Tests.{test}
use Rattle.spellings.specs.Rows.{bytes}
use Rattle.references.specs.Written.{written_whole}
use Rattle.references.proofs.Numerals.{short-length}
use Rattle.tables.specs.Tables.{Tables}
use Rattle.tables.specs.declared.Used.{Used}
use Rattle.tidy_words.specs.Emitting.{Emitted}
use Rattle.tidy_form.specs.declared.Weights.TheVariants.{WhenNeeded}
use Rattle.tidier.specs.Tidying.{tidy_answer, tidy_into}
use Rattle.tidier.specs.declared.Tidied.{Tidied}
use Rattle.tidier.specs.declared.TidyError.{TidyError}
use Rattle.tidier.specs.declared.TidyError.TheVariants.{TooLong, Refused}
use Rattle.tidy_output.specs.Output.{refusal_line, answer_bytes, Printing, printing, printed_in, output, printed_for, output_of}

module _ (w l : List ℕ) where
  pub printed-none : length l < length w → printing 0 l ≡ printed_in w l
  printed-none h = rw (lt-leb (length w) (length l) h) refl

  printed-all : length w ≤ length l → (r : ℕ) (m : List ℕ) → r ≡ length w → m ≡ w ++ drop (length w) l → printing r m ≡ printed_in w l
  printed-all h r m a b = rw (le-leb (length w) (length l) h) (ap₂ printing a b)

-- ---- a refusal
whole-short : (n : ℕ) → length (written_whole n) ≤ 10
unfolding written_whole
whole-short n = short-length 10 n

line-short : (n p : ℕ) → length (refusal_line n p) ≤ 33
unfolding refusal_line
line-short n p =
    let a = whole-short n in
    let b = whole-short p in
    let c = length-append (32 ∷ written_whole p) (10 ∷ []) in
    let d = length-append (bytes " at") ((32 ∷ written_whole p) ++ (10 ∷ [])) in
    let e = length-append (32 ∷ written_whole n) (bytes " at" ++ ((32 ∷ written_whole p) ++ (10 ∷ []))) in
    let f = length-append (bytes "refused") ((32 ∷ written_whole n) ++ (bytes " at" ++ ((32 ∷ written_whole p) ++ (10 ∷ [])))) in
    omega arith

module _ (n p k : ℕ) (l : List ℕ) (e : k ≡ min (length (refusal_line n p)) 16777217) where
  pub refusal-roomless : length l < k → printing 0 l ≡ printed_in (refusal_line n p) l
  refusal-roomless h = printed-none (refusal_line n p) l (omega arith)

  pub refusal-printed : k ≤ length l → {r : ℕ} {m : List ℕ} → Emitted 0 (refusal_line n p) l m r → printing r m ≡ printed_in (refusal_line n p) l
  refusal-printed h {r} {m} x =
      let w : List ℕ = refusal_line n p in
      let s = line-short n p in
      let fits : 0 + length w ≤ length l = omega arith in
      let z : 0 + length w ≡ length w = omega arith in
      printed-all w l (omega arith) r m (omega (arith, x.ends)) (x.stored fits (omega arith) ∙ sets-eq w l 0 fits ∙ ap (λ (i : ℕ). w ++ drop i l) z)

-- ---- a text that stands at the front
pub front-printed : (n r : ℕ) (l : List ℕ) → r ≡ min n (length l) → printing r l ≡ printed_in (take n l) l
front-printed n r l e =
    ⊎_elim
    (λ (t : leb n (length l) ≡ true).
    let h : n ≤ length l = leb-true n (length l) t in
    let s : length (take n l) ≡ n = length-take-le n l h in
    printed-all (take n l) l (omega arith) r l (omega arith) (sym (take-append-drop n l) ∙ ap (λ (k : ℕ). take n l ++ drop k l) (sym s)))
    (λ (t : leb n (length l) ≡ false).
    let h : length l < n = leb-false n (length l) t in
    let s : take n l ≡ l = take_all n l (omega arith) in
    let k : length (take n l) ≡ length l = ap length s in
    printed-all (take n l) l (omega arith) r l (omega arith) (sym (append-nil l) ∙ ap₂ (λ (a b : List ℕ). a ++ b) (sym s) (sym (drop_of_length-le l (let q : length l ≤ length (take n l) = omega arith in q)))))
    (test (leb n (length l)))

-- ---- an answer, and the program's whole output
module _ (l : List ℕ) {a : Result Tidied TidyError} {r : ℕ} where
  pub text-answer : {d : Tidied} → a ≡ Ok d → r ≡ min d.length (length l) → printing r l ≡ printed_in (answer_bytes a l) l
  text-answer {d} e h = front-printed d.length r l h ∙ ap (λ (x : Result Tidied TidyError). printed_in (answer_bytes x l) l) (sym e)

  pub long-answer : {k : ℕ} {u : Used} {m : List ℕ} → a ≡ Err (TooLong k u) → printing r m ≡ printed_in (refusal_line 16 0) l → printing r m ≡ printed_in (answer_bytes a l) l
  long-answer e h = h ∙ ap (λ (x : Result Tidied TidyError). printed_in (answer_bytes x l) l) (sym e)

  pub refused-answer : {f : Refusal} {m : List ℕ} → a ≡ Err (Refused f) → (q : ℕ) → q ≡ min f.place 4294967295 → printing r m ≡ printed_in (refusal_line (reason_number f.reason) q) l → printing r m ≡ printed_in (answer_bytes a l) l
  refused-answer {f} e q k h = h ∙ ap (λ (i : ℕ). printed_in (refusal_line (reason_number f.reason) i) l) k ∙ ap (λ (x : Result Tidied TidyError). printed_in (answer_bytes x l) l) (sym e)

module _ (s : List ℕ) (t : Tables) (out : List ℕ) {r : ℕ} {m : List ℕ} where
  pub output-long : 65536 < length s → printing r m ≡ printed_in (answer_bytes (Err (Refused (record { reason = TextTooLong; place = 0 }))) out) out → output (printing r m) t ≡ output_of s t out
  unfolding output_of
  output-long h p = rw (lt-leb (length s) 65536 h) (ap (λ (x : Printing). output x t) p)

  pub output-short : length s ≤ 65536 → (u : Tables) (a : Result Tidied TidyError) (o : List ℕ) → tidy_answer a u o ≡ tidy_into WhenNeeded s t out → printing r m ≡ printed_in (answer_bytes a o) o
      → output (printing r m) u ≡ output_of s t out
  unfolding output_of
  output-short h u a o e p = rw (le-leb (length s) 65536 h) (ap (λ (x : Printing). output x u) p ∙ ap printed_for e)
