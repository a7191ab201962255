-- An accepted text and its tidy text are sampled alike: their models agree, so that their tables differ in names alone.
use Prim.Native.Nat.{ℕ, ◌+◌, ◌*◌, ◌-◌, ◌≤◌, ◌<◌}
use mathlib.Core.Path.{◌≡◌, sym, ap, ◌∙◌, subst}
use mathlib.Core.Bool.{true, false}
use mathlib.Core.Logic.{⊎_elim}
use mathlib.Core.List.{List}
use native.Mathlib.Omega.{arith}
use borrow.Author.Tests.{ltb-true, ltb-false}
use lib.Dec.{ltb}
use lib.ListN.{length, replicate, length-append, length-replicate, get_or-eq_default}
use Rattle.lists.specs.Lists.{filled}
use Rattle.lists.proofs.Tests.{test}
use Rattle.tables.specs.Records.{element_width, number_at}
use Rattle.tables.specs.declared.Used.{Used}
use Rattle.tables.proofs.Filled.{get_d-filled}
use Rattle.model.specs.Model.{Model}
use Rattle.model.specs.Room.{Rooms}
use Rattle.model.specs.Layout.{element_rows, tables_of, used_of}
use Rattle.model.proofs.Rows.{element_rows-length}
use Rattle.model.proofs.Placed.{Placed}
use Rattle.tidy_form.specs.Printed.{tidy_text}
use Rattle.tidy_form.specs.Agree.{TablesAgree}
use Rattle.tidy_form.specs.Bare.{Agree}
use Rattle.tidy_form.proofs.Placed.{read-placed}
use Rattle.tidy_form.proofs.TablesAgree.{placed-agree, others_same, counts_same, number_same}
use Rattle.tidy_form.proofs.TidyRead.{tidy-read}
use Rattle.sampler.specs.Demand3.{sampling}
use Rattle.sampled_files.specs.Joined.{SampledAlike}
use Rattle.sampled_files.specs.Accepted.{TidiedSamplesAlike}
use Rattle.sampled_files.proofs.Names.{names-aside}

-- ---- models that agree, and so their tables but for names
module _ (R : Rooms) (s t : List ℕ) (m k : Model) (p : Placed s m) (q : Placed t k) (a : Agree m k) where
  agreeing : TablesAgree s (tables_of R m) (used_of m) t (tables_of R k) (used_of k)
  agreeing = placed-agree R R s t m k p q a

  many : length m.elements ≡ length k.elements
  many = counts_same R R s t m k p q agreeing

  -- past the elements both tables are 0
  past : (n : Model) (i j : ℕ) → length n.elements ≤ i → number_at element_width (tables_of R n).elements.elements i j ≡ 0
  unfolding tables_of
  past n i j h =
      let rows = element_rows 0 0 n.elements in
      get_d-filled R.elements.elements 0 rows (element_width * i + j) ∙ get_or-eq_default rows 0 (let e = element_rows-length 0 0 n.elements in omega arith)

  numbers-same : (i j : ℕ) → j < 5 → number_at element_width (tables_of R m).elements.elements i j ≡ number_at element_width (tables_of R k).elements.elements i j
  numbers-same i j h =
      ⊎_elim
      (λ (x : ltb i (length m.elements) ≡ true). number_same R R s t m k p q agreeing i j (ltb-true i (length m.elements) x) h)
      (λ (x : ltb i (length m.elements) ≡ false).
      let l = ltb-false i (length m.elements) x in
      let e = many in
      past m i j l ∙ sym (past k i j (omega arith)))
      (test (ltb i (length m.elements)))

  long_same : length (tables_of R m).elements.elements ≡ length (tables_of R k).elements.elements
  unfolding tables_of
  long_same =
      let e : length (element_rows 0 0 m.elements) ≡ length (element_rows 0 0 k.elements) =
      element_rows-length 0 0 m.elements ∙ ap (λ (n : ℕ). element_width * n) many ∙ sym (element_rows-length 0 0 k.elements) in
      long (element_rows 0 0 m.elements) ∙ ap (λ (n : ℕ). n + (R.elements.elements - n)) e ∙ sym (long (element_rows 0 0 k.elements))
    where
      long : (xs : List ℕ) → length (filled R.elements.elements 0 xs) ≡ length xs + (R.elements.elements - length xs)
      long xs = length-append xs (replicate (R.elements.elements - length xs) 0) ∙ ap (λ (n : ℕ). length xs + n) (length-replicate (R.elements.elements - length xs) 0)

  pub agree-samples : SampledAlike sampling (used_of m) (tables_of R m) (used_of k) (tables_of R k)
  agree-samples =
      subst (λ (v : Used). SampledAlike sampling (used_of m) (tables_of R m) v (tables_of R k)) agreeing.used
      (subst (SampledAlike sampling (used_of m) (tables_of R m) (used_of m)) (others_same R R s t m k p q agreeing)
      (names-aside (used_of m) (tables_of R m) (tables_of R m).elements.elements (tables_of R k).elements.elements numbers-same long_same))

agree-back : (m k : Model) → Agree k m → Agree m k
unfolding Agree
agree-back m k a = sym a

pub tidied-samples-alike : TidiedSamplesAlike
tidied-samples-alike c R s m h l =
    let r = tidy-read c R s m h l in
    (r.0, r.1, agree-samples R s (tidy_text c m) m r.0 (read-placed R s m h) (read-placed R (tidy_text c m) r.0 r.1) (agree-back m r.0 r.2))
