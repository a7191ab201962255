-- The same part holds the same words; else the words of the two parts, by `part_of` and `same_words`.
use Prim.Native.Nat.{ℕ}
use mathlib.Core.Path.{◌≡◌, sym, ap, ap₂, ◌∙◌}
use Rattle.tables.specs.declared.NameRun.{NameRun}
use Rattle.tidy_form.specs.Agree.{words_at}
use Rattle.tidy_words.specs.Naming.{same_bytes}
use Rattle.tidy_words.proofs.Naming.{bytes-refl, names_same}
use Rattle.tidy_words.proofs.names.same_names.Goals as goal

pub returns-then-run-other-2 : goal.returns-then-run-other-2
returns-then-run-other-2 c =
    let a = c.args in
    let t = a.text.now in
    let same : a.run ≡ a.other = ap₂ (λ (p n : ℕ). record { place = p; length = n }) c.if-run-other.true c.if-run-other-2.true in
    sym (bytes-refl (words_at t a.run)) ∙ ap (λ (r : NameRun). same_bytes (words_at t a.run) (words_at t r)) same

pub returns : goal.returns
returns c =
    let a = c.args in
    names_same a.text.now a.run a.other c.part_of.ensures c.part_of-2.ensures c.same_words.ensures
