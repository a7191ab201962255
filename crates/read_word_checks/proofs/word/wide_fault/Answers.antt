-- By the answer of the reader, and by the count in the table.
use mathlib.Core.Path.{sym, ◌∙◌}
use mathlib.Core.Bool.{true, false}
use lib.ListN.{drop}
use Rattle.std.proofs.lemmas.Result.{err_from_is_err_and}
use Rattle.text.specs.Words.{word_of}
use Rattle.text.specs.Rest.{end_of}
use Rattle.references.specs.Reference.{reference_of}
use Rattle.read_word_checks.proofs.Words.{wide_is, wide-wrong}
use Rattle.read_word_checks.proofs.word.wide_fault.Goals as goal

pub returns-in_err-control : goal.returns-in_err-control
returns-in_err-control c =
    let a = c.args in
    let p = err_from_is_err_and c.from_residual.result c.from_residual.ensures.1 in
    rw (p.1, p.2) (wide-wrong a.vp.now (reference_of a.count (word_of (drop a.at a.text.now))) (end_of a.text.now a.at) c.in_err-control.ensures)

pub returns-then-two_given : goal.returns-then-two_given
returns-then-two_given c =
    let a = c.args in
    wide_is a.vp.now (reference_of a.count (word_of (drop a.at a.text.now))) (end_of a.text.now a.at) true c.in_ok-control.ensures (sym c.if-two_given.true ∙ c.two_given.ensures)

pub returns : goal.returns
returns c =
    let a = c.args in
    wide_is a.vp.now (reference_of a.count (word_of (drop a.at a.text.now))) (end_of a.text.now a.at) false c.in_ok-control.ensures (sym c.if-two_given.false ∙ c.two_given.ensures)
