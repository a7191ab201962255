-- By the answer of the reader, and by the two tests of its parts.
use mathlib.Core.Path.{sym, ◌∙◌}
use mathlib.Core.Bool.{true, false}
use lib.ListN.{drop}
use Rattle.std.proofs.lemmas.Result.{err_from_is_err_and}
use Rattle.text.specs.Words.{word_of}
use Rattle.text.specs.Rest.{end_of}
use Rattle.references.specs.Corner.{corner_of}
use Rattle.read_word_checks.specs.Faults.{counts_by}
use Rattle.read_word_checks.proofs.Words.{alike-is, alike-wrong}
use Rattle.read_word_checks.proofs.word.alike_fault.Goals as goal

pub returns-in_err-corner : goal.returns-in_err-corner
returns-in_err-corner c =
    let a = c.args in
    let p = err_from_is_err_and c.from_residual.result c.from_residual.ensures.1 in
    rw (p.1, p.2) (alike-wrong a.bare a.flat (corner_of (counts_by a.seen) a.parts (word_of (drop a.at a.text.now))) (end_of a.text.now a.at) c.in_err-corner.ensures)

pub returns-then-alike : goal.returns-then-alike
returns-then-alike c =
    let a = c.args in
    alike-is a.bare a.flat (corner_of (counts_by a.seen) a.parts (word_of (drop a.at a.text.now))) (end_of a.text.now a.at) true c.in_ok-corner.ensures (sym c.if-alike.true ∙ c.alike.ensures)

pub returns : goal.returns
returns c =
    let a = c.args in
    alike-is a.bare a.flat (corner_of (counts_by a.seen) a.parts (word_of (drop a.at a.text.now))) (end_of a.text.now a.at) false c.in_ok-corner.ensures (sym c.if-alike.false ∙ c.alike.ensures)
