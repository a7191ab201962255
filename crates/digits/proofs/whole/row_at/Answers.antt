-- By how many digits there are, and whether the word ends with them.
use mathlib.Core.Path.{◌∙◌, sym}
use native.Mathlib.Omega.{arith}
use Rattle.digits.proofs.Wholes.{row-none, row-many, row-not, row_of}
use Rattle.digits.proofs.whole.row_at.Goals as goal
use Rattle.digits.proofs.whole.row_at.Goals.{then-count-eq0-via-then-count-eq0, then-count-eq0-via-else-count-eq0+then-most-count, then-count-eq0-via-else-count-eq0+else-most-count+then-not-word_ends}

pub returns-then-count-eq0 : goal.returns-then-count-eq0
returns-then-count-eq0 c =
    let a = c.args in
    let r = c.whole_run-row.result in
    let e = c.whole_run-row.ensures in
    elim c.then-count-eq0.branch [ then-count-eq0-via-then-count-eq0 w ↦ row-none a.text.now a.at a.most r.next r.value e (omega arith) | then-count-eq0-via-else-count-eq0+then-most-count w ↦ row-many a.text.now a.at a.most r.next r.value e w.if-most-count.true | then-count-eq0-via-else-count-eq0+else-most-count+then-not-word_ends w ↦ row-not a.text.now a.at a.most r.next r.value e (sym w.if-not-word_ends.true ∙ w.word_ends.ensures) ]

pub returns : goal.returns
returns c =
    let a = c.args in
    let r = c.whole_run-row.result in
    row_of a.text.now a.at a.most r.next r.value c.whole_run-row.ensures c.requires.1 (λ e. c.if-count-eq0.false (omega arith)) c.if-most-count.false (sym c.if-not-word_ends.false ∙ c.word_ends.ensures)
