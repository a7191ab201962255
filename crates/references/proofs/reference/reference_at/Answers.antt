-- The part that stands there is the word where the word ends with it.
use mathlib.Core.Path.{◌∙◌, sym}
use Rattle.std.proofs.lemmas.Result.{err_from_is_err_and}
use Rattle.references.proofs.References.{reference-bad, reference-not, reference-missing, reference-item}
use Rattle.references.proofs.reference.reference_at.Goals as goal

pub returns-in_err-part : goal.returns-in_err-part
returns-in_err-part c =
    let p = err_from_is_err_and c.from_residual.result c.from_residual.ensures.1 in
    let q = c.in_err-part.ensures in
    rw (p.1, p.2, q.0) (reference-bad c.args.count c.args.text.now c.args.at q.1)

pub returns-then-not-word_ends : goal.returns-then-not-word_ends
returns-then-not-word_ends c =
    reference-not c.args.count c.args.text.now c.args.at _ _ c.in_ok-part.ensures (sym c.if-not-word_ends.true ∙ c.word_ends.ensures)

pub returns-then-part-eq0 : goal.returns-then-part-eq0
returns-then-part-eq0 c =
    reference-missing c.args.count c.args.text.now c.args.at _ _ c.in_ok-part.ensures (sym c.if-not-word_ends.false ∙ c.word_ends.ensures) c.if-part-eq0.true

pub returns : goal.returns
returns c =
    reference-item c.args.count c.args.text.now c.args.at _ _ c.in_ok-part.ensures (sym c.if-not-word_ends.false ∙ c.word_ends.ensures) c.if-part-eq0.false
