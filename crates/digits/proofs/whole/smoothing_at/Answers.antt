-- `off` first, then the form from `row_at`, then the value.
use mathlib.Core.Path.{◌∙◌, sym}
use Rattle.std.proofs.lemmas.Result.{err_from_is_err_and}
use Rattle.digits.proofs.Wholes.{smoothing-off, smoothing-bad, smoothing-high, smoothing-of}
use Rattle.digits.proofs.whole.smoothing_at.Goals as goal

pub returns-in-Some : goal.returns-in-Some
returns-in-Some c = smoothing-off c.args.text.now c.args.at c.in-Some.next (sym c.in-Some.is ∙ c.off_end.ensures)

pub returns-in_err-number : goal.returns-in_err-number
returns-in_err-number c =
    let p = err_from_is_err_and c.from_residual.result c.from_residual.ensures.1 in
    rw (p.1, p.2)
    (smoothing-bad c.args.text.now c.args.at (sym c.in_default.is ∙ c.off_end.ensures) c.in_err-number.ensures)

pub returns-then-number-gt65535 : goal.returns-then-number-gt65535
returns-then-number-gt65535 c =
    smoothing-high c.args.text.now c.args.at (sym c.in_default.is ∙ c.off_end.ensures) _ _ c.in_ok-number.ensures c.if-number-gt65535.true

pub returns : goal.returns
returns c =
    smoothing-of c.args.text.now c.args.at (sym c.in_default.is ∙ c.off_end.ensures) _ _ c.in_ok-number.ensures c.if-number-gt65535.false
