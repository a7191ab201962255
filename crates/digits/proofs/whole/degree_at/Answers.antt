-- The form from `row_at`, then the value.
use Rattle.std.proofs.lemmas.Result.{err_from_is_err_and}
use Rattle.digits.proofs.Wholes.{degree-bad, degree-low, degree-high, degree-of}
use Rattle.digits.proofs.whole.degree_at.Goals as goal
use Rattle.digits.proofs.whole.degree_at.Goals.{then-degree-eq0-via-then-degree-eq0, then-degree-eq0-via-else-degree-eq0+then-degree-gt20}

pub returns-in_err-degree : goal.returns-in_err-degree
returns-in_err-degree c =
    let p = err_from_is_err_and c.from_residual.result c.from_residual.ensures.1 in
    rw (p.1, p.2) (degree-bad c.args.text.now c.args.at c.in_err-degree.ensures)

pub returns-then-degree-eq0 : goal.returns-then-degree-eq0
returns-then-degree-eq0 c =
    let a = c.args in
    let h = c.in_ok-degree.ensures in
    elim c.then-degree-eq0.branch [ then-degree-eq0-via-then-degree-eq0 w ↦ degree-low a.text.now a.at _ _ h w.if-degree-eq0.true | then-degree-eq0-via-else-degree-eq0+then-degree-gt20 w ↦ degree-high a.text.now a.at _ _ h w.if-degree-eq0.false w.if-degree-gt20.true ]

pub returns : goal.returns
returns c =
    degree-of c.args.text.now c.args.at _ _ c.in_ok-degree.ensures c.if-degree-eq0.false c.if-degree-gt20.false
