-- The third part is the last, and a further slash makes a fourth.
use mathlib.Core.Path.{◌∙◌, sym, ap}
use mathlib.Core.Bool.{not}
use borrow.Author.Tests.{not-true, not-false}
use Rattle.std.proofs.lemmas.Result.{err_from_is_err_and}
use Rattle.digits.specs.Answers.{said}
use Rattle.references.proofs.Patterns.{normal-none, normal-bad, normal-not, normal-missing, normal-of}
use Rattle.references.proofs.corner.normal_at.Goals as goal

pub returns-then-not-normal : goal.returns-then-not-normal
returns-then-not-normal c =
    let a = c.args in
    normal-none a.normal a.nvn a.there a.v a.vt a.text.now a.at (not-true a.normal (ap not c.if-not-normal.true))

pub returns-in_err-vn : goal.returns-in_err-vn
returns-in_err-vn c =
    let a = c.args in
    let p = err_from_is_err_and c.from_residual.result c.from_residual.ensures.1 in
    let q = c.in_err-vn.ensures in
    rw (p.1, p.2, q.0) (normal-bad a.normal a.nvn a.there a.v a.vt a.text.now a.at q.1)

pub returns-then-not-word_ends : goal.returns-then-not-word_ends
returns-then-not-word_ends c =
    let a = c.args in
    normal-not a.normal a.nvn a.there a.v a.vt _ _ c.in_ok-vn.ensures (sym c.if-not-word_ends.true ∙ c.word_ends.ensures)

pub returns-then-vn-eq0 : goal.returns-then-vn-eq0
returns-then-vn-eq0 c =
    let a = c.args in
    normal-missing a.normal a.nvn a.there a.v a.vt _ _ c.in_ok-vn.ensures (not-false a.normal (ap not c.if-not-normal.false)) (sym c.if-not-word_ends.false ∙ c.word_ends.ensures) c.if-vn-eq0.true

pub returns : goal.returns
returns c =
    let a = c.args in
    normal-of a.normal a.nvn a.there a.v a.vt _ _ c.in_ok-vn.ensures (not-false a.normal (ap not c.if-not-normal.false)) (sym c.if-not-word_ends.false ∙ c.word_ends.ensures) c.if-vn-eq0.false (said c.made.result) c.made.ensures
