-- By the words, and by their count.
use mathlib.Core.Path.{sym, ap, ◌∙◌}
use mathlib.Core.Bool.{not}
use borrow.Author.Tests.{not-true, not-false}
use Rattle.statements.specs.Rules.{counted_by}
use Rattle.read_settings.proofs.words.counted_line.Goals as goal

pub returns-in_err-line : goal.returns-in_err-line
returns-in_err-line c = rw c.from_residual.ensures (λ e. absurd (c.in_err-line.ensures e))

pub returns-then-not-counted : goal.returns-then-not-counted
returns-then-not-counted c = λ e. ap (counted_by c.args.allowed) (sym c.in_ok-line.ensures.counted) ∙ sym c.counted.ensures ∙ not-true _ (ap not c.if-not-counted.true)

pub returns : goal.returns
returns c = (c.in_ok-line.ensures, sym (not-false _ (ap not c.if-not-counted.false)) ∙ c.counted.ensures)
