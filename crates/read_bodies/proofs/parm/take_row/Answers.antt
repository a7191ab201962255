-- By the count, which the row of parm holds with the direction.
use Prim.Native.Nat.{◌+◌}
use mathlib.Core.Path.{sym, ap, ◌∙◌}
use mathlib.Core.Bool.{not}
use borrow.Author.Rules.{rules}
use borrow.Author.Tests.{not-true, not-false}
use Rattle.statements.specs.declared.Carried.TheVariants.{Parameters}
use Rattle.statements.proofs.RowLaws.{row-counted}
use Rattle.read_bodies.proofs.Parms as P
use Rattle.read_bodies.proofs.parm.take_row.Goals as goal

pub overflow_add-numbers : goal.overflow_add-numbers
overflow_add-numbers c =
    let small = (P.all-counted c.args.text.now c.args.at _ c.count_numbers.ensures c.in_ok-numbers.ensures.value).small in
    search rules

pub returns-then-not-counted : goal.returns-then-not-counted
returns-then-not-counted c =
    let a = c.args in
    let n = c.in_ok-numbers.numbers in
    P.row-few a.text.now a.at a.along_v (P.all-counted a.text.now a.at _ c.count_numbers.ensures c.in_ok-numbers.ensures.value)
    (sym (not-true _ (ap not c.if-not-counted.true)) ∙ row-counted Parameters (n.value + 1) c.parameter_rules-rules.ensures c.counted.ensures)

pub returns-in_err-numbers : goal.returns-in_err-numbers
returns-in_err-numbers c =
    let a = c.args in
    rw c.from_residual.ensures (P.not-counted a.text.now a.at a.along_v _ c.count_numbers.ensures c.in_err-numbers.ensures.value)

pub returns : goal.returns
returns c =
    let a = c.args in
    let n = c.in_ok-numbers.numbers in
    P.row-taken a.text.now a.at a.along_v (P.all-counted a.text.now a.at _ c.count_numbers.ensures c.in_ok-numbers.ensures.value)
    (sym (not-false _ (ap not c.if-not-counted.false)) ∙ row-counted Parameters (n.value + 1) c.parameter_rules-rules.ensures c.counted.ensures)
