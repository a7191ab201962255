-- By the count of the words, and by what each says.
use mathlib.Core.Path.{ap}
use mathlib.Core.Bool.{not}
use borrow.Author.Tests.{not-true, not-false}
use Rattle.text.specs.Rest.{rest_at}
use Rattle.statements.specs.declared.Carried.TheVariants.{BodyType}
use Rattle.statements.proofs.RowLaws.{row-counted}
use Rattle.read_settings.specs.Steps.{type_from}
use Rattle.read_settings.proofs.Lines as L
use Rattle.read_settings.proofs.take_type.Goals as goal

pub returns-in_err-line : goal.returns-in_err-line
returns-in_err-line c =
    let a = c.args in
    let r = rest_at a.text.now a.at in
    rw c.from_residual.ensures (L.row-refused BodyType r (λ ws. type_from a.form ws r.next) _ c.type_rules-rules.ensures c.in_err-line.ensures)

pub returns-then-line-eq1 : goal.returns-then-line-eq1
returns-then-line-eq1 c =
    let w = c.in_ok-line.ensures in
    L.type-one c.args.text.now _ _ _ _ _ w.0 c.args.form (row-counted BodyType c.in_ok-line.line.count c.type_rules-rules.ensures w.1) c.if-line-eq1.true c.argument_at-argument.ensures c.with_type.ensures

pub returns-then-not-is_rational : goal.returns-then-not-is_rational
returns-then-not-is_rational c =
    let w = c.in_ok-line.ensures in
    L.type-plain c.args.text.now _ _ _ _ _ w.0 c.args.form (row-counted BodyType c.in_ok-line.line.count c.type_rules-rules.ensures w.1) c.if-line-eq1.false c.argument_at-argument.ensures c.is_rational.ensures (not-true _ (ap not c.if-not-is_rational.true))

pub returns : goal.returns
returns c =
    let w = c.in_ok-line.ensures in
    L.type-two c.args.text.now _ _ _ _ _ w.0 c.args.form (row-counted BodyType c.in_ok-line.line.count c.type_rules-rules.ensures w.1) c.if-line-eq1.false c.argument_at-argument.ensures c.is_rational.ensures (not-false _ (ap not c.if-not-is_rational.false)) c.argument_at.ensures c.with_type-2.ensures
