-- Where e or E stops them, the decimals are all there are.
use mathlib.Core.Path.{◌≡◌, sym, ap, ◌∙◌}
use mathlib.Core.Bool.{true}
use lib.ListN.{drop}
use Rattle.digits.specs.Straight.{first}
use Rattle.decimals.specs.Number.{is_e}
use Rattle.decimals.proofs.Mantissas.{e-no-digit}
use Rattle.word_numbers.proofs.Ahead.{decimals-fit, decimals-ahead}
use Rattle.word_numbers.proofs.mantissa_ahead.Goals as goal

pub in_millionths-requires : goal.in_millionths-requires
in_millionths-requires c =
    let stop = first (drop c.args.f.next c.args.text.now) in
    let h : is_e stop ≡ true = sym (ap is_e c.byte_in.ensures) ∙ sym c.is_e.ensures ∙ c.if-is_e.true in
    decimals-fit c.requires.upto_read (e-no-digit stop h) c.requires.end_in_bounds.2

pub returns-then-is_e : goal.returns-then-is_e
returns-then-is_e c =
    let stop = first (drop c.args.f.next c.args.text.now) in
    let h : is_e stop ≡ true = sym (ap is_e c.byte_in.ensures) ∙ sym c.is_e.ensures ∙ c.if-is_e.true in
    decimals-ahead c.requires.upto_read (e-no-digit stop h) c.in_millionths.result c.in_millionths.ensures c.args.count c.if-count-stop-eq0.false h
