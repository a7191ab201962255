-- An exponent that is none, or a value.
use native.Mathlib.Omega.{arith}
use Rattle.std.proofs.lemmas.Result.{err_from_is_err_and}
use Rattle.decimals.proofs.Ahead.{ahead_small, ahead_in, shifted-malformed, shifted-read}
use borrow.Author.Rules.{rules}
use Rattle.decimals.proofs.exponent.shifted.Goals as goal

pub overflow_add-end : goal.overflow_add-end
overflow_add-end c =
    let q = ahead_in c.args.text.now c.args.at c.args.millionths c.args.end c.requires in
    search rules

pub exponent_at-requires : goal.exponent_at-requires
exponent_at-requires c =
    let q = ahead_in c.args.text.now c.args.at c.args.millionths c.args.end c.requires in
    omega arith

pub overflow_mul-millionths : goal.overflow_mul-millionths
overflow_mul-millionths c =
    let q = ahead_small c.args.text.now c.args.at c.args.millionths c.args.end c.requires in
    omega arith

pub moved-value-requires : goal.moved-value-requires
moved-value-requires c = ahead_small c.args.text.now c.args.at c.args.millionths c.args.end c.requires

pub returns-in_err-exponent : goal.returns-in_err-exponent
returns-in_err-exponent c =
    let p = err_from_is_err_and c.from_residual.result c.from_residual.ensures.1 in
    rw (p.1, p.2)
    (shifted-malformed c.args.text.now c.args.at c.args.millionths c.args.end c.requires _ c.in_err-exponent.ensures)

pub returns : goal.returns
returns c =
    shifted-read c.args.text.now c.args.at c.args.millionths c.args.end c.requires c.in_ok-exponent.exponent.value c.in_ok-exponent.exponent.next c.moved-value.result c.in_ok-exponent.ensures c.moved-value.ensures
