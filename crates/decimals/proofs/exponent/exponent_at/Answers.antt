-- The sign apart, what stands after e or E is a row of digits.
use native.Mathlib.Omega.{arith}
use Rattle.std.proofs.lemmas.Result.{err_from_is_err_and}
use Rattle.decimals.proofs.Signed.{sign_fits}
use Rattle.decimals.proofs.Exponents.{exponent-bad, exponent-read}
use Rattle.decimals.proofs.exponent.exponent_at.Goals as goal

pub overflow_add-at : goal.overflow_add-at
overflow_add-at c =
    let q = sign_fits c.args.text.now c.args.at c.byte_at-b.result c.sign_length.result c.requires c.byte_at-b.ensures c.sign_length.ensures in
    omega arith

pub row_at-requires : goal.row_at-requires
row_at-requires c =
    (sign_fits c.args.text.now c.args.at c.byte_at-b.result c.sign_length.result c.requires c.byte_at-b.ensures c.sign_length.ensures, omega arith)

pub returns-in_err-power : goal.returns-in_err-power
returns-in_err-power c =
    let p = err_from_is_err_and c.from_residual.result c.from_residual.ensures.1 in
    rw (p.1, p.2)
    (exponent-bad c.args.text.now c.args.at c.byte_at-b.result c.sign_length.result c.requires c.byte_at-b.ensures c.sign_length.ensures c.in_err-power.ensures)

pub returns : goal.returns
returns c =
    exponent-read c.args.text.now c.args.at c.byte_at-b.result c.sign_length.result c.requires c.byte_at-b.ensures c.sign_length.ensures c.in_ok-power.power.value c.in_ok-power.power.next c.in_ok-power.ensures
