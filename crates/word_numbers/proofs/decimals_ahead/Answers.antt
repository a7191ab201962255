-- Six decimals and no digit after them are whole millionths.
use lib.ListN.{drop}
use native.Mathlib.Omega.{arith}
use Rattle.digits.proofs.Runs.{few-near}
use Rattle.digits.proofs.Fronts.{low-stops}
use Rattle.word_numbers.proofs.Ahead.{decimals-fit, decimals-of}
use Rattle.word_numbers.proofs.decimals_ahead.Goals as goal

pub byte_in-b-requires : goal.byte_in-b-requires
byte_in-b-requires c =
    let n = few-near c.digits_upto-f.ensures in
    let p = c.requires.0 in
    omega arith

pub mantissa_ahead-requires : goal.mantissa_ahead-requires
mantissa_ahead-requires c =
    let n = few-near c.digits_upto-f.ensures in
    let p = c.requires.0 in
    record { upto_read = c.digits_upto-f.ensures; end_in_bounds = (omega arith, c.requires.1, c.requires.2) }

pub in_millionths-requires : goal.in_millionths-requires
in_millionths-requires c =
    decimals-fit c.digits_upto-f.ensures (low-stops (drop c.digits_upto-f.result.next c.args.text.now) c.byte_in-b.result c.byte_in-b.ensures c.if-b-gt32.false) c.requires.2

pub returns : goal.returns
returns c =
    let l = c.if-b-gt32.false in
    let e = c.byte_in-b.ensures in (
      decimals-of c.digits_upto-f.ensures (low-stops (drop c.digits_upto-f.result.next c.args.text.now) c.byte_in-b.result c.byte_in-b.ensures c.if-b-gt32.false) c.in_millionths.result c.in_millionths.ensures c.args.count (omega arith) c.if-count-end-eq0.false,
      few-near c.digits_upto-f.ensures,
    )
