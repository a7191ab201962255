-- By the byte where the whole digits end.
use native.Mathlib.Omega.{arith}
use Rattle.decimals.proofs.Scaled.{point-in, with-a-point, without-a-point}
use Rattle.decimals.proofs.exponent.mantissa_at.Goals as goal

pub overflow_add-result : goal.overflow_add-result
overflow_add-result c =
    let q = point-in c.args.text.now c.digits_end-point.result c.byte_at.result c.byte_at.ensures c.if-byte_at-eq46.true in
    omega arith

pub overflow_add-point : goal.overflow_add-point
overflow_add-point c =
    let q = point-in c.args.text.now c.digits_end-point.result c.byte_at.result c.byte_at.ensures c.if-byte_at-eq46.true in
    omega arith

pub digits_end-requires : goal.digits_end-requires
digits_end-requires c =
    let q = point-in c.args.text.now c.digits_end-point.result c.byte_at.result c.byte_at.ensures c.if-byte_at-eq46.true in
    omega arith

pub returns-then-byte_at-eq46 : goal.returns-then-byte_at-eq46
returns-then-byte_at-eq46 c =
    let a = c.args in
    with-a-point a.text.now a.at c.digits_end-point.result c.digits_end-point.ensures c.byte_at.result c.byte_at.ensures c.if-byte_at-eq46.true c.digits_end.result c.digits_end.ensures

pub returns : goal.returns
returns c =
    without-a-point c.args.text.now c.args.at c.requires c.digits_end-point.result c.digits_end-point.ensures c.byte_at.result c.byte_at.ensures c.if-byte_at-eq46.false
