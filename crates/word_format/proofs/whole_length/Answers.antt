-- The digits counted and those of what is left are those of n, and one more.
use native.Mathlib.Omega.{arith}
use Rattle.references.proofs.WholesBack.{written-few, written-some}
use Rattle.word_format.proofs.Digits.{whole-one, whole-more}
use Rattle.word_format.proofs.whole_length.Goals as goal

pub loop-m-init : goal.loop-m-init
loop-m-init c = (omega arith, omega arith)

pub overflow_add-count : goal.overflow_add-count
overflow_add-count c =
    let l = c.loop-m in
    let few = written-few 9 c.args.n (omega arith) in
    let some = written-some c.loop-m.m in
    omega arith

pub loop-m-smaller : goal.loop-m-smaller
loop-m-smaller c = omega arith

pub loop-m-preserved : goal.loop-m-preserved
loop-m-preserved c =
    let l = c.loop-m in
    let e = whole-more c.loop-m.m c.loop-m-test.true (omega arith) in
    (omega arith, omega arith)

pub returns : goal.returns
returns c =
    let e = whole-one c.loop-m.m (omega arith) in
    omega arith
