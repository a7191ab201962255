-- What is left has as many digits as all of them less those passed.
use mathlib.Core.Path.{refl}
use native.Mathlib.Omega.{arith}
use Rattle.digits.proofs.Runs.{end-stop, end-turn, run-no, run_end}
use Rattle.digits.proofs.digits_end.Goals as goal

pub loop-i-init : goal.loop-i-init
loop-i-init c = refl

pub returns-then-digit-gt9 : goal.returns-then-digit-gt9
returns-then-digit-gt9 c =
    let s = c.args.text.now in
    end-stop s c.args.at c.loop-i.i c.loop-i.invariant
    (run-no s c.loop-i.i c.digit.result c.loop-i-test.true c.digit.ensures c.if-digit-gt9.true)

pub loop-i-preserved : goal.loop-i-preserved
loop-i-preserved c =
    end-turn c.args.text.now c.args.at c.loop-i.i c.digit.result c.loop-i.invariant c.loop-i-test.true c.digit.ensures c.if-digit-gt9.false

pub returns : goal.returns
returns c =
    let s = c.args.text.now in
    let e = end-stop s c.args.at c.loop-i.i c.loop-i.invariant (run_end s c.loop-i.i c.loop-i-test.false) in
    omega arith
