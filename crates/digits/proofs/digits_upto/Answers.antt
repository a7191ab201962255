-- The loop is a turn of `Few` each time; no turn wraps, since all the digits that may be read do not.
use Prim.Native.Nat.{◌+◌}
use mathlib.Core.Path.{◌≡◌}
use native.Mathlib.Omega.{arith}
use Rattle.digits.proofs.Runs.{few-start, few-full, few-stop, few-turn, few-small-turn, run-no}
use Rattle.digits.proofs.digits_upto.Goals as goal

pub loop-k-init : goal.loop-k-init
loop-k-init c =
    let e : c.args.at + 0 ≡ c.args.at = omega arith in
    rw e (few-start c.args.most c.args.text.now c.args.at c.args.whole c.requires.most_in_bounds)

pub returns-then-d-gt9 : goal.returns-then-d-gt9
returns-then-d-gt9 c =
    few-stop c.loop-k.invariant (run-no c.args.text.now (c.args.at + c.loop-k.k) c.digit-d.result (omega arith) c.digit-d.ensures c.if-d-gt9.true)

pub overflow_mul-value : goal.overflow_mul-value
overflow_mul-value c =
    let q = few-small-turn c.loop-k.invariant c.digit-d.result (omega arith) c.requires.most_in_bounds c.digit-d.ensures c.if-d-gt9.false c.requires.most_bound in
    omega arith

pub overflow_add-value : goal.overflow_add-value
overflow_add-value c =
    let q = few-small-turn c.loop-k.invariant c.digit-d.result (omega arith) c.requires.most_in_bounds c.digit-d.ensures c.if-d-gt9.false c.requires.most_bound in
    omega (arith, c.from.ensures)

pub loop-k-preserved : goal.loop-k-preserved
loop-k-preserved c =
    let e : c.args.at + (c.loop-k.k + 1) ≡ c.args.at + c.loop-k.k + 1 = omega arith in
    rw (e, c.from.ensures)
    (few-turn c.loop-k.invariant c.digit-d.result (omega arith) c.requires.most_in_bounds c.digit-d.ensures c.if-d-gt9.false)

pub returns : goal.returns
returns c =
    let e : c.args.at + c.args.most ≡ c.args.at + c.loop-k.k = omega arith in
    rw e (few-full c.loop-k.invariant (omega arith))
