-- The loop is a turn of `FirstDigits` each time.
use Prim.Native.Nat.{ℕ, ◌*◌, ◌+◌}
use mathlib.Core.Path.{ap, ◌∙◌}
use native.Mathlib.Omega.{arith}
use Rattle.digits.specs.Straight.{cap}
use Rattle.digits.proofs.Runs.{first-start, first-full, first-stop, first-turn, run-no}
use Rattle.digits.proofs.first_digits.Goals as goal

pub loop-i-init : goal.loop-i-init
loop-i-init c = first-start c.args.most c.args.text.now c.args.at c.args.value c.requires.most_in_bounds c.requires.value_bound

pub returns-then-d-gt9 : goal.returns-then-d-gt9
returns-then-d-gt9 c =
    first-stop c.loop-i.invariant (run-no c.args.text.now c.loop-i.i c.digit-d.result (omega arith) c.digit-d.ensures c.if-d-gt9.true)

pub loop-i-preserved : goal.loop-i-preserved
loop-i-preserved c =
    first-turn c.loop-i.invariant c.digit-d.result c.push-number.result c.loop-i-test.true c.requires.most_in_bounds c.digit-d.ensures c.if-d-gt9.false
    (c.push-number.ensures ∙ ap (λ (n : ℕ). cap (c.loop-i.number * 10 + n)) c.from.ensures)

pub returns : goal.returns
returns c = first-full c.loop-i.invariant (omega arith)
