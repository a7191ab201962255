-- The loop is a turn of `Going` each time.
use Prim.Native.Nat.{ℕ, ◌*◌, ◌+◌}
use mathlib.Core.Path.{◌≡◌, refl, ap, ◌∙◌}
use lib.ListN.{length}
use native.Mathlib.Omega.{arith}
use Rattle.digits.specs.Straight.{cap}
use Rattle.digits.proofs.Runs.{whole-stop, whole-turn, run-no, run_end}
use Rattle.digits.proofs.whole_run.Goals as goal

pub loop-i-init : goal.loop-i-init
loop-i-init c = record { to = c.requires; small = omega arith; end_is = refl; value-is = refl }

pub returns-then-d-gt9 : goal.returns-then-d-gt9
returns-then-d-gt9 c =
    whole-stop c.loop-i.invariant (run-no c.args.text.now c.loop-i.i c.digit-d.result c.loop-i-test.true c.digit-d.ensures c.if-d-gt9.true)

pub loop-i-preserved : goal.loop-i-preserved
loop-i-preserved c =
    whole-turn c.loop-i.invariant c.digit-d.result c.push-value.result c.loop-i-test.true c.digit-d.ensures c.if-d-gt9.false
    (c.push-value.ensures ∙ ap (λ (n : ℕ). cap (c.loop-i.value * 10 + n)) c.from.ensures)

pub returns : goal.returns
returns c =
    let to = c.loop-i.invariant.to in
    let e : length c.args.text.now ≡ c.loop-i.i = omega arith in
    rw e (whole-stop c.loop-i.invariant (run_end c.args.text.now c.loop-i.i c.loop-i-test.false))
