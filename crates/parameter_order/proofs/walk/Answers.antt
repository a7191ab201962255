-- What is left leads to what all of it comes to.
use Rattle.std.proofs.Common.{◌≡◌, pos, get_or, rules}
use Rattle.parameter_order.specs.Stepping.{step_of}
use Rattle.parameter_order.proofs.Walks.{walk-on}
use Rattle.parameter_order.proofs.walk.Goals as goal

pub loop-i-preserved : goal.loop-i-preserved
loop-i-preserved c =
    let s = c.args in
    let stepped : c.step-o.result ≡ step_of s.asked c.loop-i.i c.loop-i.o (get_or s.x.now c.loop-i.i (pos 0)) = search rules in
    walk-on s.asked s.x.now c.loop-i.i c.loop-i.o c.loop-i.invariant c.loop-i-test.true stepped
