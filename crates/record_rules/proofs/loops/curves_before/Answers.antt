-- No element stands past the table.
use Rattle.std.proofs.Common.{◌∙◌, arith}
use Rattle.record_rules.proofs.OneBody.{curves-past}
use Rattle.record_rules.proofs.loops.curves_before.Goals as goal

pub returns-then-elements-i : goal.returns-then-elements-i
returns-then-elements-i c =
    let s = c.args in
    c.loop-i.invariant.1 ∙ curves-past s.elements.now c.loop-i.i s.index c.if-elements-i.true (omega arith)
