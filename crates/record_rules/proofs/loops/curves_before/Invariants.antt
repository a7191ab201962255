use Rattle.std.proofs.Common.{◌≡◌, ◌≤◌}
use Rattle.record_rules.specs.Rules.{curves_among}
use Rattle.record_rules.proofs.loops.curves_before.Given as goal

abbrev pub invariant-loop-i : goal.invariant-loop-i
invariant-loop-i l = (l.before ≤ l.i) × (l.before ≡ curves_among l.elements l.i)
