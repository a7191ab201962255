use Rattle.std.proofs.Common.{◌≡◌, ◌≤◌}
use Rattle.record_rules.specs.Rules.{curves_among}
use Rattle.c_tables.specs.CurveNumbers.{curve_among}
use Rattle.c_tables.proofs.curve_numbers.curve_of.Given as goal

abbrev pub invariant-loop-i : goal.invariant-loop-i
invariant-loop-i l =
    (l.seen ≤ l.i) × (l.seen ≡ curves_among l.elements l.i) × (curve_among l.elements l.curve l.i ≡ 0)
