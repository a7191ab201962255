use Rattle.std.proofs.Common.{◌≡◌, true, []}
use Rattle.tables.specs.Tables.{tables}
use Rattle.record_rules.specs.Numbers.{all_below}
use Rattle.record_rules.proofs.EachPart.{at_part}
use Rattle.record_rules.proofs.loops.each_part.Given as goal

abbrev pub invariant-loop-k : goal.invariant-loop-k
invariant-loop-k l = all_below l.k (at_part (tables [] [] [] [] [] [] [] [] [] l.loops l.spans) l.curves l.first) ≡ true
