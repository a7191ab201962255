use Rattle.std.proofs.Common.{◌≡◌, ◌+◌, true, pos, get_or}
use Rattle.record_rules.specs.Numbers.{in_range, all_below}
use Rattle.record_rules.proofs.numbers.run_in_range.Given as goal

abbrev pub invariant-loop-k : goal.invariant-loop-k
invariant-loop-k l = all_below l.k (λ j. in_range (get_or l.values (l.first + j) (pos 0))) ≡ true
