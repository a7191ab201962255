use Rattle.std.proofs.Common.{◌≡◌, true}
use Rattle.record_rules.specs.Numbers.{all_below}
use Rattle.record_rules.proofs.EachBare.{at_bare}
use Rattle.record_rules.proofs.bare.each_bare.Given as goal

abbrev pub invariant-loop-k : goal.invariant-loop-k
invariant-loop-k l = all_below l.k (at_bare l.values l.used l.corners l.run) ≡ true
