use Rattle.std.proofs.Common.{◌≡◌, true}
use Rattle.tables.specs.Lent.{lent}
use Rattle.record_rules.specs.Numbers.{all_below}
use Rattle.record_rules.proofs.EachCorner.{at_corner}
use Rattle.record_rules.proofs.corners.each_corner.Given as goal

abbrev pub invariant-loop-k : goal.invariant-loop-k
invariant-loop-k l = all_below l.k (at_corner l.used (lent l.t) l.kind l.run) ≡ true
