use Rattle.std.proofs.Common.{◌≡◌, drop}
use Rattle.parameter_order.specs.Stepping.{walk_from, walked}
use Rattle.parameter_order.proofs.walk.Given as goal

abbrev pub invariant-loop-i : goal.invariant-loop-i
invariant-loop-i l = walk_from l.asked l.i l.o (drop l.i l.x) ≡ walked l.asked l.x
