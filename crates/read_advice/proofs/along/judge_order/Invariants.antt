use Prim.Native.Nat.{◌≤◌}
use lib.ListN.{length}
use Rattle.read_advice.proofs.along.judge_order.Given as goal

abbrev pub invariant-loop-done : goal.invariant-loop-done
invariant-loop-done l = l.i ≤ length l.text
