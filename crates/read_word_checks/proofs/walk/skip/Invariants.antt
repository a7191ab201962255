use Prim.Native.Nat.{◌-◌}
use Rattle.read_word_checks.proofs.Walks as W
use Rattle.read_word_checks.proofs.walk.skip.Given as goal

abbrev pub invariant-loop-passed : goal.invariant-loop-passed
invariant-loop-passed l = W.Skipping l.text l.at l.count l.i (l.count - l._passed)
