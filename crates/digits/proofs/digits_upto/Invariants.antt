use Prim.Native.Nat.{◌+◌, ◌-◌}
use Rattle.digits.proofs.Runs.{Few}
use Rattle.digits.proofs.digits_upto.Given as goal

abbrev pub invariant-loop-k : goal.invariant-loop-k
invariant-loop-k l = Few l.most l.text l.at l.whole (l.at + l.k) l.value ((l.at + l.most) - (l.at + l.k))
