use Prim.Native.Nat.{◌+◌, ◌-◌}
use Rattle.digits.proofs.Runs.{FirstDigits}
use Rattle.digits.proofs.first_digits.Given as goal

abbrev pub invariant-loop-i : goal.invariant-loop-i
invariant-loop-i l = FirstDigits l.most l.text l.at l.initial.number l.i l.number ((l.at + l.most) - l.i)
