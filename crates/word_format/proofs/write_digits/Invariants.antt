use Prim.Native.Nat.{◌-◌}
use Rattle.word_format.proofs.Digits.{Digits}
use Rattle.word_format.proofs.write_digits.Given as goal

abbrev pub invariant-loop-k : goal.invariant-loop-k
invariant-loop-k l = Digits l.initial.out l.at l.count l.n l.out (l.count - l.k) l.m
