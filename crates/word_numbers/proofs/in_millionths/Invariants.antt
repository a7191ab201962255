use Prim.Native.Nat.{◌-◌, ◌*◌, ◌^◌}
use mathlib.Core.Path.{◌≡◌}
use Rattle.word_numbers.proofs.in_millionths.Given as goal

abbrev pub invariant-loop-i : goal.invariant-loop-i
invariant-loop-i l = l.m * 10 ^ (6 - l.i) ≡ l.value * 10 ^ (6 - l.n)
