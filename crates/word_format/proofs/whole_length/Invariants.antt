use Prim.Native.Nat.{◌+◌, ◌≤◌}
use mathlib.Core.Path.{◌≡◌}
use lib.ListN.{length}
use Rattle.references.specs.Written.{written_whole}
use Rattle.word_format.proofs.whole_length.Given as goal

abbrev pub invariant-loop-m : goal.invariant-loop-m
invariant-loop-m l = (l.count + length (written_whole l.m) ≡ length (written_whole l.n) + 1) × (l.m ≤ l.n)

abbrev pub decreases-loop-m : goal.decreases-loop-m
decreases-loop-m l = l.m
