use Rattle.std.proofs.Common.{◌≡◌}
use Rattle.sweep_marks.specs.Marks.{mark_every}
use Rattle.sweep_marks.proofs.mark_every.Given as goal

abbrev pub invariant-loop-j : goal.invariant-loop-j
invariant-loop-j l = l.marks ≡ mark_every l.corners l.run l.place l.j l.initial.marks
