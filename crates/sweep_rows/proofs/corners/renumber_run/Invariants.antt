use Rattle.sweep_rows.proofs.Renumbering.{Renumbered}
use Rattle.sweep_rows.proofs.corners.renumber_run.Given as goal

abbrev pub invariant-loop-k : goal.invariant-loop-k
invariant-loop-k l = Renumbered l.used l.numbers l.initial.corners l.corners l.kind l.run l.k
