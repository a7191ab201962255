use Rattle.sweep_rows.proofs.Renumbering.{RunsRenumbered}
use Rattle.sweep_rows.proofs.corners.renumber.Given as goal

abbrev pub invariant-loop-i : goal.invariant-loop-i
invariant-loop-i l = RunsRenumbered l.used l.numbers l.elements l.initial.corners l.corners l.used.elements l.i
