use Rattle.std.proofs.Common.{◌≡◌}
use Rattle.sweep_marks.specs.Marks.{kind_of, mark_elements}
use Rattle.sweep_marks.proofs.mark_elements.Given as goal

abbrev pub invariant-loop-i : goal.invariant-loop-i
invariant-loop-i l = l.marks ≡ mark_elements (kind_of l.table) l.elements l.corners l.i l.initial.marks
