use Rattle.point_rows.specs.Finding.{Hint}
use Rattle.point_rows.proofs.search.search.Given as goal

abbrev pub invariant-loop-i : goal.invariant-loop-i
invariant-loop-i l = Hint l.fn.along l.x l.t l.found l.i
