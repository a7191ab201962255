use mathlib.Core.Path.{◌≡◌}
use lib.ListN.{drop}
use Rattle.case_files.specs.Cases.{end_from, case_line_end}
use Rattle.case_files.proofs.line_end.Given as goal

abbrev pub invariant-loop-i : goal.invariant-loop-i
invariant-loop-i l = (end_from l.i (drop l.i l.cases) ≡ case_line_end l.cases l.at)
