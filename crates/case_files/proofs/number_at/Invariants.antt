use Prim.Native.Nat.{◌≤◌}
use mathlib.Core.Path.{◌≡◌}
use lib.ListN.{drop}
use Rattle.case_files.specs.Cases.{number_from, case_number_at}
use Rattle.case_files.proofs.number_at.Given as goal

abbrev pub invariant-loop-i : goal.invariant-loop-i
invariant-loop-i l = (number_from l.value l.i (drop l.i l.cases) ≡ case_number_at l.cases l.at) × (l.value ≤ 50000000000)
