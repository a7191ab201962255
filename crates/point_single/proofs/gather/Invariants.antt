use Prim.Native.Nat.{◌+◌}
use Rattle.point_rows.specs.Controls.{control_at}
use Rattle.point_single.specs.Points.{entry_of, Gathered}
use Rattle.point_single.proofs.gather.Given as goal

abbrev pub invariant-loop-j : goal.invariant-loop-j
invariant-loop-j l = Gathered l.row l.n l.j (λ k i. control_at l.values l.corners l.first (entry_of l.axis k) (l.from + i))
