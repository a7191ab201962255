use Prim.Native.Nat.{◌+◌, ◌*◌}
use Rattle.point_exact.specs.Sampled.{curve_sampled}
use Rattle.point_rows.specs.Places.{direction}
use Rattle.point_rows.specs.Controls.{control_at}
use Rattle.point_single.specs.Points.{entry_of, Gathered}
use Rattle.point_single.proofs.across.Given as goal

abbrev pub invariant-loop-j : goal.invariant-loop-j
invariant-loop-j l =
    Gathered l.column l.v.degree l.j (λ k i. curve_sampled (direction l.u l.x) l.s (λ m. control_at l.values l.corners l.first (entry_of 0 k) ((l.top + i) * l.u.controls + m)))
