use mathlib.Core.Path.{◌≡◌}
use mathlib.Core.Bool.{true}
use Prim.Native.Nat.{◌+◌, ◌-◌, ◌≤◌, ◌<◌}
use Rattle.point_exact.specs.Sampled.{pyramid, offset_at, gap_at}
use Rattle.point_rows.specs.Places.{direction}
use Rattle.point_guess.specs.Steps.{Axis}
use Rattle.point_guess.specs.Rows.{place_at, axis_number, Encoded}
use Rattle.point_guess.proofs.Levels.{Level, Left}
use Rattle.point_guess.proofs.guess_point.Given as goal

abbrev pub invariant-loop-i : goal.invariant-loop-i
invariant-loop-i l =
    (l.a ≡ place_at l.initial.work.places l.i) × Left l.initial.work.places l.work.places l.i
    × (l.sure ≡ true → Level (offset_at (direction l.along l.x) l.t (l.last - 1)) (gap_at (direction l.along l.x) l.t (l.last - 1)) l.initial.work.places l.work.places l.i)

abbrev pub invariant-loop-last : goal.invariant-loop-last
invariant-loop-last l =
    Encoded l.work.places l.last × (0 < l.last) × (l.last ≤ l.along.degree + 1)
    × ((k : Axis) → pyramid (offset_at (direction l.along l.x) l.t) (gap_at (direction l.along l.x) l.t) (l.last - 1) (axis_number l.work.places k)
    ≡ pyramid (offset_at (direction l.along l.x) l.t) (gap_at (direction l.along l.x) l.t) l.along.degree (axis_number l.initial.work.places k))
