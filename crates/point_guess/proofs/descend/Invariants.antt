use mathlib.Core.Path.{◌≡◌}
use Prim.Native.Nat.{◌+◌, ◌-◌, ◌≤◌, ◌<◌}
use Rattle.point_exact.specs.Sampled.{pyramid, offset_at, gap_at}
use Rattle.point_rows.specs.Places.{direction}
use Rattle.point_guess.specs.Steps.{Axis}
use Rattle.point_guess.specs.Rows.{place_at, axis_number, Encoded}
use Rattle.point_guess.proofs.Levels.{Level, Left}
use Rattle.point_guess.proofs.descend.Given as goal

abbrev pub invariant-loop-i : goal.invariant-loop-i
invariant-loop-i l =
    (l.a ≡ place_at l.initial.rest.places l.i) × Left l.initial.rest.places l.rest.places l.i
    × Level (offset_at (direction l.along l.x) l.t (l.last - 1)) (gap_at (direction l.along l.x) l.t (l.last - 1)) l.initial.rest.places l.rest.places l.i

abbrev pub invariant-loop-rest : goal.invariant-loop-rest
invariant-loop-rest l =
    Encoded l.rest.places l.rest.count × (0 < l.rest.count) × (l.rest.count ≤ l.along.degree + 1)
    × ((k : Axis) → pyramid (offset_at (direction l.along l.x) l.t) (gap_at (direction l.along l.x) l.t) (l.rest.count - 1) (axis_number l.rest.places k)
    ≡ pyramid (offset_at (direction l.along l.x) l.t) (gap_at (direction l.along l.x) l.t) l.along.degree (axis_number l.initial.rest.places k))

abbrev pub decreases-loop-rest : goal.decreases-loop-rest
decreases-loop-rest l = l.rest.count
