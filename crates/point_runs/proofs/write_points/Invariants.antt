use mathlib.Core.Path.{◌≡◌}
use mathlib.Core.List.{List, ◌++◌}
use Prim.Native.Nat.{ℕ, ◌*◌, ◌-◌, ◌≤◌, ◌<◌}
use lib.ListN.{length, drop}
use lib.IntN.{ℤ}
use Rattle.point_exact.specs.Sampled.{pyramid, offset_at, gap_at}
use Rattle.point_rows.specs.declared.BodyDirection.{BodyDirection}
use Rattle.point_rows.specs.Places.{direction}
use Rattle.point_rows.specs.Finding.{On}
use Rattle.point_guess.specs.Steps.{Axis}
use Rattle.point_guess.specs.Rows.{place_at, axis_number, Encoded}
use Rattle.point_guess.proofs.Levels.{Level, Left}
use Rattle.point_single.specs.Points.{Spanned}
use Rattle.point_runs.specs.Runs.{parameter_at}
use Rattle.point_runs.specs.Inner.{points_upto}
use Rattle.point_runs.proofs.write_points.Given as goal

abbrev pub gaps : (along : BodyDirection) (x : List ℤ) (t : ℤ) → ℕ → ℕ → ℕ
gaps along x t = gap_at (direction along x) t

-- the parts and the intervals at t
abbrev pub parts : (along : BodyDirection) (x : List ℤ) (t : ℤ) → ℕ → ℕ → ℕ
parts along x t = offset_at (direction along x) t

-- the first level, from the controls
abbrev pub invariant-loop-i : goal.invariant-loop-i
invariant-loop-i l =
    (l.a ≡ place_at l.row.places l.i) × (length l.rest.places ≡ 21) × Level (parts l.along l.x l.t (l.n - 1)) (gaps l.along l.x l.t (l.n - 1)) l.row.places l.rest.places l.i

-- a level
abbrev pub invariant-loop-i-2 : goal.invariant-loop-i-2
invariant-loop-i-2 l =
    (l.a ≡ place_at l.initial.rest.places l.i) × Left l.initial.rest.places l.rest.places l.i
    × Level (parts l.along l.x l.t (l.last - 1)) (gaps l.along l.x l.t (l.last - 1)) l.initial.rest.places l.rest.places l.i

-- what is left of the rows comes to what the controls come to; a point of degree 0 has no row
abbrev pub invariant-loop-rest : goal.invariant-loop-rest
invariant-loop-rest l =
    Encoded l.rest.places l.rest.count × (0 < l.n → 0 < l.rest.count) × (length l.rest.places ≡ 21)
    × (0 < l.n → (k : Axis) → pyramid (parts l.along l.x l.t) (gaps l.along l.x l.t) (l.rest.count - 1) (axis_number l.rest.places k)
    ≡ pyramid (parts l.along l.x l.t) (gaps l.along l.x l.t) l.n (axis_number l.row.places k))
    × (l.rest.count ≤ l.n)

abbrev pub decreases-loop-rest : goal.decreases-loop-rest
decreases-loop-rest l = l.rest.count

abbrev pub invariant-loop-j : goal.invariant-loop-j
invariant-loop-j l =
    (length l.points ≡ length l.initial.points) × On l.along l.x (parameter_at l.start l.end l.steps (l.j - 1)) l.chosen
    × (l.points ≡ points_upto l.values l.corners l.first l.axis l.axes l.along l.x l.start l.end l.steps l.j ++ drop (l.axes * l.j) l.initial.points)
    × Spanned l.row l.values l.corners l.first 0 l.axis l.along l.chosen × (length l.rest.places ≡ 21)
