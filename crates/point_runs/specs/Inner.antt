-- A run as the functions below the entry point make it, from the parts of the tables that they are lent.
use Rattle.std.specs.Prelude.{cond, List, ℕ, zero, suc, ◌+◌, eqb, ℤ, ◌≤ℤ◌}
use Rattle.tables.specs.Records.{curve2_kind}
use Rattle.rounding.specs.Range.{InRange}
use Rattle.point_exact.specs.Sampled.{curve_sampled}
use Rattle.point_rows.specs.Places.{direction}
use Rattle.point_rows.specs.Finding.{Sound}
use Rattle.point_rows.specs.Controls.{control_at}
use Rattle.point_rows.specs.declared.BodyDirection.{BodyDirection}
use Rattle.point_runs.specs.Runs.{parameter_at, joined, tabulated}

-- number k of a point
abbrev pub coordinate_of : (x y z : ℤ) → ℕ → ℤ
coordinate_of x y z zero = x
coordinate_of x y z (suc zero) = y
coordinate_of x y z (suc (suc k)) = z

-- the coordinates of one point, from number `axis` of each vertex on
unfoldable pub curve_point_at : List ℤ → List ℕ → (first axis axes : ℕ) → BodyDirection → List ℤ → (t : ℤ) → List ℤ
curve_point_at values corners first axis axes along x t = tabulated axes (λ k. curve_sampled (direction along x) t (control_at values corners first (axis + k)))

unfoldable pub points_upto : List ℤ → List ℕ → (first axis axes : ℕ) → BodyDirection → List ℤ → (start end : ℤ) (steps j : ℕ) → List ℤ
points_upto values corners first axis axes along x start end steps j = joined j (λ i. curve_point_at values corners first axis axes along x (parameter_at start end steps i))

-- every parameter from start to end is in the direction
pub record Ranged (a : BodyDirection) (x : List ℤ) (start end : ℤ) : Type 0 where
  pub ordered : start ≤ℤ end
  pub start_small : InRange start
  pub end-small : InRange end
  pub sound : (t : ℤ) → start ≤ℤ t → t ≤ℤ end → Sound a x t

-- a curv2 has u v, every other kind x y z
abbrev pub axes_by : (kind : ℕ) → ℕ
axes_by kind = cond (eqb kind curve2_kind) 2 3

-- the numbers of a run on a curv, or on a curv2 where the kind is 5
unfoldable pub run_by : (kind : ℕ) → List ℤ → List ℤ → List ℕ → (first : ℕ) → BodyDirection → List ℤ → (start end : ℤ) (steps : ℕ) → List ℤ
run_by kind v vp corners first along x start end steps =
    cond (eqb kind curve2_kind)
    (points_upto vp corners first 1 2 along x start end steps (steps + 1))
    (points_upto v corners first 0 3 along x start end steps (steps + 1))
