-- The points as the functions below the entry points make them, from the parts of the tables that they are lent.
use Rattle.std.specs.Prelude.{cond, List, ℕ, ◌+◌, ◌*◌, eqb, ℤ}
use Rattle.tables.specs.Records.{curve2_kind}
use Rattle.point_exact.specs.Sampled.{curve_sampled, surface_sampled}
use Rattle.point_rows.specs.Places.{direction}
use Rattle.point_rows.specs.Controls.{control_at}
use Rattle.point_rows.specs.declared.BodyDirection.{BodyDirection}
use Rattle.sampler.specs.declared.Point.{Point}
use Rattle.sampler.specs.declared.Point.TheVariants as sampled

abbrev pub coordinate_by : List ℤ → List ℕ → (first : ℕ) → BodyDirection → List ℤ → (t : ℤ) (axis : ℕ) → ℤ
coordinate_by values corners first along x t axis = curve_sampled (direction along x) t (control_at values corners first axis)

unfoldable pub point_by : (kind : ℕ) → List ℤ → List ℤ → List ℕ → (first : ℕ) → BodyDirection → List ℤ → (t : ℤ) → Point
point_by kind v vp corners first along x t =
    cond (eqb kind curve2_kind)
    (sampled.Plane (coordinate_by vp corners first along x t 1) (coordinate_by vp corners first along x t 2))
    (sampled.Space (coordinate_by v corners first along x t 0) (coordinate_by v corners first along x t 1) (coordinate_by v corners first along x t 2))

abbrev pub across_by : List ℤ → List ℕ → (first : ℕ) (u v : BodyDirection) (x y : List ℤ) (s t : ℤ) (axis : ℕ) → ℤ
across_by values corners first u v x y s t axis =
    surface_sampled (direction u x) (direction v y) s t (λ i j. control_at values corners first axis (j * u.controls + i))

unfoldable pub surface_by : List ℤ → List ℕ → (first : ℕ) (u v : BodyDirection) (x y : List ℤ) (s t : ℤ) → Point
surface_by values corners first u v x y s t =
    sampled.Space (across_by values corners first u v x y s t 0) (across_by values corners first u v x y s t 1) (across_by values corners first u v x y s t 2)
