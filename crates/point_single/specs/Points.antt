-- The controls as a row has them, and the points that are made of them.
use Rattle.std.specs.Prelude.{◌≡◌, List, ℕ, ◌+◌, ◌*◌, ◌≤◌, ◌<◌, length, ℤ}
use Rattle.point_exact.specs.Directions.{Direction}
use Rattle.point_exact.specs.Sampled.{curve_sampled, surface_sampled}
use Rattle.point_rows.specs.Controls.{control_at, first_control_of, Reached}
use Rattle.point_rows.specs.Coordinates.{HasCoordinates}
use Rattle.point_rows.specs.declared.Coordinates.{Coordinates}
use Rattle.point_rows.specs.declared.BodyDirection.{BodyDirection}
use Rattle.point_guess.specs.Steps.{Axis, X, Y, Z}
use Rattle.point_guess.specs.Rows.{place_at, PlaceHolds}
use Rattle.point_guess.specs.declared.Place.{Place}
use Rattle.point_guess.specs.declared.Row.{Row}

-- which number of a vertex an axis has, where the first has number `axis`
abbrev pub entry_of : ℕ → Axis → ℕ
entry_of axis X = axis
entry_of axis Y = axis + 1
entry_of axis Z = axis + 2

-- a row of n + 1 places, the first i of which have the numbers f k 0 .. f k (i - 1) on each axis k
pub record Gathered (row : Row) (n i : ℕ) (f : Axis → ℕ → ℤ) : Type 0 where
  pub count : row.count ≡ n + 1
  pub long : length row.places ≡ 21
  pub each : (j : ℕ) → j < i → PlaceHolds (place_at row.places j) (λ k. f k j)

-- the controls that a point in segment or span g is made from are there, and no more of them than the row has places
pub record There (a : BodyDirection) (g : ℕ) : Type 0 where
  pub reached : Reached a g
  pub last : first_control_of a g + a.degree < a.controls
  pub few : a.degree ≤ 20

-- a row has the controls of segment or span g, of those from control `base` on
abbrev pub Spanned : Row → List ℤ → List ℕ → (first base axis : ℕ) → BodyDirection → (g : ℕ) → Type 0
Spanned row values corners first base axis a g = Gathered row a.degree (a.degree + 1) (λ k j. control_at values corners first (entry_of axis k) (base + first_control_of a g + j))

abbrev pub curve_number : List ℤ → List ℕ → (first : ℕ) → Direction → (t : ℤ) (axis : ℕ) → ℤ
curve_number values corners first d t axis = curve_sampled d t (control_at values corners first axis)

abbrev pub CurvePoint : List ℤ → List ℕ → (first axis : ℕ) → Direction → (t : ℤ) → Coordinates → Type 0
CurvePoint values corners first axis d t p =
    HasCoordinates p (curve_number values corners first d t axis) (curve_number values corners first d t (axis + 1)) (curve_number values corners first d t (axis + 2))

abbrev pub surface_number : List ℤ → List ℕ → (first : ℕ) (u v : Direction) (s t : ℤ) (axis : ℕ) → ℤ
surface_number values corners first u v s t axis = surface_sampled u v s t (λ i j. control_at values corners first axis (j * u.controls + i))

abbrev pub SurfacePoint : List ℤ → List ℕ → (first : ℕ) (u v : Direction) (s t : ℤ) → Coordinates → Type 0
SurfacePoint values corners first u v s t p =
    HasCoordinates p (surface_number values corners first u v s t 0) (surface_number values corners first u v s t 1) (surface_number values corners first u v s t 2)

-- the place at t of the curve whose controls are those from control `base` on
abbrev pub CurvePlace : List ℤ → List ℕ → (first base axis : ℕ) → Direction → (t : ℤ) → Place → Type 0
CurvePlace values corners first base axis d t p = PlaceHolds p (λ k. curve_sampled d t (λ i. control_at values corners first (entry_of axis k) (base + i)))
