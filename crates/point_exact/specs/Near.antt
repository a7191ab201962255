-- Demand 3 and Q-8 on the definitions: how far the point that is handed out "differs from the exact value", and what it keeps of the outline of its controls.
use Rattle.std.specs.Prelude.{◌≡◌, ℕ, ◌+◌, ◌*◌, ℤ}
use Rattle.rounding.specs.Fractions.{Close}
use Rattle.point_exact.specs.Directions.{Direction}
use Rattle.point_exact.specs.Rules.{Rules}
use Rattle.point_exact.specs.Exact.{curve_exact, surface_exact}
use Rattle.point_exact.specs.Sampled.{curve_sampled, surface_sampled}
use Rattle.point_exact.specs.Outline.{Within, WithinGrid, starting_row, starting_grid, AtParameter}

-- "n/2 millionths on a curve of degree n", whatever the controls' numbers c on an axis
abbrev pub CurveNear : Type 0
CurveNear = (d : Direction) (t : ℤ) → Rules d t → (c : ℕ → ℤ) → Close (curve_sampled d t c) (curve_exact d t c) d.degree

-- "(m+n)/2 on a surface of degrees m and n", whatever the control's number c i j at i along u and j along v
abbrev pub SurfaceNear : Type 0
SurfaceNear =
    (u v : Direction) (s t : ℤ) → Rules u s → Rules v t → (c : ℕ → ℕ → ℤ)
    → Close (surface_sampled u v s t c) (surface_exact u v s t c) (u.degree + v.degree)

-- "each coordinate lies between the least and the greatest value on that axis among the controls that its de Casteljau or de Boor starts from"
abbrev pub CurveWithin : Type 0
CurveWithin = (d : Direction) (t : ℤ) → Rules d t → (c : ℕ → ℤ) → Within d.degree (starting_row d t c) (curve_sampled d t c)

abbrev pub SurfaceWithin : Type 0
SurfaceWithin =
    (u v : Direction) (s t : ℤ) → Rules u s → Rules v t → (c : ℕ → ℕ → ℤ)
    → WithinGrid u.degree v.degree (starting_grid u v s t c) (surface_sampled u v s t c)

-- ".. gives that control point exactly": "segment g .. has controls gn to gn+n"
abbrev pub CurveEnds : Type 0
CurveEnds = (d : Direction) (t : ℤ) → Rules d t → (g : ℕ) → AtParameter d t g → (c : ℕ → ℤ) → curve_sampled d t c ≡ c (g * d.degree)

-- "on a surface, both parameters"
abbrev pub SurfaceEnds : Type 0
SurfaceEnds =
    (u v : Direction) (s t : ℤ) → Rules u s → Rules v t → (g h : ℕ) → AtParameter u s g → AtParameter v t h → (c : ℕ → ℕ → ℤ)
    → surface_sampled u v s t c ≡ c (g * u.degree) (h * v.degree)
