-- Must be believed: a promise reaches every definition of this file.
-- 01, "How a point is made": one direction of a curve or a surface, and the segment or span chosen in it for a parameter t.
use Rattle.std.specs.Prelude.{Bool, cond, ◌&&◌, List, ℕ, zero, suc, ◌-◌, leb, length, get_or, ℤ, pos}
use Rattle.std.specs.Int.Signed.{le_z, lt_z}

pub data PointBasis : Type 0 where
  bezier bspline : PointBasis

-- what a Bezier direction has, or what a B-spline direction has
abbrev pub by {ℓ} : {A : Type ℓ} → PointBasis → A → A → A
by bezier a b = a
by bspline a b = b

-- a curve has one direction, a surface two: u and v
pub record Direction : Type 0 where
  pub basis : PointBasis
  pub degree : ℕ
  pub controls : ℕ
  pub parameters : List ℤ

-- parameter i: "Segments, parameters and controls count from 0."
abbrev pub at : List ℤ → ℕ → ℤ
at x i = get_or x i (pos 0)

-- the last of 0 .. m - 1 that passes the test, and 0 where none does
unfoldable pub last_where : (ℕ → Bool) → ℕ → ℕ
last_where f zero = 0
last_where f (suc i) = cond (f i) i (last_where f i)

-- "the last segment whose start is ≤ t"; p parameters have p - 1 segments: "segment g runs from parameter g to parameter g+1"
unfoldable pub segment : (x : ℕ → ℤ) (p : ℕ) (t : ℤ) → ℕ
segment x p t = last_where (λ g. le_z (x g) t) (p - 1)

-- span i runs from x_i to x_(i+1): it stands at x_n or later, is not empty, and starts at t or before
abbrev pub starts : (x : ℕ → ℤ) (n : ℕ) (t : ℤ) → ℕ → Bool
starts x n t i = leb n i && lt_z (x i) (x (suc i)) && le_z (x i) t

-- "the last non-empty span from x_n to x_k whose start is ≤ t"
unfoldable pub span : (x : ℕ → ℤ) (n k : ℕ) (t : ℤ) → ℕ
span x n k t = last_where (starts x n t) k

-- the segment or span chosen for t
unfoldable pub chosen : Direction → (t : ℤ) → ℕ
chosen d t =
    by d.basis
    (segment (at d.parameters) (length d.parameters) t)
    (span (at d.parameters) d.degree d.controls t)
