-- The controls of an element, from a table of vertices (or of parameter vertices) and its corners.
use Rattle.std.specs.Prelude.{true, false, cond, List, ◌≡◌, ℕ, ◌+◌, ◌*◌, ◌-◌, ◌≤◌, ◌<◌, eqb, length, ℤ}
use Rattle.rounding.specs.Range.{InRange}
use Rattle.tables.specs.Records.{value_at, v_width, corner_start, corner_in}
use Rattle.point_rows.specs.declared.BodyDirection.{BodyDirection}

-- the vertex that corner i names, of the corners from the number `first` on
abbrev pub vertex_of : List ℕ → (first i : ℕ) → ℕ
vertex_of corners first i = (corner_in corners (corner_start first i)).v

-- number `entry` of that vertex; v and vp both have four to a record
unfoldable pub control_at : List ℤ → List ℕ → (first entry i : ℕ) → ℤ
control_at values corners first entry i = value_at v_width values (vertex_of corners first i - 1) entry

-- corners from to end, end not included, are lent, and each names a vertex that is lent, its numbers small
pub record ControlsLent (values : List ℤ) (corners : List ℕ) (first from end : ℕ) : Type 0 where
  pub within : corner_start first end ≤ length corners
  pub named : (i : ℕ) → from ≤ i → i < end → 1 ≤ vertex_of corners first i
  pub there : (i : ℕ) → from ≤ i → i < end → v_width * (vertex_of corners first i - 1) + v_width ≤ length values
  pub small : (i k : ℕ) → from ≤ i → i < end → k < v_width → InRange (control_at values corners first k i)

-- the first of the controls that a point in segment or span g is made from
abbrev pub first_control_of : BodyDirection → (g : ℕ) → ℕ
first_control_of a g = cond (eqb a.basis 2) (g - a.degree) (g * a.degree)

-- the first control of the chosen segment or span is there
pub record Reached (a : BodyDirection) (g : ℕ) : Type 0 where
  pub spline : eqb a.basis 2 ≡ true → a.degree ≤ g
  pub bezier : eqb a.basis 2 ≡ false → g * a.degree < a.controls
