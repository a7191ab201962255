-- Must be believed: a promise reaches every definition of this file.
-- Q-3 from a text on: "Demand 3 holds for every point."
use Rattle.std.specs.Prelude.{ℕ, ◌+◌, ◌*◌, ◌<◌, ◌≡◌, List, length, get_or, ℤ, pos}
use Rattle.references.specs.Corner.{Corner}
use Rattle.rounding.specs.Fractions.{Close}
use Rattle.point_exact.specs.Exact.{curve_exact}
use Rattle.model.specs.Model.{Body, Model}
use Rattle.polyline.specs.Answers.{PolylineAnswer}
use Rattle.sampled_files.specs.Files.{along_u, control_in, axes_in}

-- r, the answer to a polyline with the parameters x: point j lies at most n/2 millionths from the exact value that the file's own numbers give at its parameter
pub record PointsOfPolyline (m : Model) (b : Body) (cs : List Corner) (x : List ℤ) (at : ℕ) (r : PolylineAnswer) : Type 0 where
  pub given : r.outcome.number ≡ 0
  pub count : r.outcome.points ≡ length x
  pub near : (j axis : ℕ) → j < length x → axis < axes_in b.free
      → Close (get_or r.points (at + (axes_in b.free * j + axis)) (pos 0)) (curve_exact (along_u b) (get_or x j (pos 0)) (control_in m.vertices b.free cs axis)) b.degree-u
