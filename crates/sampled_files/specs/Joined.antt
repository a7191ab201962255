-- Must be believed: a promise reaches every definition of this file.
-- What joins the reader to the sampler: demands 1 to 3 from a text on.
use Rattle.std.specs.Prelude.{ℕ, suc, ◌+◌, ◌*◌, ◌≤◌, ◌<◌, ◌≡◌, false, ◌⊎◌, List, ◌∷◌, ◌++◌, length, get_or, ℤ, pos}
use Rattle.references.specs.Corner.{Corner}
use Rattle.rounding.specs.Fractions.{Close}
use Rattle.tables.specs.Tables.{Tables}
use Rattle.tables.specs.Bodies.{bezier, bspline}
use Rattle.tables.specs.declared.Used.{Used}
use Rattle.point_exact.specs.Exact.{curve_exact, surface_exact}
use Rattle.model.specs.Model.{Body, free, Element, Model}
use Rattle.point_runs.specs.Runs.{parameter_at}
use Rattle.sampler.specs.Answers.{PointAnswer, RunAnswer}
use Rattle.sampler.specs.Demand3.{Sampler}
use Rattle.sampled_files.specs.Files.{along_u, along_v, control_in, axes_in, grid_in}

-- ---- demand 3, from the text on

-- element `number` of a file, which counts from 1, has the body b
pub record HasBody (m : Model) (number : ℕ) (b : Body) : Type 0 where
  pub before : List Element
  pub one : Element
  pub after : List Element
  pub elements : m.elements ≡ before ++ one ∷ after
  pub place : number ≡ suc (length before)
  pub body : one.kind ≡ free b

-- "any non-rational Bezier or B-spline"
pub record Carried (b : Body) : Type 0 where
  pub plain : b.rational ≡ false
  pub type : (b.basis ≡ bezier) ⊎ (b.basis ≡ bspline)

-- "Take as parameter any whole number of millionths inside its stated range": a point of each such curve of an accepted text is handed out, and lies at
-- most n/2 millionths from the exact value that the file's own numbers give
pub record PointOnCurve (m : Model) (b : Body) (cs : List Corner) (p : ℤ) (r : PointAnswer) : Type 0 where
  pub given : r.outcome.number ≡ 0
  pub axes : length r.outcome.coordinates ≡ axes_in b.free
  pub near : (axis : ℕ) → axis < axes_in b.free
      → Close (get_or r.outcome.coordinates axis (pos 0)) (curve_exact (along_u b) p (control_in m.vertices b.free cs axis)) b.degree-u

-- "In a run of 1 to 65,536 steps the demand holds at every j = 0..N, each point held against the exact value at its own parameter."
pub record PointsOfRun (m : Model) (b : Body) (cs : List Corner) (steps at : ℕ) (r : RunAnswer) : Type 0 where
  pub given : r.outcome.number ≡ 0
  pub count : r.outcome.count ≡ axes_in b.free * (steps + 1)
  pub near : (j axis : ℕ) → j ≤ steps → axis < axes_in b.free
      → Close (get_or r.points (at + (axes_in b.free * j + axis)) (pos 0))
      (curve_exact (along_u b) (parameter_at b.start-u b.end-u steps j) (control_in m.vertices b.free cs axis)) b.degree-u

-- "on a surface any two": at most (m+n)/2 from the exact value
pub record PointOnSurface (m : Model) (b : Body) (cs : List Corner) (p q : ℤ) (r : PointAnswer) : Type 0 where
  pub given : r.outcome.number ≡ 0
  pub axes : length r.outcome.coordinates ≡ 3
  pub near : (axis : ℕ) → axis < 3
      → Close (get_or r.outcome.coordinates axis (pos 0)) (surface_exact (along_u b) (along_v b) p q (grid_in m.vertices b cs axis))
      (b.degree-u + b.degree-v)

-- ---- a text and its tidy text are sampled alike

-- two sets of tables give the same answer to every request
pub record SampledAlike (samples : Sampler) (u : Used) (t : Tables) (v : Used) (w : Tables) : Type 0 where
  pub curves : (number : ℕ) (p : ℤ) → samples.curve u t number p ≡ samples.curve v w number p
  pub surfaces : (number : ℕ) (p q : ℤ) → samples.surface u t number p q ≡ samples.surface v w number p q
  pub runs : (number steps at : ℕ) (points : List ℤ) → samples.run u t number steps at points ≡ samples.run v w number steps at points
