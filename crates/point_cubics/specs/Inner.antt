-- What the functions below the entry point promise: a point from the parts that are lent.
use Rattle.std.specs.Prelude.{cond, List, ℕ, eqb, ℤ}
use Rattle.tables.specs.Tables.{Tables}
use Rattle.tables.specs.Records.{parameters_u, curve2_kind}
use Rattle.tables.specs.declared.Element.{Element}
use Rattle.tables.specs.declared.Body.{Body}
use Rattle.refusals.specs.declared.Reason.TheVariants.{NotSampled, ParameterOutside}
use Rattle.sampler.specs.Answers.{PointAnswer, refused_point}
use Rattle.sampler.specs.declared.Point.{Point}
use Rattle.sampler.specs.declared.Point.TheVariants as sampled
use Rattle.point_weights.specs.Inner.{axis_by}
use Rattle.point_cubics.specs.Answers.{cubic, reached, cubic_point}

unfoldable pub step_point_by : (kind : ℕ) → List ℤ → List ℤ → List ℕ → (first g j : ℕ) → Point
step_point_by kind v vp corners first g j =
    cond (eqb kind curve2_kind)
    (sampled.Plane (axis_by vp corners first g j 1) (axis_by vp corners first g j 2))
    (sampled.Space (axis_by v corners first g j 0) (axis_by v corners first g j 1) (axis_by v corners first g j 2))

-- the answer for an element that was looked up: "18 also for another type or degree", 19, or the point
unfoldable pub step_answer : Tables → Element → Body → (g j : ℕ) → PointAnswer
step_answer t e b g j =
    cond (cubic b.basis b.degree_u)
    (cond (reached (parameters_u t b) b.start_u b.end_u g j) (cubic_point t e g j) (refused_point ParameterOutside))
    (refused_point NotSampled)
