-- Must be believed: a promise reaches every definition of this file.
-- 02, Q-14: a point at j/64 of a segment, or its refusal. "the sampler's, in its order, with 18 also for another type or degree,
-- 19 for j over 64, no such segment, or j/64 outside start..end."
use Rattle.std.specs.Prelude.{Bool, false, cond, ◌&&◌, List, ℕ, suc, ◌+◌, leb, eqb, length, ℤ, pos, ◌+ℤ◌, ◌-ℤ◌, ◌*ℤ◌}
use Rattle.tables.specs.Tables.{Tables}
use Rattle.tables.specs.Records.{parameters_u, curve2_kind}
use Rattle.tables.specs.declared.Element.{Element}
use Rattle.tables.specs.declared.Used.{Used}
use Rattle.point_exact.specs.Directions.{at}
use Rattle.refusals.specs.declared.Reason.TheVariants.{NotSampled, ParameterOutside}
use Rattle.sampler.specs.Points.{control_of}
use Rattle.sampler.specs.Answers.{PointAnswer, element_of, body_of, refusal_of, refused_or, inside, refused_point, space_point, plane_point}
use Rattle.point_weights.specs.Weights.{cubic_sampled}

-- 18: the body is a bezier, type 1, of degree 3
abbrev pub cubic : (type degree : ℕ) → Bool
cubic type degree = eqb type 1 && eqb degree 3

-- 64 times the parameter at j/64 of segment g, which runs from parameter g to parameter g+1: a whole number, s + j(e-s)/64 as a fraction
abbrev pub parameter64 : List ℤ → (g j : ℕ) → ℤ
parameter64 x g j = pos 64 *ℤ at x g +ℤ pos j *ℤ (at x (suc g) -ℤ at x g)

-- 19: j is 0 to 64, p parameters have the segments 0 to p-2, and j/64 of segment g lies in start..end, multiplied out
unfoldable pub reached : List ℤ → (start end : ℤ) (g j : ℕ) → Bool
reached x start end g j = leb j 64 && leb (g + 2) (length x) && inside (pos 64 *ℤ start) (pos 64 *ℤ end) (parameter64 x g j)

-- "surf and curv give x y z, curv2 u v"
unfoldable pub cubic_point : Tables → Element → (g j : ℕ) → PointAnswer
cubic_point t e g j =
    cond (eqb e.kind curve2_kind)
    (plane_point (cubic_sampled g j (control_of t e 0)) (cubic_sampled g j (control_of t e 1)))
    (space_point (cubic_sampled g j (control_of t e 0)) (cubic_sampled g j (control_of t e 1)) (cubic_sampled g j (control_of t e 2)))

unfoldable pub cubic_at : Used → Tables → (number g j : ℕ) → PointAnswer
cubic_at used t number g j =
    refused_or (refusal_of false used t number) refused_point
    (cond (cubic (body_of t number).basis (body_of t number).degree_u)
    (cond (reached (parameters_u t (body_of t number)) (body_of t number).start_u (body_of t number).end_u g j)
    (cubic_point t (element_of t number) g j)
    (refused_point ParameterOutside))
    (refused_point NotSampled))
