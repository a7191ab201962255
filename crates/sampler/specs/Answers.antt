-- Must be believed: a promise reaches every definition of this file.
-- 01, "Numbers of refusal": "Sampling, in this order", 17, 15, 18, 19, 16, and the answers.
use Rattle.std.specs.Prelude.{Bool, true, false, cond, ◌&&◌, ◌||◌, List, [], ◌∷◌, ◌++◌, Option, Some, None, Result, Ok, Err, ℕ, ◌+◌, ◌*◌, ◌-◌, leb, eqb, length, take, drop, ℤ}
use Rattle.std.specs.Int.Signed.{le_z}
use Rattle.tables.specs.Tables.{Tables}
use Rattle.tables.specs.Records.{body_at, element_at, element_width, curve_kind, curve2_kind, surface_kind}
use Rattle.tables.specs.declared.Body.{Body}
use Rattle.tables.specs.declared.Used.{Used}
use Rattle.tables.specs.declared.Element.{Element}
use Rattle.record_rules.specs.Rules.{obeys, curves_before}
use Rattle.sampler.specs.Points.{axes_of, curve_at, surface_at, run_numbers}
use Rattle.refusals.specs.Reasons.{reason_number}
use Rattle.refusals.specs.declared.Reason.{Reason}
use Rattle.refusals.specs.declared.Reason.TheVariants.{BrokenRecord, NoOutputRoom, NoSuchElement, NotSampled, ParameterOutside}
use Rattle.sampler.specs.declared.Point.{Point}
use Rattle.sampler.specs.declared.Point.TheVariants as sampled

-- "Any answer that is an enum has a definition that gives this paper's number and values for each of the enum's cases".
-- A point: the number of refusal, 0 where it is handed out, and its coordinates, "surf and curv give x y z, curv2 u v".
pub record PointOutcome : Type 0 where
  pub number : ℕ
  pub coordinates : List ℤ

abbrev pub point_coordinates : Point → List ℤ
point_coordinates (sampled.Space x y z) = x ∷ y ∷ z ∷ []
point_coordinates (sampled.Plane u v) = u ∷ v ∷ []

abbrev pub point_outcome : Result Point Reason → PointOutcome
point_outcome (Ok p) = record { number = 0; coordinates = point_coordinates p }
point_outcome (Err r) = record { number = reason_number r; coordinates = [] }

-- A run: the number of refusal, 0 where it is filled, and how many numbers were written.
pub record RunOutcome : Type 0 where
  pub number : ℕ
  pub count : ℕ

abbrev pub run_outcome : Result ℕ Reason → RunOutcome
run_outcome (Ok n) = record { number = 0; count = n }
run_outcome (Err r) = record { number = reason_number r; count = 0 }

-- the answer to a point, with its number and coordinates
pub record PointAnswer : Type 0 where
  pub answer : Result Point Reason
  pub outcome : PointOutcome

abbrev pub point_answer : Result Point Reason → PointAnswer
point_answer r = record { answer = r; outcome = point_outcome r }

-- the answer to a run, with its number and count, and the final contents of the point table
pub record RunAnswer : Type 0 where
  pub answer : Result ℕ Reason
  pub outcome : RunOutcome
  pub points : List ℤ

abbrev pub run_answer : Result ℕ Reason → List ℤ → RunAnswer
run_answer r points = record { answer = r; outcome = run_outcome r; points = points }

-- "runs are for curves"; a curve's point is one of a curv or a curv2
abbrev pub wanted : (surface : Bool) (kind : ℕ) → Bool
wanted surface kind = cond surface (eqb kind surface_kind) (eqb kind curve_kind || eqb kind curve2_kind)

-- "18 rational, cardinal or taylor"
abbrev pub carried : (rational type : ℕ) → Bool
carried rational type = eqb rational 0 && (eqb type 1 || eqb type 2)

abbrev pub element_of : Tables → ℕ → Element
element_of t number = element_at t (number - 1)

abbrev pub body_of : Tables → ℕ → Body
body_of t number = body_at t ((element_of t number).body - 1)

-- "17 no element of that number (from 1, over all elements) or one of another kind; 15 its records .. break a rule above or pass the used or lent
-- entries; 18 rational, cardinal or taylor"; none where none of them is given. A record past the lent entries has no kind yet.
unfoldable pub refusal_of : (surface : Bool) → Used → Tables → ℕ → Option Reason
refusal_of surface used t number =
    cond (leb 1 number && leb number used.elements)
    (cond (leb (element_width * number) (length t.elements.elements))
    (cond (wanted surface (element_of t number).kind)
    (cond (obeys used t (curves_before t (number - 1)) (number - 1))
    (cond (carried (body_of t number).rational (body_of t number).basis) None (Some NotSampled))
    (Some BrokenRecord))
    (Some NoSuchElement))
    (Some BrokenRecord))
    (Some NoSuchElement)

-- what is answered to a refusal, or else
abbrev pub refused_or : {A : Type 0} → Option Reason → (Reason → A) → A → A
refused_or None refused x = x
refused_or (Some r) refused x = refused r

-- "19 parameter outside start..end"
abbrev pub inside : (start end p : ℤ) → Bool
inside start end p = le_z start p && le_z p end

abbrev pub refused_point : Reason → PointAnswer
refused_point r = point_answer (Err r)

abbrev pub space_point : (x y z : ℤ) → PointAnswer
space_point x y z = point_answer (Ok (sampled.Space x y z))

abbrev pub plane_point : (u v : ℤ) → PointAnswer
plane_point u v = point_answer (Ok (sampled.Plane u v))

-- "surf and curv give x y z, curv2 u v"
unfoldable pub curve_point : Tables → Element → Body → (p : ℤ) → PointAnswer
curve_point t e b p =
    cond (eqb e.kind curve2_kind)
    (plane_point (curve_at t e b p 0) (curve_at t e b p 1))
    (space_point (curve_at t e b p 0) (curve_at t e b p 1) (curve_at t e b p 2))

unfoldable pub point_on_curve : Used → Tables → (number : ℕ) (p : ℤ) → PointAnswer
point_on_curve used t number p =
    refused_or (refusal_of false used t number) refused_point
    (cond (inside (body_of t number).start_u (body_of t number).end_u p)
    (curve_point t (element_of t number) (body_of t number) p)
    (refused_point ParameterOutside))

unfoldable pub surface_point : Tables → Element → Body → (p q : ℤ) → PointAnswer
surface_point t e b p q = space_point (surface_at t e b p q 0) (surface_at t e b p q 1) (surface_at t e b p q 2)

unfoldable pub point_on_surface : Used → Tables → (number : ℕ) (p q : ℤ) → PointAnswer
point_on_surface used t number p q =
    refused_or (refusal_of true used t number) refused_point
    (cond
    (inside (body_of t number).start_u (body_of t number).end_u p
    && inside (body_of t number).start_v (body_of t number).end_v q)
    (surface_point t (element_of t number) (body_of t number) p q)
    (refused_point ParameterOutside))

-- "A refused .. sampling leaves the output as it was; success writes only .. the named part"
abbrev pub refused_run : List ℤ → Reason → RunAnswer
refused_run points r = run_answer (Err r) points

abbrev pub filled_run : (count at : ℕ) → List ℤ → List ℤ → RunAnswer
filled_run count at numbers points = run_answer (Ok count) (take at points ++ (numbers ++ drop count (drop at points)))

-- "or a run of 0 or over 65,536 steps; 16 no room for the run"; it "fills the caller's point table from a chosen place onward, counted in numbers"
unfoldable pub run_into : Used → Tables → (number steps at : ℕ) → List ℤ → RunAnswer
run_into used t number steps at points =
    refused_or (refusal_of false used t number) (refused_run points)
    (cond (leb 1 steps && leb steps 65536)
    (cond (leb (at + axes_of (element_of t number) * (steps + 1)) (length points))
    (filled_run (axes_of (element_of t number) * (steps + 1)) at (run_numbers t (element_of t number) (body_of t number) steps) points)
    (refused_run points NoOutputRoom))
    (refused_run points ParameterOutside))
