-- Must be believed: a promise reaches every definition of this file.
-- Q-3: the polyline of a curve of the tables, its refusals and the point table after it.
use Rattle.std.specs.Prelude.{false, cond, List, ◌++◌, Result, Ok, Err, ℕ, ◌+◌, ◌*◌, leb, length, take, drop, ℤ, pos}
use Rattle.std.specs.Int.Signed.{le_z}
use Rattle.tables.specs.Tables.{Tables}
use Rattle.tables.specs.declared.Used.{Used}
use Rattle.sampler.specs.Points.{axes_of}
use Rattle.sampler.specs.Answers.{element_of, body_of, refusal_of, refused_or, point_on_curve}
use Rattle.point_chords.specs.Chords.{parameters, numbers}
use Rattle.refusals.specs.Reasons.{reason_number}
use Rattle.refusals.specs.declared.Reason.{Reason}
use Rattle.refusals.specs.declared.Reason.TheVariants.{NoOutputRoom, ParameterOutside}

-- 01: "Any answer that is an enum has a definition that gives this paper's number and values for each of the enum's cases": the number of refusal, 0
-- where the table is filled, and how many points were written.
pub record PolylineOutcome : Type 0 where
  pub number : ℕ
  pub points : ℕ

abbrev pub polyline_outcome : Result ℕ Reason → PolylineOutcome
polyline_outcome (Ok n) = record { number = 0; points = n }
polyline_outcome (Err r) = record { number = reason_number r; points = 0 }

-- the answer, with its number and count, and the final contents of the point table
pub record PolylineAnswer : Type 0 where
  pub answer : Result ℕ Reason
  pub outcome : PolylineOutcome
  pub points : List ℤ

abbrev pub polyline_answer : Result ℕ Reason → List ℤ → PolylineAnswer
polyline_answer r points = record { answer = r; outcome = polyline_outcome r; points = points }

-- the coordinates that the sampler gives at a parameter
abbrev pub point_at : Used → Tables → (number : ℕ) (p : ℤ) → List ℤ
point_at used t number p = (point_on_curve used t number p).outcome.coordinates

unfoldable pub parameters_of : Used → Tables → (number : ℕ) (tolerance : ℤ) → List ℤ
parameters_of used t number tolerance = parameters (point_at used t number) tolerance (body_of t number).start_u (body_of t number).end_u

unfoldable pub polyline_numbers : Used → Tables → (number : ℕ) (tolerance : ℤ) → List ℤ
polyline_numbers used t number tolerance = numbers (point_at used t number) (parameters_of used t number tolerance)

-- how many numbers the points have
abbrev pub polyline_room : Used → Tables → (number : ℕ) (tolerance : ℤ) → ℕ
polyline_room used t number tolerance = axes_of (element_of t number) * length (parameters_of used t number tolerance)

-- "None changes the point table."
abbrev pub refused_polyline : List ℤ → Reason → PolylineAnswer
refused_polyline points r = polyline_answer (Err r) points

-- "they fill the point table from a chosen place as a run's do, and their count is answered"
abbrev pub filled_polyline : (count at : ℕ) (numbers : List ℤ) → List ℤ → PolylineAnswer
filled_polyline count at numbers points = polyline_answer (Ok count) (take at points ++ (numbers ++ drop (at + length numbers) points))

-- "Refusals: the sampler's; 19 also for a negative tolerance; 16 exactly when they lack room."
unfoldable pub polyline_into : Used → Tables → (number : ℕ) (tolerance : ℤ) (at : ℕ) → List ℤ → PolylineAnswer
polyline_into used t number tolerance at points =
    refused_or (refusal_of false used t number) (refused_polyline points)
    (cond (le_z (pos 0) tolerance)
    (cond (leb (at + polyline_room used t number tolerance) (length points))
    (filled_polyline (length (parameters_of used t number tolerance)) at (polyline_numbers used t number tolerance) points)
    (refused_polyline points NoOutputRoom))
    (refused_polyline points ParameterOutside))
