-- What the functions below the entry point hold and answer.
use Rattle.std.specs.Prelude.{◌≡◌, cond, List, Option, Some, None, Result, ℕ, zero, suc, ◌+◌, ◌*◌, leb, length, get_or, ℤ, pos}
use Rattle.std.specs.Int.Signed.{le_z}
use Rattle.tables.specs.Tables.{Tables}
use Rattle.tables.specs.declared.Element.{Element}
use Rattle.tables.specs.declared.Body.{Body}
use Rattle.sampler.specs.Points.{axes_of}
use Rattle.sampler.specs.Answers.{PointAnswer, point_outcome}
use Rattle.sampler.specs.Sampling.{answer_on_curve}
use Rattle.refusals.specs.declared.Reason.{Reason}
use Rattle.refusals.specs.declared.Reason.TheVariants.{NoOutputRoom, ParameterOutside}
use Rattle.sampler.specs.declared.Point.{Point}
use Rattle.point_chords.specs.Chords.{middle, chord, parameters, numbers}
use Rattle.polyline.specs.Answers.{PolylineAnswer, refused_polyline, filled_polyline}
use Rattle.point_rows.specs.declared.Coordinates.{Coordinates}
use Rattle.polyline.specs.declared.Halved.{Halved}

-- 0 for each coordinate that a point lacks
abbrev pub space_of : List ℤ → Coordinates
space_of p = record { x = get_or p 0 (pos 0); y = get_or p 1 (pos 0); z = get_or p 2 (pos 0) }

-- what is sampled at the two ends of an interval
pub record PieceEnds (point : ℤ → List ℤ) (a b : ℤ) (p q : Result Point Reason) : Type 0 where
  pub start_is : (point_outcome p).coordinates ≡ point a
  pub end_is : (point_outcome q).coordinates ≡ point b

-- none of an interval handed out, else its middle with what is sampled there
unfoldable pub split_of : (sample : ℤ → PointAnswer) (tolerance : ℤ) (depth : ℕ) (a b : ℤ) → Option Halved
split_of sample tolerance zero a b = None
split_of sample tolerance (suc depth) a b =
    cond (chord (λ p. (sample p).outcome.coordinates) tolerance a b) None (Some (record { middle = middle a b; point = (sample (middle a b)).answer }))

-- the coordinates at a parameter of an element that was looked up
abbrev pub coordinates_of : Tables → Element → Body → (p : ℤ) → List ℤ
coordinates_of t e b p = (answer_on_curve t e b p).outcome.coordinates

-- 19, 16 or the points, of a curve that gives `axes` coordinates at each parameter from start to end
unfoldable pub polyline_over : (point : ℤ → List ℤ) (axes : ℕ) (start end tolerance : ℤ) (at : ℕ) → List ℤ → PolylineAnswer
polyline_over point axes start end tolerance at points =
    let x = parameters point tolerance start end in
    cond (le_z (pos 0) tolerance)
    (cond (leb (at + axes * length x) (length points)) (filled_polyline (length x) at (numbers point x) points) (refused_polyline points NoOutputRoom))
    (refused_polyline points ParameterOutside)

-- the same of an element that was looked up
abbrev pub polyline_by : Tables → Element → Body → (tolerance : ℤ) (at : ℕ) → List ℤ → PolylineAnswer
polyline_by t e b tolerance at points = polyline_over (coordinates_of t e b) (axes_of e) b.start_u b.end_u tolerance at points
