-- Must be believed: a promise reaches every definition of this file.
-- What each answer is as the record of numbers that another language gets: made of its outcome, the number of refusal and the values that 01 gives to its case; the number is 0 where nothing is refused.
use Rattle.std.specs.Prelude.{ℕ, cond, eqb, length, get_or, pos}
use Rattle.reader.specs.Reading.{ReadOutcome}
use Rattle.tidy_form.specs.declared.Weights.{Weights}
use Rattle.tidy_form.specs.declared.Weights.TheVariants.{WhenNeeded, Always}
use Rattle.tidier.specs.Tidying.{TidyOutcome}
use Rattle.sampler.specs.Answers.{PointOutcome, RunOutcome}
use Rattle.polyline.specs.Answers.{PolylineOutcome}
use Rattle.sweep.specs.Swept.{SweepOutcome}
use Rattle.c_records.specs.declared.ReadRecord.{ReadRecord}
use Rattle.c_records.specs.declared.TidyRecord.{TidyRecord}
use Rattle.c_records.specs.declared.Point.{Point}
use Rattle.c_records.specs.declared.Run.{Run}
use Rattle.c_records.specs.declared.PolylinePoints.{PolylinePoints}
use Rattle.c_records.specs.declared.SweepCounts.{SweepCounts}

abbrev pub read_in : ReadOutcome → ReadRecord
read_in o = record { refusal = o.number; place = o.place; used = o.used }

abbrev pub tidy_in : TidyOutcome → TidyRecord
tidy_in o = record { refusal = o.number; place = o.place; length = o.length; needed = o.needed; used = o.used }

-- the choice of weights that another language names by a number: 1 is always; 0 is when needed, and so is every other number
abbrev pub weights_in : ℕ → Weights
weights_in n = cond (eqb n 1) Always WhenNeeded

-- "surf and curv give x y z, curv2 u v": so many axes, and zeros for what is not given
abbrev pub point_in : PointOutcome → Point
point_in o =
    record {
      refusal = o.number;
      axes = length o.coordinates;
      x = get_or o.coordinates 0 (pos 0);
      y = get_or o.coordinates 1 (pos 0);
      z = get_or o.coordinates 2 (pos 0);
    }

abbrev pub run_in : RunOutcome → Run
run_in o = record { refusal = o.number; numbers = o.count }

abbrev pub polyline_in : PolylineOutcome → PolylinePoints
polyline_in o = record { refusal = o.number; points = o.points }

abbrev pub sweep_in : SweepOutcome → SweepCounts
sweep_in o = record { refusal = o.number; used = o.used; dropped = o.dropped }
