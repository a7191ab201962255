-- What is proved of accepted texts on the definitions: the reader joined to the sampler and to polylines.
use Rattle.std.specs.Prelude.{ℕ, ◌+◌, ◌*◌, ◌≤◌, ◌<◌, ◌≡◌, Bool, true, ◌⊎◌, List, Some, length, ℤ, pos, ◌≤ℤ◌}
use Rattle.model.specs.Model.{curve, curve2, surface, Body, Model}
use Rattle.model.specs.Room.{Rooms}
use Rattle.model.specs.Read.{read, read_of}
use Rattle.model.specs.Layout.{tables_of, used_of}
use Rattle.tidy_form.specs.declared.Weights.{Weights}
use Rattle.tidy_form.specs.Printed.{tidy_text}
use Rattle.record_rules.specs.Rules.{obeys, curves_before}
use Rattle.refusals.specs.declared.Reason.TheVariants.{BrokenRecord}
use Rattle.sampler.specs.Answers.{refusal_of, point_on_curve, point_on_surface, run_into}
use Rattle.sampler.specs.Demand3.{sampling}
use Rattle.polyline.specs.Answers.{parameters_of, polyline_into}
use Rattle.sampled_files.specs.Files.{axes_in}
use Rattle.sampled_files.specs.Joined.{HasBody, Carried, PointOnCurve, PointsOfRun, PointOnSurface, SampledAlike}
use Rattle.sampled_files.specs.Polylines.{PointsOfPolyline}

-- every element of the tables of an accepted text obeys the rules that 15 names
abbrev pub EveryElementObeys : Type 0
EveryElementObeys =
    (R : Rooms) (s : List ℕ) (m : Model) → read_of R s ≡ read m
    → (i : ℕ) → i < length m.elements → obeys (used_of m) (tables_of R m) (curves_before (tables_of R m) i) i ≡ true

-- what reading accepts, sampling never refuses with 15: whatever the number, asked for a curve or for a surface
abbrev pub SamplingNever15 : Type 0
SamplingNever15 =
    (R : Rooms) (s : List ℕ) (m : Model) → read_of R s ≡ read m
    → (asked : Bool) (number : ℕ) → refusal_of asked (used_of m) (tables_of R m) number ≡ Some BrokenRecord → ⊥

-- ---- demand 3, from the text on: points on curves, runs, points on surfaces, polylines
abbrev pub AcceptedCurves : Type 0
AcceptedCurves =
    (R : Rooms) (s : List ℕ) (m : Model) → read_of R s ≡ read m
    → (number : ℕ) (b : Body) (o : HasBody m number b) → Carried b → (b.free ≡ curve) ⊎ (b.free ≡ curve2)
    → (p : ℤ) → b.start-u ≤ℤ p → p ≤ℤ b.end-u → PointOnCurve m b o.one.corners p (point_on_curve (used_of m) (tables_of R m) number p)

abbrev pub AcceptedRuns : Type 0
AcceptedRuns =
    (R : Rooms) (s : List ℕ) (m : Model) → read_of R s ≡ read m
    → (number : ℕ) (b : Body) (o : HasBody m number b) → Carried b → (b.free ≡ curve) ⊎ (b.free ≡ curve2)
    → (steps at : ℕ) (points : List ℤ) → 1 ≤ steps → steps ≤ 65536 → at + axes_in b.free * (steps + 1) ≤ length points
    → PointsOfRun m b o.one.corners steps at (run_into (used_of m) (tables_of R m) number steps at points)

abbrev pub AcceptedSurfaces : Type 0
AcceptedSurfaces =
    (R : Rooms) (s : List ℕ) (m : Model) → read_of R s ≡ read m
    → (number : ℕ) (b : Body) (o : HasBody m number b) → Carried b → b.free ≡ surface
    → (p q : ℤ) → b.start-u ≤ℤ p → p ≤ℤ b.end-u → b.start-v ≤ℤ q → q ≤ℤ b.end-v → PointOnSurface m b o.one.corners p q (point_on_surface (used_of m) (tables_of R m) number p q)

abbrev pub AcceptedPolylines : Type 0
AcceptedPolylines =
    (R : Rooms) (s : List ℕ) (m : Model) → read_of R s ≡ read m
    → (number : ℕ) (b : Body) (o : HasBody m number b) → Carried b → (b.free ≡ curve) ⊎ (b.free ≡ curve2)
    → (tolerance : ℤ) (at : ℕ) (points : List ℤ) → pos 0 ≤ℤ tolerance → at + axes_in b.free * length (parameters_of (used_of m) (tables_of R m) number tolerance) ≤ length points
    → PointsOfPolyline m b o.one.corners (parameters_of (used_of m) (tables_of R m) number tolerance) at (polyline_into (used_of m) (tables_of R m) number tolerance at points)

-- the tidy text of an accepted text by each choice of weights, where it is no longer than a text may be, is read, and sampled alike
abbrev pub TidiedSamplesAlike : Type 0
TidiedSamplesAlike =
    (c : Weights) (R : Rooms) (s : List ℕ) (m : Model) → read_of R s ≡ read m → length (tidy_text c m) ≤ 16777216
    → (k : Model) × (read_of R (tidy_text c m) ≡ read k) × SampledAlike sampling (used_of m) (tables_of R m) (used_of k) (tables_of R k)
