-- Must be believed: a promise reaches every definition of this file.
-- Q-3 in the tables that reading fills: "Demand 3 holds for every point", and no polyline is refused with 15.
use Rattle.end_to_end.specs.EntryPoints.{as_read}
use Rattle.std.specs.Prelude.{ℕ, ◌+◌, ◌*◌, ◌≤◌, ◌≡◌, ◌⊎◌, List, length, ℤ, pos, ◌≤ℤ◌}
use Rattle.tables.specs.Tables.{Tables}
use Rattle.tables.specs.declared.Used.{Used}
use Rattle.model.specs.Model.{curve, curve2, Body, Model}
use Rattle.model.specs.Read.{read, read_of}
use Rattle.reader.specs.Reading.{rooms_of, read_into}
use Rattle.sampler.specs.Demand3.{Plain, IsCurve}
use Rattle.polyline.specs.Answers.{parameters_of, polyline_into}
use Rattle.polyline.specs.Promises.{PolylinesGiven}
use Rattle.sampled_files.specs.Files.{axes_in}
use Rattle.sampled_files.specs.Joined.{HasBody, Carried}
use Rattle.sampled_files.specs.Polylines.{PointsOfPolyline}

-- the polylines of the tables t, u of them used; no answer is 15, whatever the request
pub record PolylinesIn (u : Used) (t : Tables) : Type 0 where
  pub given : (number : ℕ) → Plain u t number → IsCurve t number → PolylinesGiven u t number
  pub never-15 : (number : ℕ) (tolerance : ℤ) (at : ℕ) (points : List ℤ) → (polyline_into u t number tolerance at points).outcome.number ≡ 15 → ⊥

abbrev pub FilledPolylines : Type 0
FilledPolylines = (s : List ℕ) (S : Tables) (u : Used) → (read_into s S).answer ≡ as_read u → PolylinesIn u (read_into s S).tables

-- the same held against the numbers of the file m itself: element `number` of the file has the body b
abbrev pub OwnPolylines : Type 0
OwnPolylines =
    (s : List ℕ) (S : Tables) (u : Used) (m : Model) → (read_into s S).answer ≡ as_read u → read_of (rooms_of S) s ≡ read m
    → (number : ℕ) (b : Body) (o : HasBody m number b) → Carried b → (b.free ≡ curve) ⊎ (b.free ≡ curve2)
    → (tolerance : ℤ) (at : ℕ) (points : List ℤ) → pos 0 ≤ℤ tolerance
    → at + axes_in b.free * length (parameters_of u (read_into s S).tables number tolerance) ≤ length points
    → PointsOfPolyline m b o.one.corners (parameters_of u (read_into s S).tables number tolerance) at
    (polyline_into u (read_into s S).tables number tolerance at points)
