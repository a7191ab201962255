-- Must be believed: a promise reaches every definition of this file.
-- Demand 3: of any tables that obey the rules, and of the tables that reading fills, which obey them.
use Rattle.tidier.specs.Tidying.{as_written}
use Rattle.end_to_end.specs.EntryPoints.{as_read, Reader, Tidier, Sampler}
use Rattle.std.specs.Prelude.{ℕ, ◌+◌, ◌*◌, ◌≤◌, ◌≡◌, ◌⊎◌, List, length, take, ℤ, ◌≤ℤ◌}
use Rattle.tables.specs.Tables.{Tables}
use Rattle.tables.specs.declared.Used.{Used}
use Rattle.model.specs.Model.{curve, curve2, surface, Body, Model}
use Rattle.model.specs.Read.{read, read_of}
use Rattle.reader.specs.Reading.{rooms_of}
use Rattle.tidy_form.specs.declared.Weights.{Weights}
use Rattle.sampler.specs.Demand3.{Plain, ElementSampled, ElementsSampled}
use Rattle.sampled_files.specs.Files.{axes_in}
use Rattle.sampled_files.specs.Joined.{HasBody, Carried, PointOnCurve, PointsOfRun, PointOnSurface, SampledAlike}

-- the points of the tables t, u of them used, "its control points and parameters as the tables hold them"; no answer is 15, whatever the request
pub record PointsIn (samples : Sampler) (u : Used) (t : Tables) : Type 0 where
  pub given : (number : ℕ) → Plain u t number → ElementSampled samples u t number
  pub curves-15 : (number : ℕ) (p : ℤ) → (samples.curve u t number p).outcome.number ≡ 15 → ⊥
  pub runs-15 : (number steps at : ℕ) (points : List ℤ) → (samples.run u t number steps at points).outcome.number ≡ 15 → ⊥
  pub surfaces-15 : (number : ℕ) (p q : ℤ) → (samples.surface u t number p q).outcome.number ≡ 15 → ⊥

-- the same held against the numbers of the file m itself, with no table between: element `number` of the file has the body b
pub record PointsOf (samples : Sampler) (u : Used) (t : Tables) (m : Model) : Type 0 where
  pub curves : (number : ℕ) (b : Body) (o : HasBody m number b) → Carried b → (b.free ≡ curve) ⊎ (b.free ≡ curve2)
      → (p : ℤ) → b.start-u ≤ℤ p → p ≤ℤ b.end-u → PointOnCurve m b o.one.corners p (samples.curve u t number p)
  pub runs : (number : ℕ) (b : Body) (o : HasBody m number b) → Carried b → (b.free ≡ curve) ⊎ (b.free ≡ curve2)
      → (steps at : ℕ) (points : List ℤ) → 1 ≤ steps → steps ≤ 65536 → at + axes_in b.free * (steps + 1) ≤ length points
      → PointsOfRun m b o.one.corners steps at (samples.run u t number steps at points)
  pub surfaces : (number : ℕ) (b : Body) (o : HasBody m number b) → Carried b → b.free ≡ surface
      → (p q : ℤ) → b.start-u ≤ℤ p → p ≤ℤ b.end-u → b.start-v ≤ℤ q → q ≤ℤ b.end-v → PointOnSurface m b o.one.corners p q (samples.surface u t number p q)

-- "in tables that obey the rules", whoever filled them, and in the tables that reading fills; a file and its tidy text are sampled alike
pub record Demand3 (reads : Reader) (tidies : Tidier) (samples : Sampler) : Type 0 where
  pub obeying : ElementsSampled samples
  pub filled : (s : List ℕ) (S : Tables) (u : Used) → (reads s S).answer ≡ as_read u → PointsIn samples u (reads s S).tables
  pub own : (s : List ℕ) (S : Tables) (u : Used) (m : Model) → (reads s S).answer ≡ as_read u → read_of (rooms_of S) s ≡ read m → PointsOf samples u (reads s S).tables m
  pub alike : (c : Weights) (s : List ℕ) (S : Tables) (a : List ℕ) (n : ℕ) (u : Used) → (tidies c s S a).answer ≡ as_written n u
      → (T : Tables) → rooms_of T ≡ rooms_of S → SampledAlike samples u (tidies c s S a).tables u (reads (take n (tidies c s S a).out) T).tables
