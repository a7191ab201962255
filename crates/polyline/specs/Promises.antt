-- Must be believed: a promise reaches every definition of this file.
-- What the shop relies on: the parameters of a polyline, why each chord is handed out, and demand 3 at every point.
use Rattle.std.specs.Prelude.{◌≡◌, true, false, ◌⊎◌, List, [], ◌∷◌, Some, Ok, ℕ, suc, ◌+◌, ◌*◌, ◌≤◌, ◌<◌, length, get_or, drop, ℤ, pos, ◌≤ℤ◌, ◌<ℤ◌}
use Rattle.tables.specs.Tables.{Tables}
use Rattle.tables.specs.declared.Used.{Used}
use Rattle.refusals.specs.declared.Reason.TheVariants.{BrokenRecord}
use Rattle.sampler.specs.Points.{axes_of}
use Rattle.sampler.specs.Answers.{element_of, body_of, refusal_of}
use Rattle.sampler.specs.Demand3.{Obeying, IsCurve, OnCurve}
use Rattle.point_chords.specs.Chords.{middle, straight, short_interval, ends}
use Rattle.polyline.specs.Answers.{PolylineAnswer, point_at, parameters_of, polyline_room, polyline_into}

-- each number from a on and the next are so related
abbrev pub Linked : (ℤ → ℤ → Type 0) → ℤ → List ℤ → Type 0
Linked R a [] = Unit {0}
Linked R a (b ∷ x) = R a b × Linked R b x

abbrev pub last_from : ℤ → List ℤ → ℤ
last_from a [] = a
last_from a (b ∷ x) = last_from b x

-- a to b is what n halvings leave of start to end
pub data Piece (start end : ℤ) : ℕ → ℤ → ℤ → Type 0 where
  all : Piece start end 0 start end
  first : {n : ℕ} {a b : ℤ} → Piece start end n a b → Piece start end (suc n) a (middle a b)
  second : {n : ℕ} {a b : ℤ} → Piece start end n a b → Piece start end (suc n) (middle a b) b

-- a chord of the polyline from start to end: "within twice the tolerance .. on each axis, or the depth of 12 is used up, or the interval is at most
-- one millionth"
pub record Chord (point : ℤ → List ℤ) (tolerance start end a b : ℤ) : Type 0 where
  pub rises : a <ℤ b
  pub depth : ℕ
  pub piece : Piece start end depth a b
  pub why : (depth ≡ 12) ⊎ ((short_interval a b ≡ true) ⊎ (straight tolerance (point a) (point (middle a b)) (point b) ≡ true))

-- "Points come in order of parameter, each once", from start to end
pub record Chords (point : ℤ → List ℤ) (tolerance start end : ℤ) (x : List ℤ) : Type 0 where
  pub linked : Linked (Chord point tolerance start end) start x
  pub last : last_from start x ≡ end

abbrev pub EveryChord : Type 0
EveryChord = (point : ℤ → List ℤ) (tolerance start end : ℤ) → start <ℤ end → Chords point tolerance start end (ends point tolerance 12 start end)

-- 15 is the sampler's alone
abbrev pub SamplersFifteen : Type 0
SamplersFifteen =
    (used : Used) (t : Tables) (number : ℕ) (tolerance : ℤ) (at : ℕ) (points : List ℤ)
    → (polyline_into used t number tolerance at points).outcome.number ≡ 15 → refusal_of false used t number ≡ Some BrokenRecord

-- "Demand 3 holds for every point": of r, the answer to the polyline with the parameters x, point j is the sampler's at parameter j, and at most n/2 from the exact
-- value there
pub record PolylineClaim (used : Used) (t : Tables) (number : ℕ) (tolerance : ℤ) (at : ℕ) (x : List ℤ) (r : PolylineAnswer) : Type 0 where
  pub given : r.answer ≡ Ok (length x)
  pub few : length x ≤ 4097
  pub start : get_or x 0 (pos 0) ≡ (body_of t number).start_u
  pub chords : Chords (point_at used t number) tolerance (body_of t number).start_u (body_of t number).end_u (drop 1 x)
  pub ranged : (j : ℕ) → j < length x → ((body_of t number).start_u ≤ℤ get_or x j (pos 0)) × (get_or x j (pos 0) ≤ℤ (body_of t number).end_u)
  pub sampled : (j axis : ℕ) → j < length x → axis < axes_of (element_of t number)
      → get_or r.points (at + (axes_of (element_of t number) * j + axis)) (pos 0) ≡ get_or (point_at used t number (get_or x j (pos 0))) axis (pos 0)
  pub near : (j axis : ℕ) → j < length x → axis < axes_of (element_of t number)
      → OnCurve t number (get_or x j (pos 0)) axis (get_or r.points (at + (axes_of (element_of t number) * j + axis)) (pos 0))

-- of one curve
abbrev pub PolylinesGiven : Used → Tables → (number : ℕ) → Type 0
PolylinesGiven used t number =
    (tolerance : ℤ) (at : ℕ) (points : List ℤ) → pos 0 ≤ℤ tolerance → at + polyline_room used t number tolerance ≤ length points
    → PolylineClaim used t number tolerance at (parameters_of used t number tolerance) (polyline_into used t number tolerance at points)

abbrev pub PolylinesOnCurves : Type 0
PolylinesOnCurves = (used : Used) (t : Tables) (number : ℕ) → Obeying used t number → IsCurve t number → PolylinesGiven used t number
