-- A row is gathered place by place, and worked down to the point of its controls.
use mathlib.Core.Path.{◌≡◌, refl, sym, ap, ◌∙◌}
use mathlib.Core.List.{List}
use Prim.Native.Nat.{ℕ, ◌+◌, ◌≤◌, ◌<◌}
use native.Mathlib.Nat.{not-suc-le-zero}
use native.Mathlib.Omega.{arith}
use lib.ListN.{length, set, length-set}
use lib.IntN.{ℤ}
use lib.Ieee.{Float}
use mir.Syntax.{w32}
use mir.Val.{to_z, of_z}
use Rattle.rounding.specs.Range.{InRange}
use Rattle.rounding.proofs.Bits.{read-back-small}
use Rattle.doubles.specs.Doubles.{encode, decode}
use Rattle.doubles.proofs.Whole.{decode-encode}
use Rattle.point_exact.specs.Directions.{Direction}
use Rattle.point_exact.specs.Sampled.{pyramid, offset_at, gap_at, first_control, curve_sampled}
use Rattle.point_exact.proofs.Pyramid.{pyramid-cong}
use Rattle.point_rows.specs.Places.{direction}
use Rattle.point_rows.specs.Finding.{On}
use Rattle.point_rows.specs.Controls.{control_at, first_control_of}
use Rattle.point_rows.specs.Coordinates.{HasCoordinates}
use Rattle.point_rows.specs.declared.Coordinates.{Coordinates}
use Rattle.point_rows.specs.declared.BodyDirection.{BodyDirection}
use Rattle.point_rows.proofs.Grids.{first-is, reached, last-there, sampled-is, from_first}
use Rattle.point_guess.specs.Steps.{Axis, X, Y, Z, on}
use Rattle.point_guess.specs.Rows.{axis_number, Encoded, PlaceHolds, Descended}
use Rattle.point_guess.specs.declared.Place.{Place}
use Rattle.point_guess.specs.declared.Row.{Row}
use Rattle.point_guess.proofs.Levels.{made_more}
use Rattle.point_single.specs.Points.{entry_of, Gathered, There, Spanned, CurvePlace, CurvePoint}

-- ---- a row of controls
pub gathered_none : {row : Row} {n : ℕ} {f : Axis → ℕ → ℤ} → row.count ≡ n + 1 → length row.places ≡ 21 → Gathered row n 0 f
gathered_none e l = record { count = e; long = l; each = λ j h. absurd (not-suc-le-zero h) }

pub gathered-more : {row : Row} {n i : ℕ} {f : Axis → ℕ → ℤ} (p : Place) → Gathered row n i f → i < 21 → PlaceHolds p (λ k. f k i)
    → Gathered (record { places = set row.places i p; count = row.count }) n (i + 1) f
gathered-more {row} {n} {i} {f} p g h new = record {
  count = g.count;
  long = length-set row.places i p ∙ g.long;
  each = (made_more {P = λ j q. PlaceHolds q (λ k. f k j)} {row = row.places} p (record { each = g.each }) (omega (arith, g.long)) new).each;
}

module _ {row : Row} {n : ℕ} {f : Axis → ℕ → ℤ} (g : Gathered row n (n + 1) f) where
  pub gathered-encoded : n ≤ 20 → Encoded row.places row.count
  gathered-encoded h = record { most = omega (arith, g.count, g.long); each = λ j l. (g.each j (omega (arith, g.count))).whole }

  -- what a row comes to, from what it was gathered of
  pub gathered-down : (d : Direction) (t : ℤ) {p : Place} → d.degree ≡ n → Descended d t row.places p
      → PlaceHolds p (λ k. pyramid (offset_at d t) (gap_at d t) d.degree (f k))
  gathered-down d t e h = record {
    whole = h.whole;
    is = λ k. h.is k ∙ pyramid-cong (offset_at d t) (gap_at d t) (offset_at d t) (gap_at d t) d.degree (axis_number row.places k) (f k) (λ q j u v. refl) (λ q j u v. refl)
        (λ j l. (g.each j (omega (arith, e))).is k);
  }

pub holds_as : {p : Place} {f h : Axis → ℤ} → PlaceHolds p f → ((k : Axis) → f k ≡ h k) → PlaceHolds p h
holds_as g e = record { whole = g.whole; is = λ k. g.is k ∙ e k }

-- ---- a point
pub has-as : {q : Coordinates} {p : Place} {f : Axis → ℤ} → HasCoordinates q (decode p.x) (decode p.y) (decode p.z) → PlaceHolds p f → HasCoordinates q (f X) (f Y) (f Z)
has-as h g = record {
  x-is = h.x-is ∙ g.is X;
  y-is = h.y-is ∙ g.is Y;
  z-is = h.z-is ∙ g.is Z;
  x-small = h.x-small;
  y-small = h.y-small;
  z-small = h.z-small;
}

-- ---- a place, axis by axis
-- a number of a control, kept
pub encode-control : {z w : ℤ} {a : Float} → (z ≡ w) × InRange z → a ≡ encode (to_z w32 (of_z w32 z)) → (a ≡ encode w) × InRange w
encode-control {z} e k = (rw (read-back-small z e.1, e.0) at k, rw e.0 at e.1)

pub holds_of : {p : Place} {f : Axis → ℤ} → (p.x ≡ encode (f X)) × InRange (f X) → (p.y ≡ encode (f Y)) × InRange (f Y) → (p.z ≡ encode (f Z)) × InRange (f Z) → PlaceHolds p f
holds_of {p} {f} x y z = record {
  whole = λ k. record { number = f k; small = (each k).1; same = (each k).0 };
  is = λ k. ap decode (each k).0 ∙ decode-encode (f k) (each k).1;
}
  where
    each : (k : Axis) → (on k p ≡ encode (f k)) × InRange (f k)
    each X = x
    each Y = y
    each Z = z

-- ---- what is gathered, from control `base` on
pub sampled-from : (d : Direction) (t : ℤ) (c : ℕ → ℤ) (base from : ℕ) → from ≡ first_control d t
    → pyramid (offset_at d t) (gap_at d t) d.degree (λ j. c (base + from + j)) ≡ curve_sampled d t (λ i. c (base + i))
sampled-from d t c base from e =
    pyramid-cong (offset_at d t) (gap_at d t) (offset_at d t) (gap_at d t) d.degree (λ j. c (base + from + j)) (λ j. c (base + (first_control d t + j))) (λ q j u v. refl) (λ q j u v. refl)
    (λ j l. let same : base + from + j ≡ base + (first_control d t + j) = omega (arith, e) in ap c same)
    ∙ sym (sampled-is d t (λ i. c (base + i)))

-- ---- the segment or span of a point
module _ {a : BodyDirection} {x : List ℤ} {t : ℤ} {g : ℕ} (o : On a x t g) where
  pub there : There a g
  there = record { reached = reached o; last = omega (arith, first-is o refl, last-there o); few = o.sound.few }

  module _ (values : List ℤ) (corners : List ℕ) (first axis : ℕ) where
    pub span-place : (base : ℕ) {row : Row} {p : Place} → Spanned row values corners first base axis a g → Descended (direction a x) t row.places p
        → CurvePlace values corners first base axis (direction a x) t p
    span-place base r h =
        holds_as (gathered-down r (direction a x) t refl h) (λ k. sampled-from (direction a x) t (control_at values corners first (entry_of axis k)) base (first_control_of a g) (first-is o refl))

    pub curve-has : {p : Place} {q : Coordinates} → CurvePlace values corners first 0 axis (direction a x) t p → HasCoordinates q (decode p.x) (decode p.y) (decode p.z)
        → CurvePoint values corners first axis (direction a x) t q
    curve-has h e = has-as e (holds_as h (λ k. from_first (direction a x) t values corners first (entry_of axis k)))
