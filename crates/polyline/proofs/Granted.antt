-- A curve that is not refused: its range, what is sampled in it, and the answers by the tests that lead to each.
use mathlib.Core.Path.{◌≡◌, refl, sym, ap, ap₂, fun_ext, ◌∙◌}
use mathlib.Core.Bool.{Bool, true, false, cond}
use mathlib.Core.List.{List, [], ◌∷◌, ◌++◌, append_assoc}
use Prim.Native.Nat.{ℕ, zero, suc, ◌+◌, ◌*◌, ◌≤◌, ◌<◌}
use native.Mathlib.Omega.{arith}
use borrow.Author.Tests.{le-leb, lt-leb}
use lib.Dec.{leb, eqb}
use lib.ListN.{length, take, drop, length-append}
use lib.Seq.{sets, sets-eq}
use lib.IntN.{ℤ, pos, negsuc}
use lib.Signed.{◌≤ℤ◌, le_z, lt_z, ≤ℤ_refl}
use Rattle.lists.proofs.Tests.{never}
use Rattle.rounding.proofs.Order.{le_yes, ≤ℤ-trans}
use Rattle.tables.specs.Tables.{Tables}
use Rattle.tables.specs.declared.Body.{Body}
use Rattle.tables.specs.declared.Used.{Used}
use Rattle.tables.specs.declared.Element.{Element}
use Rattle.std.specs.Prelude.{Option, Some, None, Ok}
use Rattle.refusals.specs.Reasons.{reason_number}
use Rattle.refusals.specs.declared.Reason.{Reason}
use Rattle.refusals.specs.declared.Reason.TheVariants as reason
use Rattle.refusals.specs.declared.Reason.TheVariants.{BrokenRecord, NoOutputRoom, ParameterOutside}
use Rattle.sampler.specs.Points.{axes_of, curve_at}
use Rattle.sampler.specs.Answers.{element_of, body_of, refusal_of, refused_or, PointAnswer, point_outcome, refused_point, plane_point, space_point, inside, curve_point, point_on_curve}
use Rattle.sampler.specs.Sampling.{Curved, answer_on_curve}
use Rattle.sampler.proofs.Obeyed.{granted, curved}
use Rattle.sampler.proofs.Refusals.{Looked}
use Rattle.sampler.proofs.Entries.{curve-answered}
use Rattle.point_chords.specs.Chords.{middle, chord, ends, numbers, parameters}
use Rattle.polyline.specs.Answers.{PolylineAnswer, polyline_outcome, point_at, parameters_of, polyline_numbers, polyline_answer, refused_polyline, filled_polyline, polyline_into}
use Rattle.polyline.specs.Inner.{coordinates_of, polyline_over, polyline_by}
use Rattle.polyline.specs.Promises.{SamplersFifteen}
use Rattle.point_chords.proofs.Middle.{middle-from, middle-upto}
use Rattle.polyline.proofs.Halves.{numbers-joined}

by_kind : (t : Tables) (e : Element) (b : Body) (p : ℤ) (q : Bool) → eqb e.kind 5 ≡ q → (length (curve_point t e b p).outcome.coordinates ≡ axes_of e) × ((curve_point t e b p).outcome.number ≡ 0)
unfolding curve_point
by_kind t e b p true h = simp h (refl, refl)
by_kind t e b p false h = simp h (refl, refl)

-- an answer and its outcome are of one case
abbrev Agreed : PointAnswer → Type 0
Agreed r = point_outcome r.answer ≡ r.outcome

either-agreed : (c : Bool) (x y : PointAnswer) → Agreed x → Agreed y → Agreed (cond c x y)
either-agreed true x y f g = f
either-agreed false x y f g = g

curve-agreed : (t : Tables) (e : Element) (b : Body) (p : ℤ) → Agreed (curve_point t e b p)
unfolding curve_point
curve-agreed t e b p =
    either-agreed (eqb e.kind 5) (plane_point (curve_at t e b p 0) (curve_at t e b p 1)) (space_point (curve_at t e b p 0) (curve_at t e b p 1) (curve_at t e b p 2)) refl refl

pub agreed : (t : Tables) (e : Element) (b : Body) (p : ℤ) → Agreed (answer_on_curve t e b p)
unfolding answer_on_curve
agreed t e b p = either-agreed (inside b.start_u b.end_u p) (curve_point t e b p) (refused_point ParameterOutside) (curve-agreed t e b p) refl

module _ (used : Used) (t : Tables) (number : ℕ) (h : refusal_of false used t number ≡ None) where
  curve : Curved t (element_of t number) (body_of t number)
  curve = curved used t number (granted false used t number h)

  pub ordered : (body_of t number).start_u ≤ℤ (body_of t number).end_u
  ordered = curve.along.ranged.ordered

  module _ (p : ℤ) (a : (body_of t number).start_u ≤ℤ p) (b : p ≤ℤ (body_of t number).end_u) where
    point-is : point_on_curve used t number p ≡ curve_point t (element_of t number) (body_of t number) p
    unfolding point_on_curve
    point-is = rw (h, le_yes (body_of t number).start_u p a, le_yes p (body_of t number).end_u b)

    pub point-axes : length (point_at used t number p) ≡ axes_of (element_of t number)
    point-axes = ap (λ (s : PointAnswer). length s.outcome.coordinates) point-is ∙ (by_kind t (element_of t number) (body_of t number) p (eqb (element_of t number).kind 5) refl).0

-- ---- how many numbers the points have, where each has w
module _ (point : ℤ → List ℤ) (tolerance : ℤ) (w : ℕ) where
  joined-long : (x y : List ℤ) → length (numbers point x) ≡ w * length x → length (numbers point y) ≡ w * length y → length (numbers point (x ++ y)) ≡ w * length (x ++ y)
  joined-long x y f g = rw (numbers-joined point x y) (simp length-append (omega (arith, f, g)))

  one-long : (a b : ℤ) → a ≤ℤ b → ((p : ℤ) → a ≤ℤ p → p ≤ℤ b → length (point p) ≡ w) → length (numbers point (b ∷ [])) ≡ w * length (b ∷ [])
  one-long a b o f = simp length-append (omega (arith, f b o (≤ℤ_refl b)))

  either : (c : Bool) (a b : ℤ) (x y : List ℤ) → length (numbers point (b ∷ [])) ≡ w * length (b ∷ []) → length (numbers point x) ≡ w * length x → length (numbers point y) ≡ w * length y
      → length (numbers point (cond c (b ∷ []) (x ++ y))) ≡ w * length (cond c (b ∷ []) (x ++ y))
  either true a b x y o f g = o
  either false a b x y o f g = joined-long x y f g

  pub numbers-long : (depth : ℕ) (a b : ℤ) → a ≤ℤ b → ((p : ℤ) → a ≤ℤ p → p ≤ℤ b → length (point p) ≡ w)
      → length (numbers point (ends point tolerance depth a b)) ≡ w * length (ends point tolerance depth a b)
  unfolding ends
  numbers-long zero a b o f = one-long a b o f
  numbers-long (suc depth) a b o f =
      let m = middle a b in
      either (chord point tolerance a b) a b (ends point tolerance depth a m) (ends point tolerance depth m b) (one-long a b o f)
      (numbers-long depth a m (middle-from o) (λ p k l. f p k (≤ℤ-trans l (middle-upto o))))
      (numbers-long depth m b (middle-upto o) (λ p k l. f p (≤ℤ-trans (middle-from o) k) l))

-- ---- the answers
below : (z : ℤ) → lt_z z (pos 0) ≡ true → le_z (pos 0) z ≡ false
below (pos n) h = never (sym (lt-leb (suc n) 0 (omega arith)) ∙ h)
below (negsuc n) h = refl

above : (z : ℤ) → lt_z z (pos 0) ≡ false → le_z (pos 0) z ≡ true
above (pos n) h = le-leb 0 n (omega arith)
above (negsuc n) h = never (sym h)

module _ (point : ℤ → List ℤ) (axes : ℕ) (start end tolerance : ℤ) (at : ℕ) (points : List ℤ) where
  abbrev over : PolylineAnswer
  over = polyline_over point axes start end tolerance at points

  abbrev x : List ℤ
  x = parameters point tolerance start end

  pub is_negative : lt_z tolerance (pos 0) ≡ true → refused_polyline points ParameterOutside ≡ over
  unfolding polyline_over
  is_negative k = rw (below tolerance k) refl

  module _ (k : lt_z tolerance (pos 0) ≡ false) where
    pub is-full : length points < at + axes * length x → refused_polyline points NoOutputRoom ≡ over
    unfolding polyline_over
    is-full l = rw (above tolerance k, lt-leb (at + axes * length x) (length points) l) refl

    filled : at + axes * length x ≤ length points → filled_polyline (length x) at (numbers point x) points ≡ over
    unfolding polyline_over
    filled l = rw (above tolerance k, le-leb (at + axes * length x) (length points) l) refl

  module _ (o : start ≤ℤ end) (f : (p : ℤ) → start ≤ℤ p → p ≤ℤ end → length (point p) ≡ axes) where
    pub numbers-many : length (numbers point x) ≡ axes * length x
    numbers-many = simp length-append (omega (arith, f start (≤ℤ_refl start) o, numbers-long point tolerance axes 12 start end o f))

    pub is-filled : lt_z tolerance (pos 0) ≡ false → {n : ℕ} {last : List ℤ} → n ≡ length x → at + axes * length x ≤ length points → last ≡ sets points at (numbers point x)
        → polyline_answer (Ok n) last ≡ over
    is-filled k e l w =
        ap₂ (λ (n : ℕ) (x : List ℤ). polyline_answer (Ok n) x) e
        (w ∙ sets-eq (numbers point x) points at (omega (arith, numbers-many)) ∙ append_assoc (take at points) (numbers point x) (drop (at + length (numbers point x)) points))
        ∙ filled k l

-- the same of a curve of the tables
module _ (used : Used) (t : Tables) (number : ℕ) (tolerance : ℤ) (at : ℕ) (points : List ℤ) where
  abbrev into : PolylineAnswer
  into = polyline_into used t number tolerance at points

  abbrev many : ℕ
  many = axes_of (element_of t number) * length (parameters_of used t number tolerance)

  pub is-refused : {r : Reason} → refusal_of false used t number ≡ Some r → refused_polyline points r ≡ into
  unfolding polyline_into
  is-refused m = rw m refl

  module _ (h : refusal_of false used t number ≡ None) where
    into-is : polyline_over (point_at used t number) (axes_of (element_of t number)) (body_of t number).start_u (body_of t number).end_u tolerance at points ≡ into
    unfolding polyline_into polyline_over parameters_of polyline_numbers
    into-is = rw h

    pub into-many : length (polyline_numbers used t number tolerance) ≡ many
    unfolding polyline_numbers parameters_of
    into-many =
        numbers-many (point_at used t number) (axes_of (element_of t number)) (body_of t number).start_u (body_of t number).end_u tolerance at points (ordered used t number h)
        (point-axes used t number h)

    pub into-filled : lt_z tolerance (pos 0) ≡ false → {n : ℕ} {last : List ℤ} → n ≡ length (parameters_of used t number tolerance) → at + many ≤ length points
        → last ≡ sets points at (polyline_numbers used t number tolerance) → polyline_answer (Ok n) last ≡ into
    unfolding parameters_of polyline_numbers
    into-filled k e l w =
        is-filled (point_at used t number) (axes_of (element_of t number)) (body_of t number).start_u (body_of t number).end_u tolerance at points (ordered used t number h)
        (point-axes used t number h) k e l w
        ∙ into-is

    same_points : coordinates_of t (element_of t number) (body_of t number) ≡ point_at used t number
    same_points = fun_ext (λ p. ap (λ (r : PointAnswer). r.outcome.coordinates) (curve-answered used t number p (record { given = h; element-is = refl; body_is = refl })))

  pub answered : {e : Element} {b : Body} → Looked false used t number e b → polyline_by t e b tolerance at points ≡ into
  answered {e} {b} l =
      let el = element_of t number in
      let bo = body_of t number in
      ap₂ (λ (x : Element) (y : Body). polyline_by t x y tolerance at points) l.element-is l.body_is
      ∙ ap (λ (f : ℤ → List ℤ). polyline_over f (axes_of el) bo.start_u bo.end_u tolerance at points) (same_points l.given) ∙ into-is l.given

-- a curve that was looked up gives its coordinates at each parameter of its range
module _ (t : Tables) (e : Element) (b : Body) (p : ℤ) (l : b.start_u ≤ℤ p) (h : p ≤ℤ b.end_u) where
  curve-in : answer_on_curve t e b p ≡ curve_point t e b p
  unfolding answer_on_curve
  curve-in = rw (le_yes b.start_u p l, le_yes p b.end_u h)

  pub curve-axes : length (coordinates_of t e b p) ≡ axes_of e
  curve-axes = ap (λ (r : PointAnswer). length r.outcome.coordinates) curve-in ∙ (by_kind t e b p (eqb e.kind 5) refl).0

-- an answer and its outcome are of one case
abbrev Told : PolylineAnswer → Type 0
Told r = polyline_outcome r.answer ≡ r.outcome

either-told : (c : Bool) (x y : PolylineAnswer) → Told x → Told y → Told (cond c x y)
either-told true x y f g = f
either-told false x y f g = g

unless-told : (o : Option Reason) (points : List ℤ) (x : PolylineAnswer) → Told x → Told (refused_or o (refused_polyline points) x)
unless-told None points x f = f
unless-told (Some r) points x f = refl

pub agreed-polyline : (used : Used) (t : Tables) (number : ℕ) (tolerance : ℤ) (at : ℕ) (points : List ℤ)
    → polyline_outcome (polyline_into used t number tolerance at points).answer ≡ (polyline_into used t number tolerance at points).outcome
unfolding polyline_into
agreed-polyline used t number tolerance at points =
    let n = refusal_of false used t number in
    let x = parameters_of used t number tolerance in
    let full = filled_polyline (length x) at (polyline_numbers used t number tolerance) points in
    let c = leb (at + axes_of (element_of t number) * length x) (length points) in
    unless-told n points (cond (le_z (pos 0) tolerance) (cond c full (refused_polyline points NoOutputRoom)) (refused_polyline points ParameterOutside))
    (either-told (le_z (pos 0) tolerance) (cond c full (refused_polyline points NoOutputRoom)) (refused_polyline points ParameterOutside) (either-told c full (refused_polyline points NoOutputRoom) refl refl) refl)

-- ---- 15 is the sampler's
pub number-15 : (r : Reason) → reason_number r ≡ 15 → r ≡ BrokenRecord
number-15 reason.TextTooLong h = absurd (omega arith)
number-15 reason.ByteNotAllowed h = absurd (omega arith)
number-15 reason.UnknownKeyword h = absurd (omega arith)
number-15 reason.NotTaken h = absurd (omega arith)
number-15 reason.WordCount h = absurd (omega arith)
number-15 reason.Malformed h = absurd (omega arith)
number-15 reason.OutOfRange h = absurd (omega arith)
number-15 reason.NoReferent h = absurd (omega arith)
number-15 reason.CornerPattern h = absurd (omega arith)
number-15 reason.NotHere h = absurd (omega arith)
number-15 reason.Incomplete h = absurd (omega arith)
number-15 reason.ControlCount h = absurd (omega arith)
number-15 reason.ParameterOrder h = absurd (omega arith)
number-15 reason.NoTableRoom h = absurd (omega arith)
number-15 reason.BrokenRecord h = refl
number-15 reason.NoOutputRoom h = absurd (omega arith)
number-15 reason.NoSuchElement h = absurd (omega arith)
number-15 reason.NotSampled h = absurd (omega arith)
number-15 reason.ParameterOutside h = absurd (omega arith)

only : (b c : Bool) (o : Option Reason) (x y z : PolylineAnswer) → x.outcome.number ≡ 0 → y.outcome.number ≡ 16 → z.outcome.number ≡ 19 → (points : List ℤ)
    → (refused_or o (refused_polyline points) (cond b (cond c x y) z)).outcome.number ≡ 15 → o ≡ Some BrokenRecord
only true true None x y z f g h p e = absurd (omega (arith, e, f))
only true false None x y z f g h p e = absurd (omega (arith, e, g))
only false c None x y z f g h p e = absurd (omega (arith, e, h))
only b c (Some r) x y z f g h p e = ap Some (number-15 r e)

pub samplers-fifteen : SamplersFifteen
unfolding polyline_into
samplers-fifteen used t number tolerance at points h =
    only (le_z (pos 0) tolerance) (leb (at + axes_of (element_of t number) * length (parameters_of used t number tolerance)) (length points))
    (refusal_of false used t number) _ _ _ refl refl refl points h
