-- Demand 3 on polylines: each point is the sampler's, at a parameter of the range.
use mathlib.Core.Path.{◌≡◌, refl, sym, ap, ◌∙◌, subst}
use mathlib.Core.Bool.{Bool, true, false, cond, ◌&&◌}
use mathlib.Core.Logic.{⊎_elim}
use mathlib.Core.List.{List, [], ◌∷◌, ◌++◌, append_assoc}
use Prim.Native.Nat.{ℕ, zero, suc, ◌+◌, ◌*◌, ◌-◌, ◌≤◌, ◌<◌}
use native.Mathlib.Nat.{not-suc-le-zero, le_of_suc-le-suc, mul-le-mul_left}
use native.Mathlib.Omega.{arith}
use lib.ListN.{length, get_or, take, drop, get_or-append}
use lib.Seq.{sets, sets-eq, length-take-le, get_or-append-add}
use lib.IntN.{ℤ, pos}
use lib.Signed.{◌≤ℤ◌, ◌<ℤ◌, le_z, lt_z, ≤ℤ_refl, clash_ℤ}
use Rattle.lists.proofs.Tests.{and_left, and_right, test}
use Rattle.rounding.proofs.Order.{yes_lt, ≤ℤ-trans}
use Rattle.tables.specs.Tables.{Tables}
use Rattle.tables.specs.Records.{parameters_u}
use Rattle.tables.specs.Bodies.{basis_of, ordered, continuous, ranged, low, high, in_order}
use Rattle.tables.specs.declared.Used.{Used}
use Rattle.record_rules.specs.Rules.{curves_before}
use Rattle.record_rules.proofs.Element.{curve-of, obeys-facts, body-of}
use Rattle.sampler.specs.Points.{axes_of}
use Rattle.std.specs.Prelude.{None, Ok}
use Rattle.sampler.specs.Answers.{element_of, body_of, refusal_of}
use Rattle.sampler.specs.Demand3.{OnCurve}
use Rattle.sampler.proofs.Obeyed.{granted, curve-kinds}
use Rattle.sampler.proofs.Demanded.{Curve, curve-given, points-on-curves}
use Rattle.point_chords.specs.Chords.{middle, chord, ends, numbers}
use Rattle.polyline.specs.Answers.{PolylineAnswer, polyline_answer, point_at, parameters_of, polyline_numbers, polyline_into}
use Rattle.polyline.specs.Promises.{Chords, PolylinesOnCurves}
use Rattle.point_chords.proofs.Middle.{middle-from, middle-upto}
use Rattle.polyline.proofs.Halves.{ends-few}
use Rattle.polyline.proofs.Every.{every-chord}
use Rattle.polyline.proofs.Granted as grants

-- ---- every parameter is in the range
abbrev Each : (ℤ → Type 0) → List ℤ → Type 0
Each P [] = Unit {0}
Each P (p ∷ x) = P p × Each P x

each-joined : (P : ℤ → Type 0) (x y : List ℤ) → Each P x → Each P y → Each P (x ++ y)
each-joined P [] y f g = g
each-joined P (p ∷ x) y f g = (f.0, each-joined P x y f.1 g)

each-either : (P : ℤ → Type 0) (c : Bool) (b : ℤ) (x y : List ℤ) → P b → Each P x → Each P y → Each P (cond c (b ∷ []) (x ++ y))
each-either P true b x y o f g = (o, tt)
each-either P false b x y o f g = each-joined P x y f g

each-ends : (P : ℤ → Type 0) (point : ℤ → List ℤ) (tolerance : ℤ) (depth : ℕ) (a b : ℤ) → a ≤ℤ b → ((p : ℤ) → a ≤ℤ p → p ≤ℤ b → P p) → Each P (ends point tolerance depth a b)
unfolding ends
each-ends P point tolerance zero a b o f = (f b o (≤ℤ_refl b), tt)
each-ends P point tolerance (suc depth) a b o f =
    let m = middle a b in
    each-either P (chord point tolerance a b) b (ends point tolerance depth a m) (ends point tolerance depth m b) (f b o (≤ℤ_refl b))
    (each-ends P point tolerance depth a m (middle-from o) (λ p k l. f p k (≤ℤ-trans l (middle-upto o))))
    (each-ends P point tolerance depth m b (middle-upto o) (λ p k l. f p (≤ℤ-trans (middle-from o) k) l))

each_at : (P : ℤ → Type 0) (x : List ℤ) (j : ℕ) → Each P x → j < length x → P (get_or x j (pos 0))
each_at P [] j f h = absurd (not-suc-le-zero h)
each_at P (p ∷ x) zero f h = f.0
each_at P (p ∷ x) (suc j) f h = each_at P x j f.1 (le_of_suc-le-suc h)

-- ---- number k of point j
numbers-at : (point : ℤ → List ℤ) (w : ℕ) (x : List ℤ) (j k : ℕ) → Each (λ p. length (point p) ≡ w) x → j < length x → k < w
    → get_or (numbers point x) (w * j + k) (pos 0) ≡ get_or (point (get_or x j (pos 0))) k (pos 0)
numbers-at point w [] j k f h l = absurd (not-suc-le-zero h)
numbers-at point w (p ∷ x) zero k f h l =
    let e : w * 0 + k ≡ k = omega arith in
    let i : k < length (point p) = omega (arith, f.0) in
    ap (λ (n : ℕ). get_or (point p ++ numbers point x) n (pos 0)) e ∙ get_or-append (point p) (numbers point x) (pos 0) k i
numbers-at point w (p ∷ x) (suc j) k f h l =
    let e : w * suc j + k ≡ length (point p) + (w * j + k) = omega (arith, f.0) in
    ap (λ (n : ℕ). get_or (point p ++ numbers point x) n (pos 0)) e ∙ get_or-append-add (point p) (numbers point x) (w * j + k) (pos 0)
    ∙ numbers-at point w x j k f.1 (le_of_suc-le-suc h) l

-- ---- a curve of demand 3 is not refused, and its range is one
not-below : (z : ℤ) → pos 0 ≤ℤ z → lt_z z (pos 0) ≡ false
not-below z h = ⊎_elim (λ e. clash_ℤ (yes_lt z (pos 0) e) h) (λ e. e) (test (lt_z z (pos 0)))

module _ {used : Used} {t : Tables} {number : ℕ} (c : Curve used t number) where
  passed : refusal_of false used t number ≡ None
  passed = curve-given c

  rises : (body_of t number).start_u <ℤ (body_of t number).end_u
  unfolding in_order
  rises =
      let e = element_of t number in
      let b = body_of t number in
      let n = curves_before t (number - 1) in
      let g = granted false used t number passed in
      let k = curve-kinds e.kind g.kind in
      let h = body-of (obeys-facts used t n (number - 1) g.obeyed) k.0 in
      let q = (curve-of used t n e.kind e.corners.count e.body h k.1).ordered in
      let x = parameters_u t b in
      let type = basis_of b.basis in
      let d = b.degree_u in
      let s = b.start_u in
      let f = b.end_u in
      yes_lt s f (and_right (le_z (low type d x) s) (lt_z s f) (and_left (le_z (low type d x) s && lt_z s f) (le_z f (high type d x)) (and_right (ordered type x && continuous type d x) (ranged type d x s f) q)))

  module _ (tolerance : ℤ) where
    abbrev point : ℤ → List ℤ
    point = point_at used t number

    abbrev axes : ℕ
    axes = axes_of (element_of t number)

    -- each parameter, and its point
    each_of : (P : ℤ → Type 0) → ((p : ℤ) → (body_of t number).start_u ≤ℤ p → p ≤ℤ (body_of t number).end_u → P p) → Each P (parameters_of used t number tolerance)
    unfolding parameters_of
    each_of P f =
        let s = (body_of t number).start_u in
        let o = grants.ordered used t number passed in
        (f s (≤ℤ_refl s) o, each-ends P point tolerance 12 s (body_of t number).end_u o f)

    in-range : (j : ℕ) → j < length (parameters_of used t number tolerance)
        → ((body_of t number).start_u ≤ℤ get_or (parameters_of used t number tolerance) j (pos 0)) × (get_or (parameters_of used t number tolerance) j (pos 0) ≤ℤ (body_of t number).end_u)
    in-range j h =
        each_at (λ p. ((body_of t number).start_u ≤ℤ p) × (p ≤ℤ (body_of t number).end_u)) (parameters_of used t number tolerance) j
        (each_of (λ p. ((body_of t number).start_u ≤ℤ p) × (p ≤ℤ (body_of t number).end_u)) (λ p a b. (a, b))) h

    number_is : (j axis : ℕ) → j < length (parameters_of used t number tolerance) → axis < axes
        → get_or (polyline_numbers used t number tolerance) (axes * j + axis) (pos 0) ≡ get_or (point (get_or (parameters_of used t number tolerance) j (pos 0))) axis (pos 0)
    unfolding polyline_numbers
    number_is j axis h k = numbers-at point axes (parameters_of used t number tolerance) j axis (each_of (λ p. length (point p) ≡ axes) (grants.point-axes used t number passed)) h k

    close : (j axis : ℕ) → j < length (parameters_of used t number tolerance) → axis < axes
        → OnCurve t number (get_or (parameters_of used t number tolerance) j (pos 0)) axis (get_or (point (get_or (parameters_of used t number tolerance) j (pos 0))) axis (pos 0))
    close j axis h k =
        each_at (λ p. OnCurve t number p axis (get_or (point p) axis (pos 0))) (parameters_of used t number tolerance) j
        (each_of (λ p. OnCurve t number p axis (get_or (point p) axis (pos 0))) (λ p a b. (points-on-curves used t number p c a b).near axis k)) h

    module _ (at : ℕ) (points : List ℤ) (n : pos 0 ≤ℤ tolerance) (room : at + axes * length (parameters_of used t number tolerance) ≤ length points) where
      abbrev x : List ℤ
      x = polyline_numbers used t number tolerance

      filled : polyline_answer (Ok (length (parameters_of used t number tolerance))) (sets points at x) ≡ polyline_into used t number tolerance at points
      filled = grants.into-filled used t number tolerance at points passed (not-below tolerance n) refl room refl

      many : length x ≡ axes * length (parameters_of used t number tolerance)
      many = grants.into-many used t number tolerance at points passed

      there : (i : ℕ) → i < length x → get_or (polyline_into used t number tolerance at points).points (at + i) (pos 0) ≡ get_or x i (pos 0)
      there i l =
          let rest = drop (at + length x) points in
          let front : length (take at points) ≡ at = length-take-le at points (omega (arith, room)) in
          ap (λ (q : List ℤ). get_or q (at + i) (pos 0)) (sym (ap (λ (r : PolylineAnswer). r.points) filled) ∙ sets-eq x points at (omega (arith, many, room)) ∙ append_assoc (take at points) x rest)
          ∙ ap (λ (q : ℕ). get_or (take at points ++ (x ++ rest)) (q + i) (pos 0)) (sym front)
          ∙ get_or-append-add (take at points) (x ++ rest) i (pos 0)
          ∙ get_or-append x rest (pos 0) i l

      within : (j axis : ℕ) → j < length (parameters_of used t number tolerance) → axis < axes → axes * j + axis < length x
      within j axis h k = omega (arith, many, mul-le-mul_left axes h)

module _ (used : Used) (t : Tables) (number : ℕ) (tolerance : ℤ) where
  few-points : length (parameters_of used t number tolerance) ≤ 4097
  unfolding parameters_of
  few-points =
      let d : 12 ≤ 12 = omega arith in
      omega (arith, ends-few (point_at used t number) tolerance (body_of t number).start_u (body_of t number).end_u d)

  first-parameter : get_or (parameters_of used t number tolerance) 0 (pos 0) ≡ (body_of t number).start_u
  unfolding parameters_of
  first-parameter = refl

  all-chords : (body_of t number).start_u <ℤ (body_of t number).end_u
      → Chords (point_at used t number) tolerance (body_of t number).start_u (body_of t number).end_u (drop 1 (parameters_of used t number tolerance))
  unfolding parameters_of
  all-chords l = every-chord (point_at used t number) tolerance (body_of t number).start_u (body_of t number).end_u l

module _ {used : Used} {t : Tables} {number : ℕ} (c : Curve used t number) (tolerance : ℤ) (at : ℕ) (points : List ℤ) (n : pos 0 ≤ℤ tolerance)
    (room : at + axes_of (element_of t number) * length (parameters_of used t number tolerance) ≤ length points) where
  point_at-place : (j axis : ℕ) → j < length (parameters_of used t number tolerance) → axis < axes_of (element_of t number)
      → get_or (polyline_into used t number tolerance at points).points (at + (axes_of (element_of t number) * j + axis)) (pos 0)
      ≡ get_or (point_at used t number (get_or (parameters_of used t number tolerance) j (pos 0))) axis (pos 0)
  point_at-place j axis h k = there c tolerance at points n room (axes_of (element_of t number) * j + axis) (within c tolerance at points n room j axis h k) ∙ number_is c tolerance j axis h k

pub polylines-on-curves : PolylinesOnCurves
polylines-on-curves used t number o k tolerance at points n room = let c : Curve used t number = (o, k) in record {
  given = sym (ap (λ (r : PolylineAnswer). r.answer) (filled c tolerance at points n room));
  few = few-points used t number tolerance;
  start = first-parameter used t number tolerance;
  chords = all-chords used t number tolerance (rises c);
  ranged = in-range c tolerance;
  sampled = point_at-place c tolerance at points n room;
  near = λ j axis h k. subst (OnCurve t number (get_or (parameters_of used t number tolerance) j (pos 0)) axis) (sym (point_at-place c tolerance at points n room j axis h k)) (close c tolerance j axis h k);
}
