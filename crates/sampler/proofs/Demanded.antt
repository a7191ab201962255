-- Demand 3 on curves: the refusals are passed one by one, and what is handed out is the rounded rule at rules that hold.
use mathlib.Core.Path.{◌≡◌, refl, sym, ap, ◌∙◌, subst}
use mathlib.Core.Bool.{Bool, true, false}
use mathlib.Core.Logic.{◌⊎◌, inl, inr}
use mathlib.Core.List.{List, [], ◌∷◌, ◌++◌}
use Prim.Native.Nat.{ℕ, zero, suc, ◌+◌, ◌*◌, ◌-◌, ◌≤◌, ◌<◌}
use native.Mathlib.Nat.{not-suc-le-zero, eq-or-lt_of_le, le_of_suc-le-suc, mul-le-mul_left}
use native.Mathlib.Omega.{arith}
use lib.Dec.{eqb}
use lib.ListN.{length, get_or, take, drop, get_or-append}
use lib.Seq.{length-take-le, get_or-append-add}
use lib.IntN.{ℤ, pos}
use lib.Signed.{◌≤ℤ◌}
use Rattle.rounding.proofs.Order.{le_yes}
use Rattle.tables.specs.Tables.{Tables}
use Rattle.tables.specs.declared.Body.{Body}
use Rattle.tables.specs.declared.Used.{Used}
use Rattle.tables.specs.declared.Element.{Element}
use Rattle.record_rules.specs.Rules.{curves_before}
use Rattle.record_rules.proofs.Element.{obeys-facts}
use Rattle.point_exact.specs.Rules.{Rules}
use Rattle.point_exact.proofs.CurveNear.{curve-near}
use Rattle.point_runs.specs.Runs.{joined, tabulated, parameter_at}
use Rattle.sampler.specs.Points.{direction_u, control_of, axes_of, curve_at, run_numbers}
use Rattle.std.specs.Prelude.{None}
use Rattle.sampler.specs.Answers.{PointAnswer, RunAnswer, wanted, carried, element_of, body_of, refusal_of, filled_run, curve_point, point_on_curve, run_into}
use Rattle.sampler.specs.Demand3.{Obeying, IsCurve, PointClaim, OnCurve, RunClaim}
use Rattle.sampler.specs.Sampling.{Curved}
use Rattle.sampler.proofs.Obeyed.{granted, curved}
use Rattle.sampler.proofs.Refusals.{none-given}
use Rattle.sampler.proofs.Runners.{run-given}
use Rattle.point_runs.proofs.Steps.{parameter-from, parameter-upto}
use Rattle.point_runs.proofs.Written.{joined_length, listed-length}

curve-wanted : (kind : ℕ) → (kind ≡ 4) ⊎ (kind ≡ 5) → wanted false kind ≡ true
curve-wanted kind (inl e) = rw e
curve-wanted kind (inr e) = rw e

plain_carried : (rational type : ℕ) → rational ≡ 0 → (type ≡ 1) ⊎ (type ≡ 2) → carried rational type ≡ true
plain_carried rational type e (inl h) = rw (e, h)
plain_carried rational type e (inr h) = rw (e, h)

-- nothing up to 18 is given for an element of the kind wanted that obeys and is carried
pub all-passed : (surface : Bool) (used : Used) (t : Tables) (number : ℕ) → Obeying used t number → wanted surface (element_of t number).kind ≡ true → refusal_of surface used t number ≡ None
all-passed surface used t number (c, obeyed) kind =
    let o = obeys-facts used t (curves_before t (number - 1)) (number - 1) obeyed in
    let l : 9 * number ≤ length t.elements.elements = omega (arith, o.lent_one, c.some) in
    none-given surface used t number c.some c.in_use l kind obeyed (plain_carried (body_of t number).rational (body_of t number).basis c.plain c.type)

-- a curve in tables that obey the rules
abbrev pub Curve : Used → Tables → (number : ℕ) → Type 0
Curve used t number = Obeying used t number × IsCurve t number

module _ {used : Used} {t : Tables} {number : ℕ} (c : Curve used t number) where
  pub curve-given : refusal_of false used t number ≡ None
  curve-given = all-passed false used t number c.0 (curve-wanted (element_of t number).kind c.1)

  pub curve-facts : Curved t (element_of t number) (body_of t number)
  curve-facts = curved used t number (granted false used t number curve-given)

  pub curve-rules : (p : ℤ) → (body_of t number).start_u ≤ℤ p → p ≤ℤ (body_of t number).end_u → Rules (direction_u t (body_of t number)) p
  curve-rules p a b = (curve-facts.along.ranged.sound p a b).rules

  -- the rounded rule is near the exact value, at every parameter of the range
  curve-close : (p : ℤ) → (body_of t number).start_u ≤ℤ p → p ≤ℤ (body_of t number).end_u → (axis : ℕ) → OnCurve t number p axis (curve_at t (element_of t number) (body_of t number) p axis)
  unfolding curve_at
  curve-close p a b axis =
      curve-near (direction_u t (body_of t number)) p (curve-rules p a b) (control_of t (element_of t number) axis)

  pub ordered : (body_of t number).start_u ≤ℤ (body_of t number).end_u
  ordered = curve-facts.along.ranged.ordered

-- ---- lists by their places
joined_at : (w : ℕ) (f : ℕ → List ℤ) → ((i : ℕ) → length (f i) ≡ w) → (n j k : ℕ) → j < n → k < w → get_or (joined n f) (w * j + k) (pos 0) ≡ get_or (f j) k (pos 0)
joined_at w f h zero j k a b = absurd (not-suc-le-zero a)
joined_at w f h (suc n) j k a b = go (eq-or-lt_of_le (le_of_suc-le-suc a)) (λ l. joined_at w f h n j k l b)
  where
    long : length (joined n f) ≡ w * n
    long = joined_length w n f h

    go : (j ≡ n) ⊎ (j < n) → (j < n → get_or (joined n f) (w * j + k) (pos 0) ≡ get_or (f j) k (pos 0)) → get_or (joined n f ++ f n) (w * j + k) (pos 0) ≡ get_or (f j) k (pos 0)
    go (inl e) r =
        subst (λ (q : ℕ). get_or (joined n f ++ f n) (w * q + k) (pos 0) ≡ get_or (f q) k (pos 0)) (sym e)
        (ap (λ (q : ℕ). get_or (joined n f ++ f n) (q + k) (pos 0)) (sym long) ∙ get_or-append-add (joined n f) (f n) k (pos 0))
    go (inr l) r =
        let m : w * j + k < length (joined n f) = omega (arith, long, mul-le-mul_left w l) in
        get_or-append (joined n f) (f n) (pos 0) (w * j + k) m ∙ r l

pub listed_at : (n k : ℕ) (f : ℕ → ℤ) → k < n → get_or (tabulated n f) k (pos 0) ≡ f k
listed_at n k f h =
    let e : k ≡ 1 * k + 0 = omega arith in
    ap (λ (q : ℕ). get_or (tabulated n f) q (pos 0)) e ∙ joined_at 1 (λ i. f i ∷ []) (λ i. refl) n k 0 h (omega arith)

-- ---- a point alone
coordinates-are : (t : Tables) (e : Element) (b : Body) (p : ℤ) (q : Bool) → eqb e.kind 5 ≡ q
    → ((curve_point t e b p).outcome.coordinates ≡ tabulated (axes_of e) (curve_at t e b p)) × ((curve_point t e b p).outcome.number ≡ 0)
unfolding curve_point
coordinates-are t e b p true h = simp h (refl, refl)
coordinates-are t e b p false h = simp h (refl, refl)

answer-is : {used : Used} {t : Tables} {number : ℕ} → Curve used t number → (p : ℤ) → (body_of t number).start_u ≤ℤ p → p ≤ℤ (body_of t number).end_u
    → point_on_curve used t number p ≡ curve_point t (element_of t number) (body_of t number) p
unfolding point_on_curve
answer-is {used} {t} {number} c p a b = rw (curve-given c, le_yes (body_of t number).start_u p a, le_yes p (body_of t number).end_u b)

pub curve-coordinates : {used : Used} {t : Tables} {number : ℕ} → Curve used t number → (p : ℤ) → (body_of t number).start_u ≤ℤ p → p ≤ℤ (body_of t number).end_u
    → (point_on_curve used t number p).outcome.coordinates ≡ tabulated (axes_of (element_of t number)) (curve_at t (element_of t number) (body_of t number) p)
curve-coordinates {used} {t} {number} c p a b =
    ap (λ (r : PointAnswer). r.outcome.coordinates) (answer-is c p a b) ∙ (coordinates-are t (element_of t number) (body_of t number) p (eqb (element_of t number).kind 5) refl).0

-- each coordinate that is handed out is the rounded rule's
pub curve-coordinate : {used : Used} {t : Tables} {number : ℕ} → Curve used t number → (p : ℤ) → (body_of t number).start_u ≤ℤ p → p ≤ℤ (body_of t number).end_u
    → (axis : ℕ) → axis < axes_of (element_of t number)
    → get_or (point_on_curve used t number p).outcome.coordinates axis (pos 0) ≡ curve_at t (element_of t number) (body_of t number) p axis
curve-coordinate {used} {t} {number} c p a b axis h =
    ap (λ (q : List ℤ). get_or q axis (pos 0)) (curve-coordinates c p a b) ∙ listed_at (axes_of (element_of t number)) axis (curve_at t (element_of t number) (body_of t number) p) h

pub points-on-curves : (used : Used) (t : Tables) (number : ℕ) (p : ℤ) → Curve used t number → (body_of t number).start_u ≤ℤ p → p ≤ℤ (body_of t number).end_u
    → PointClaim (axes_of (element_of t number)) (curve_at t (element_of t number) (body_of t number) p) (OnCurve t number p) (point_on_curve used t number p)
points-on-curves used t number p c a b =
    let e = element_of t number in
    let m = body_of t number in
    let s = answer-is c p a b in
    record {
      given = ap (λ (r : PointAnswer). r.outcome.number) s ∙ (coordinates-are t e m p (eqb e.kind 5) refl).1;
      rounded = curve-coordinates c p a b;
      near = λ axis h. subst (OnCurve t number p axis) (sym (curve-coordinate c p a b axis h)) (curve-close c p a b axis);
    }

-- ---- a run
module _ {used : Used} {t : Tables} {number : ℕ} (c : Curve used t number) (steps at : ℕ) (points : List ℤ)
    (some : 1 ≤ steps) (most : steps ≤ 65536) (room : at + axes_of (element_of t number) * (steps + 1) ≤ length points) where
  abbrev e : Element
  e = element_of t number

  abbrev m : Body
  m = body_of t number

  pub filled : run_into used t number steps at points ≡ filled_run (axes_of e * (steps + 1)) at (run_numbers t e m steps) points
  filled = sym (run-given used t number steps at points (curve-given c) some most room)

  abbrev f : ℕ → List ℤ
  f j = tabulated (axes_of e) (curve_at t e m (parameter_at m.start_u m.end_u steps j))

  long : (j : ℕ) → length (f j) ≡ axes_of e
  long j = listed-length (axes_of e) (curve_at t e m (parameter_at m.start_u m.end_u steps j))

  number_is : (j axis : ℕ) → j ≤ steps → axis < axes_of e → get_or (run_numbers t e m steps) (axes_of e * j + axis) (pos 0) ≡ curve_at t e m (parameter_at m.start_u m.end_u steps j) axis
  unfolding run_numbers
  number_is j axis h k = joined_at (axes_of e) f long (steps + 1) j axis (omega arith) k ∙ listed_at (axes_of e) axis (curve_at t e m (parameter_at m.start_u m.end_u steps j)) k

  numbers-long : length (run_numbers t e m steps) ≡ axes_of e * (steps + 1)
  unfolding run_numbers
  numbers-long = joined_length (axes_of e) (steps + 1) f long

  pub run-coordinate : (j axis : ℕ) → j ≤ steps → axis < axes_of e
      → get_or (run_into used t number steps at points).points (at + (axes_of e * j + axis)) (pos 0) ≡ curve_at t e m (parameter_at m.start_u m.end_u steps j) axis
  run-coordinate j axis h k =
      let rest = drop (axes_of e * (steps + 1)) (drop at points) in
      let i = axes_of e * j + axis in
      let front : length (take at points) ≡ at = length-take-le at points (omega arith) in
      let l : i < length (run_numbers t e m steps) = omega (arith, numbers-long, mul-le-mul_left (axes_of e) h) in
      ap (λ (r : RunAnswer). get_or r.points (at + i) (pos 0)) filled
      ∙ ap (λ (q : ℕ). get_or (take at points ++ (run_numbers t e m steps ++ rest)) (q + i) (pos 0)) (sym front)
      ∙ get_or-append-add (take at points) (run_numbers t e m steps ++ rest) i (pos 0)
      ∙ get_or-append (run_numbers t e m steps) rest (pos 0) i l
      ∙ number_is j axis h k

pub runs-on-curves : (used : Used) (t : Tables) (number steps at : ℕ) (points : List ℤ) → Curve used t number → 1 ≤ steps → steps ≤ 65536
    → at + axes_of (element_of t number) * (steps + 1) ≤ length points → RunClaim t number steps at points (run_into used t number steps at points)
runs-on-curves used t number steps at points c some most room =
    let m = body_of t number in
    record {
      rounded = filled c steps at points some most room;
      near = λ j axis h k. subst (OnCurve t number (parameter_at m.start_u m.end_u steps j) axis) (sym (run-coordinate c steps at points some most room j axis h k))
          (curve-close c (parameter_at m.start_u m.end_u steps j) (parameter-from m.start_u m.end_u (ordered c) steps j)
          (parameter-upto m.start_u m.end_u (ordered c) steps j h) axis);
    }
