-- What every answer of the sampler is, whatever is asked: by its tests, each of which leads to one of two answers.
use Prim.Native.Nat.{ℕ, ◌+◌, ◌*◌, ◌-◌}
use mathlib.Core.Path.{◌≡◌, refl, ap, ◌∙◌, subst}
use mathlib.Core.Bool.{Bool, true, false, cond, ◌&&◌}
use mathlib.Core.List.{List}
use native.Mathlib.Omega.{arith}
use lib.Dec.{leb, eqb}
use lib.ListN.{length}
use lib.IntN.{ℤ}
use Rattle.tables.specs.Tables.{Tables}
use Rattle.tables.specs.Records.{element_width, curve2_kind}
use Rattle.tables.specs.declared.Used.{Used}
use Rattle.tables.specs.declared.Body.{Body}
use Rattle.tables.specs.declared.Element.{Element}
use Rattle.record_rules.specs.Rules.{obeys, curves_before}
use Rattle.sampler.specs.Points.{axes_of, curve_at, surface_at, run_numbers}
use Rattle.std.specs.Prelude.{Option, Some, None, Result, Ok, Err}
use Rattle.refusals.specs.Reasons.{reason_number}
use Rattle.refusals.specs.declared.Reason.{Reason}
use Rattle.refusals.specs.declared.Reason.TheVariants.{BrokenRecord, NoOutputRoom, NoSuchElement, NotSampled, ParameterOutside}
use Rattle.sampler.specs.declared.Point.{Point}
use Rattle.sampler.specs.declared.Point.TheVariants as sampled
use Rattle.polyline.proofs.Granted.{number-15}
use Rattle.sampler.specs.Answers.{point_answer, refused_or, point_outcome, run_outcome, PointAnswer, RunAnswer, wanted, carried, element_of, body_of, inside, refusal_of, refused_point, space_point, plane_point, curve_point, point_on_curve, surface_point, point_on_surface, refused_run, filled_run, run_into}
use Rattle.end_to_end.specs.Demand1.{Between, RefusedRun}

-- what holds of both answers of a test holds of the answer
module _ {A : Type 0} (P : A → Type 0) where
  either : (b : Bool) (x y : A) → P x → P y → P (cond b x y)
  either true x y h k = h
  either false x y h k = k

  unless-cases : (o : Option Reason) (f : Reason → A) (x : A) → P x → ((r : Reason) → o ≡ Some r → P (f r)) → P (refused_or o f x)
  unless-cases None f x h k = h
  unless-cases (Some r) f x h k = k r refl

-- ---- 17, 15, 18, 19 and 16
abbrev Known : Reason → Type 0
Known r = Between 15 19 (reason_number r)

refusal-number : (surface : Bool) (used : Used) (t : Tables) (number : ℕ) (r : Reason) → refusal_of surface used t number ≡ Some r → Known r
unfolding refusal_of
refusal-number surface used t number r =
    by_tests (leb 1 number && leb number used.elements) (leb (element_width * number) (length t.elements.elements)) (wanted surface (element_of t number).kind)
    (obeys used t (curves_before t (number - 1)) (number - 1)) (carried (body_of t number).rational (body_of t number).basis)
  where
    known : (q : Reason) → Known q → ◌≡◌ {A = Option Reason} (Some q) (Some r) → Known r
    known q k e = let g : q ≡ r = cc in subst Known g k

    by_tests : (a b w o c : Bool)
        → ◌≡◌ {A = Option Reason} (cond a (cond b (cond w (cond o (cond c None (Some NotSampled)) (Some BrokenRecord)) (Some NoSuchElement)) (Some BrokenRecord)) (Some NoSuchElement)) (Some r) → Known r
    by_tests false b w o c = known NoSuchElement (record { least = omega arith; most = omega arith })
    by_tests true false w o c = known BrokenRecord (record { least = omega arith; most = omega arith })
    by_tests true true false o c = known NoSuchElement (record { least = omega arith; most = omega arith })
    by_tests true true true false c = known BrokenRecord (record { least = omega arith; most = omega arith })
    by_tests true true true true false = known NotSampled (record { least = omega arith; most = omega arith })
    by_tests true true true true true = λ e. cc

nineteen : Known ParameterOutside
nineteen = record { least = omega arith; most = omega arith }

-- ---- what holds of each answer that the tests lead to
module _ (u : Used) (t : Tables) (number : ℕ) where
  abbrev e : Element
  e = element_of t number

  abbrev b : Body
  b = body_of t number

  curve-cases : (P : PointAnswer → Type 0) → ((x y : ℤ) → P (plane_point x y)) → ((x y z : ℤ) → P (space_point x y z)) → P (refused_point ParameterOutside)
      → ((r : Reason) → refusal_of false u t number ≡ Some r → P (refused_point r)) → (p : ℤ) → P (point_on_curve u t number p)
  unfolding point_on_curve curve_point
  curve-cases P plane space outside refused p =
      let x = curve_at t e b p in
      let there = cond (eqb e.kind curve2_kind) (plane_point (x 0) (x 1)) (space_point (x 0) (x 1) (x 2)) in
      let in-range = inside b.start_u b.end_u p in
      unless-cases P (refusal_of false u t number) refused_point (cond in-range there (refused_point ParameterOutside))
      (either P in-range there (refused_point ParameterOutside) (either P (eqb e.kind curve2_kind) (plane_point (x 0) (x 1)) (space_point (x 0) (x 1) (x 2)) (plane (x 0) (x 1)) (space (x 0) (x 1) (x 2))) outside)
      refused

  surface-cases : (P : PointAnswer → Type 0) → ((x y z : ℤ) → P (space_point x y z)) → P (refused_point ParameterOutside)
      → ((r : Reason) → refusal_of true u t number ≡ Some r → P (refused_point r)) → (p q : ℤ) → P (point_on_surface u t number p q)
  unfolding point_on_surface surface_point
  surface-cases P space outside refused p q =
      let x = surface_at t e b p q in
      let in-range = inside b.start_u b.end_u p && inside b.start_v b.end_v q in
      unless-cases P (refusal_of true u t number) refused_point (cond in-range (space_point (x 0) (x 1) (x 2)) (refused_point ParameterOutside))
      (either P in-range (space_point (x 0) (x 1) (x 2)) (refused_point ParameterOutside) (space (x 0) (x 1) (x 2)) outside)
      refused

  run-cases : (P : RunAnswer → Type 0) (at : ℕ) (points : List ℤ) → ((count : ℕ) (numbers : List ℤ) → P (filled_run count at numbers points)) → P (refused_run points NoOutputRoom) → P (refused_run points ParameterOutside)
      → ((r : Reason) → refusal_of false u t number ≡ Some r → P (refused_run points r)) → (steps : ℕ) → P (run_into u t number steps at points)
  unfolding run_into
  run-cases P at points filled no_room no_steps refused steps =
      let count = axes_of e * (steps + 1) in
      let some = filled_run count at (run_numbers t e b steps) points in
      let room = leb (at + count) (length points) in
      let counted = leb 1 steps && leb steps 65536 in
      unless-cases P (refusal_of false u t number) (refused_run points) (cond counted (cond room some (refused_run points NoOutputRoom)) (refused_run points ParameterOutside))
      (either P counted (cond room some (refused_run points NoOutputRoom)) (refused_run points ParameterOutside) (either P room some (refused_run points NoOutputRoom) (filled count (run_numbers t e b steps)) no_room) no_steps)
      refused

-- ---- points
pub record PointSound (r : PointAnswer) : Type 0 where
  pub outcome : r.outcome ≡ point_outcome r.answer
  pub number : (q : Reason) → r.answer ≡ Err q → Known q

refused-sound : (r : Reason) → Known r → PointSound (refused_point r)
refused-sound r k =
    record {
      outcome = refl;
      number = λ q e. let f : ◌≡◌ {A = Result Point Reason} (Err r) (Err q) = e in let g : r ≡ q = cc in subst Known g k;
    }

given-sound : (p : Point) → PointSound (point_answer (Ok p))
given-sound p = record { outcome = refl; number = λ q e. let f : ◌≡◌ {A = Result Point Reason} (Ok p) (Err q) = e in absurd cc }

-- ---- runs
pub record RunSound (lent : List ℤ) (r : RunAnswer) : Type 0 where
  pub outcome : r.outcome ≡ run_outcome r.answer
  pub refused : (q : Reason) → r.answer ≡ Err q → RefusedRun lent (reason_number q) r

unfilled-sound : (points : List ℤ) (r : Reason) → Known r → RunSound points (refused_run points r)
unfilled-sound points r k =
    record {
      outcome = refl;
      refused = λ q e. let f : ◌≡◌ {A = Result ℕ Reason} (Err r) (Err q) = e in let g : r ≡ q = cc in record { number = subst Known g k; points = refl };
    }

filled-sound : (points : List ℤ) (at count : ℕ) (numbers : List ℤ) → RunSound points (filled_run count at numbers points)
filled-sound points at count numbers =
    record { outcome = refl; refused = λ q e. let f : ◌≡◌ {A = Result ℕ Reason} (Ok count) (Err q) = e in absurd cc }

module _ (u : Used) (t : Tables) (number : ℕ) where
  pub curve-sound : (p : ℤ) → PointSound (point_on_curve u t number p)
  curve-sound =
      curve-cases u t number PointSound (λ x y. given-sound (sampled.Plane x y)) (λ x y z. given-sound (sampled.Space x y z)) (refused-sound ParameterOutside nineteen)
      (λ r h. refused-sound r (refusal-number false u t number r h))

  pub surface-sound : (p q : ℤ) → PointSound (point_on_surface u t number p q)
  surface-sound =
      surface-cases u t number PointSound (λ x y z. given-sound (sampled.Space x y z)) (refused-sound ParameterOutside nineteen) (λ r h. refused-sound r (refusal-number true u t number r h))

  pub run_sound : (steps at : ℕ) (points : List ℤ) → RunSound points (run_into u t number steps at points)
  run_sound steps at points =
      run-cases u t number (RunSound points) at points (filled-sound points at) (unfilled-sound points NoOutputRoom (record { least = omega arith; most = omega arith }))
      (unfilled-sound points ParameterOutside nineteen) (λ r h. unfilled-sound points r (refusal-number false u t number r h)) steps

  -- 15 is given by the tests before the parameters or not at all
  pub curve-not-15 : (refusal_of false u t number ≡ Some BrokenRecord → ⊥) → (p : ℤ) → (point_on_curve u t number p).outcome.number ≡ 15 → ⊥
  curve-not-15 h = curve-cases u t number (λ r. r.outcome.number ≡ 15 → ⊥) (λ x y e. omega arith) (λ x y z e. omega arith) (λ e. omega arith) (λ r k e. h (k ∙ ap Some (number-15 r e)))

  pub surface-not-15 : (refusal_of true u t number ≡ Some BrokenRecord → ⊥) → (p q : ℤ) → (point_on_surface u t number p q).outcome.number ≡ 15 → ⊥
  surface-not-15 h = surface-cases u t number (λ r. r.outcome.number ≡ 15 → ⊥) (λ x y z e. omega arith) (λ e. omega arith) (λ r k e. h (k ∙ ap Some (number-15 r e)))

  pub run-not-15 : (refusal_of false u t number ≡ Some BrokenRecord → ⊥) → (steps at : ℕ) (points : List ℤ) → (run_into u t number steps at points).outcome.number ≡ 15 → ⊥
  run-not-15 h steps at points =
      run-cases u t number (λ r. r.outcome.number ≡ 15 → ⊥) at points (λ count numbers e. omega arith) (λ e. omega arith) (λ e. omega arith) (λ r k e. h (k ∙ ap Some (number-15 r e))) steps
