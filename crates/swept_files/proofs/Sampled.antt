-- Q-6: every point, run and polyline is the same before and after a sweep. Sampling reads nothing of two sets of tables that obey but what they show alike.
use Prim.Native.Nat.{ℕ, zero, suc, ◌+◌, ◌*◌, ◌-◌, ◌≤◌, ◌<◌}
use mathlib.Core.Path.{◌≡◌, refl, sym, ap, ap₂, ◌∙◌, fun_ext}
use mathlib.Core.Bool.{Bool, true, false, cond, ◌&&◌}
use mathlib.Core.Logic.{⊎_elim, inr}
use mathlib.Core.List.{List, [], ◌∷◌, ◌++◌}
use native.Mathlib.Omega.{arith}
use borrow.Author.Tests.{leb-true, leb-false, le-leb}
use lib.Dec.{leb, eqb}
use lib.ListN.{length}
use lib.IntN.{ℤ, pos}
use lib.Signed.{le_z}
use Rattle.lists.proofs.Tests.{and_left, and_right, and_both, test}
use Rattle.rounding.proofs.Order.{le_yes}
use Rattle.tables.specs.Tables.{Tables}
use Rattle.tables.specs.declared.Used.{Used}
use Rattle.tables.specs.declared.Element.{Element}
use Rattle.tables.specs.declared.Body.{Body}
use Rattle.record_rules.specs.Rules.{curves_before}
use Rattle.record_rules.proofs.Element.{obeys-facts}
use Rattle.table_rules.specs.Whole.{whole_obeys}
use Rattle.point_runs.specs.Runs.{joined, tabulated, parameter_at}
use Rattle.point_runs.proofs.Steps.{parameter-from, parameter-upto}
use Rattle.sampler.specs.Points.{axes_of, curve_at, surface_at, run_numbers}
use Rattle.std.specs.Prelude.{Option, Some, None}
use Rattle.refusals.specs.declared.Reason.{Reason}
use Rattle.refusals.specs.declared.Reason.TheVariants.{NoOutputRoom, NoSuchElement, NotSampled, ParameterOutside}
use Rattle.sampler.specs.Answers.{PointAnswer, wanted, carried, element_of, body_of, refusal_of, refused_or, RunAnswer, inside, refused_point, curve_point, point_on_curve, surface_point, point_on_surface, refused_run, filled_run, run_into}
use Rattle.sampler.specs.Sampling.{Curved, Surfaced}
use Rattle.sampler.proofs.Obeyed.{Granted, granted, curved, surfaced}
use Rattle.sampler.proofs.Refusals.{kinds, none-such}
use Rattle.sampler.proofs.Entries.{sound-inside}
use Rattle.point_chords.specs.Chords.{parameters, numbers}
use Rattle.polyline.specs.Answers.{PolylineAnswer, point_at, parameters_of, polyline_numbers, refused_polyline, filled_polyline, polyline_into}
use Rattle.sweep.specs.Swept.{swept_used, swept_tables}
use Rattle.swept_files.specs.Promises.{SameShown}
use Rattle.swept_files.specs.Samples.{SampledSame}
use Rattle.sweep.proofs.Whole.{whole_parts, elements-facts}
use Rattle.swept_files.proofs.SameElement.{element-same, body_same, curve-same, surface-same}

-- two choices that agree where the first is made
cond-where : {A : Type 0} (q : Bool) {x y : A} (z : A) → (q ≡ true → x ≡ y) → cond q x z ≡ cond q y z
cond-where true z f = f refl
cond-where false z f = refl

joined-below : (n : ℕ) (f g : ℕ → List ℤ) → ((i : ℕ) → i < n → f i ≡ g i) → joined n f ≡ joined n g
joined-below zero f g h = refl
joined-below (suc n) f g h = ap₂ (λ (a b : List ℤ). a ++ b) (joined-below n f g (λ i l. h i (omega arith))) (h n (omega arith))

axes-most : (q : Bool) → cond q 2 3 ≤ 3
axes-most true = omega arith
axes-most false = omega arith

-- 17 or 18, by the element's kind and its body, where all tables obey
abbrev refusal_by : Bool → Element → Body → Option Reason
refusal_by surface e b = cond (wanted surface e.kind) (cond (carried b.rational b.basis) None (Some NotSampled)) (Some NoSuchElement)

unless-where : {A : Type 0} (o : Option Reason) (f : Reason → A) {x y : A} → (o ≡ None → x ≡ y) → refused_or o f x ≡ refused_or o f y
unless-where None f h = h refl
unless-where (Some r) f h = refl

refusal_is : (surface : Bool) (used : Used) (t : Tables) (number : ℕ) → whole_obeys used t ≡ true → 1 ≤ number → number ≤ used.elements
    → refusal_of surface used t number ≡ refusal_by surface (element_of t number) (body_of t number)
unfolding refusal_of
refusal_is surface used t number h a c =
    let o = elements-facts used t (whole_parts used t h).elements (number - 1) (omega arith) in
    let l : 9 * number ≤ length t.elements.elements = omega (arith, (obeys-facts used t (curves_before t (number - 1)) (number - 1) o).lent_one) in
    rw (le-leb 1 number a, le-leb number used.elements c, le-leb (9 * number) (length t.elements.elements) l, o)

module _ (used : Used) (t : Tables) (u : Used) (w : Tables) (count : u.elements ≡ used.elements)
    (h : whole_obeys used t ≡ true) (k : whole_obeys u w ≡ true) (s : SameShown used t w) (number : ℕ) where
  abbrev e : Element
  e = element_of t number

  abbrev b : Body
  b = body_of t number

  module _ (some : 1 ≤ number) (in_use : number ≤ used.elements) where
    below : number - 1 < used.elements
    below = omega arith

    below-after : number - 1 < u.elements
    below-after = omega arith

    its-element : element_of w number ≡ e
    its-element = element-same used t u w h k s (number - 1) below below-after

    its-body : 4 ≤ e.kind → body_of w number ≡ b
    its-body four = body_same used t u w h k s (number - 1) below below-after four

    refused-alike : (surface : Bool) → refusal_of surface u w number ≡ refusal_of surface used t number
    refused-alike surface =
        refusal_is surface u w number k some (omega arith)
        ∙ ap (λ (x : Element). refusal_by surface x (body_of w number)) its-element
        ∙ cond-where (wanted surface e.kind) (Some NoSuchElement) (λ q. ap (λ (x : Body). cond (carried x.rational x.basis) None (Some NotSampled)) (its-body (kinds surface e.kind q)))
        ∙ sym (refusal_is surface used t number h some in_use)

  refusal-same : (surface : Bool) → refusal_of surface u w number ≡ refusal_of surface used t number
  unfolding refusal_of
  refusal-same surface = ⊎_elim within past (test (leb 1 number && leb number used.elements))
    where
      within : (leb 1 number && leb number used.elements) ≡ true → refusal_of surface u w number ≡ refusal_of surface used t number
      within q =
          refused-alike (leb-true 1 number (and_left (leb 1 number) (leb number used.elements) q))
          (leb-true number used.elements (and_right (leb 1 number) (leb number used.elements) q)) surface

      past : (leb 1 number && leb number used.elements) ≡ false → refusal_of surface u w number ≡ refusal_of surface used t number
      past q = rw (count, q)

  -- ---- where nothing is refused
  module _ (surface : Bool) (given : refusal_of surface used t number ≡ None) where
    grant : Granted surface used t number
    grant = granted surface used t number given

    its-use : number ≤ used.elements
    its-use = ⊎_elim (λ q. leb-true number used.elements q) (λ q. absurd (let no = none-such surface used t number (inr (leb-false number used.elements q)) in cc)) (test (leb number used.elements))

    its-kind : 4 ≤ e.kind
    its-kind = kinds surface e.kind grant.kind

    granted-element : element_of w number ≡ e
    granted-element = its-element grant.some its-use

    granted-body : body_of w number ≡ b
    granted-body = its-body grant.some its-use its-kind

  module _ (given : refusal_of false used t number ≡ None) where
    curve-facts : Curved t e b
    curve-facts = curved used t number (grant false given)

    at-parameter : (p : ℤ) → inside b.start_u b.end_u p ≡ true → (axis : ℕ) → axis < 3 → curve_at w e b p axis ≡ curve_at t e b p axis
    at-parameter p q =
        curve-same used t u w h k s (number - 1) (below (grant false given).some (its-use false given)) (below-after (grant false given).some (its-use false given)) (its-kind false given)
        p (sound-inside curve-facts.along.ranged p q).rules curve-facts.counted

    point-same : (p : ℤ) → inside b.start_u b.end_u p ≡ true → curve_point w e b p ≡ curve_point t e b p
    unfolding curve_point
    point-same p q = rw (at-parameter p q 0 (omega arith), at-parameter p q 1 (omega arith), at-parameter p q 2 (omega arith))

    run-same : (steps : ℕ) → run_numbers w e b steps ≡ run_numbers t e b steps
    unfolding run_numbers
    run-same steps =
        let p : ℕ → ℤ = λ j. parameter_at b.start_u b.end_u steps j in
        let ordered = curve-facts.along.ranged.ordered in
        joined-below (steps + 1) (λ j. tabulated (axes_of e) (curve_at w e b (p j))) (λ j. tabulated (axes_of e) (curve_at t e b (p j)))
        (λ j l. joined-below (axes_of e) (λ i. curve_at w e b (p j) i ∷ []) (λ i. curve_at t e b (p j) i ∷ [])
        (λ i m. ap (λ (z : ℤ). z ∷ []) (at-parameter (p j)
        (and_both (le_yes b.start_u (p j) (parameter-from b.start_u b.end_u ordered steps j)) (le_yes (p j) b.end_u (parameter-upto b.start_u b.end_u ordered steps j (omega arith))))
        i (omega (arith, axes-most (eqb e.kind 5))))))

  module _ (given : refusal_of true used t number ≡ None) (p q : ℤ) (i : (inside b.start_u b.end_u p && inside b.start_v b.end_v q) ≡ true) where
    surface-facts : Surfaced t e b
    surface-facts = surfaced used t number (grant true given)

    on-surface : (axis : ℕ) → axis < 3 → surface_at w e b p q axis ≡ surface_at t e b p q axis
    on-surface =
        let in-u = and_left (inside b.start_u b.end_u p) (inside b.start_v b.end_v q) i in
        let in-v = and_right (inside b.start_u b.end_u p) (inside b.start_v b.end_v q) i in
        surface-same used t u w h k s (number - 1) (below (grant true given).some (its-use true given)) (below-after (grant true given).some (its-use true given)) (its-kind true given) p q
        (sound-inside surface-facts.along-u.ranged p in-u).rules (sound-inside surface-facts.along-v.ranged q in-v).rules surface-facts.counted

  -- ---- the answers
  curve-answer : (p : ℤ) → point_on_curve u w number p ≡ point_on_curve used t number p
  unfolding point_on_curve
  curve-answer p =
      let answer : Element → Body → PointAnswer = λ x y. cond (inside y.start_u y.end_u p) (curve_point w x y p) (refused_point ParameterOutside) in
      ap (λ (r : Option Reason). refused_or r refused_point (answer (element_of w number) (body_of w number))) (refusal-same false)
      ∙ unless-where (refusal_of false used t number) refused_point
      (λ given. ap₂ answer (granted-element false given) (granted-body false given) ∙ cond-where (inside b.start_u b.end_u p) (refused_point ParameterOutside) (point-same given p))

  run-answer : (steps at : ℕ) (points : List ℤ) → run_into u w number steps at points ≡ run_into used t number steps at points
  unfolding run_into
  run-answer steps at points =
      let answer : Element → List ℤ → RunAnswer = λ x y. cond (leb 1 steps && leb steps 65536)
      (cond (leb (at + axes_of x * (steps + 1)) (length points)) (filled_run (axes_of x * (steps + 1)) at y points) (refused_run points NoOutputRoom)) (refused_run points ParameterOutside) in
      ap (λ (r : Option Reason). refused_or r (refused_run points) (answer (element_of w number) (run_numbers w (element_of w number) (body_of w number) steps))) (refusal-same false)
      ∙ unless-where (refusal_of false used t number) (refused_run points)
      (λ given. ap₂ (λ (x : Element) (y : Body). answer x (run_numbers w x y steps)) (granted-element false given) (granted-body false given) ∙ ap (answer e) (run-same given steps))

  polyline-answer : (tolerance : ℤ) (at : ℕ) (points : List ℤ) → polyline_into u w number tolerance at points ≡ polyline_into used t number tolerance at points
  unfolding polyline_into parameters_of polyline_numbers
  polyline-answer tolerance at points =
      let answer : (ℤ → List ℤ) → Element → Body → PolylineAnswer = λ f x y.
      let ps = parameters f tolerance y.start_u y.end_u in
      cond (le_z (pos 0) tolerance) (cond (leb (at + axes_of x * length ps) (length points)) (filled_polyline (length ps) at (numbers f ps) points) (refused_polyline points NoOutputRoom)) (refused_polyline points ParameterOutside) in
      ap (λ (r : Option Reason). refused_or r (refused_polyline points) (answer (point_at u w number) (element_of w number) (body_of w number))) (refusal-same false)
      ∙ unless-where (refusal_of false used t number) (refused_polyline points)
      (λ given. ap₂ (answer (point_at u w number)) (granted-element false given) (granted-body false given)
      ∙ ap (λ (f : ℤ → List ℤ). answer f e b) (fun_ext (λ p. ap (λ (r : PointAnswer). r.outcome.coordinates) (curve-answer p))))

  surface-answer : (p q : ℤ) → point_on_surface u w number p q ≡ point_on_surface used t number p q
  unfolding point_on_surface surface_point
  surface-answer p q =
      let answer : Element → Body → PointAnswer = λ x y.
      cond (inside y.start_u y.end_u p && inside y.start_v y.end_v q) (surface_point w x y p q) (refused_point ParameterOutside) in
      ap (λ (r : Option Reason). refused_or r refused_point (answer (element_of w number) (body_of w number))) (refusal-same true)
      ∙ unless-where (refusal_of true used t number) refused_point
      (λ given. ap₂ answer (granted-element true given) (granted-body true given)
      ∙ cond-where (inside b.start_u b.end_u p && inside b.start_v b.end_v q) (refused_point ParameterOutside)
      (λ i. let f = on-surface given p q i in rw (f 0 (omega arith), f 1 (omega arith), f 2 (omega arith))))

-- tables that obey, with as many elements, that show the same are sampled alike
pub alike : (used : Used) (t : Tables) (u : Used) (w : Tables) → u.elements ≡ used.elements → whole_obeys used t ≡ true → whole_obeys u w ≡ true → SameShown used t w
    → SampledSame used t u w
alike used t u w count h k s =
    record {
      samples = record {
        curves = λ number p. sym (curve-answer used t u w count h k s number p);
        surfaces = λ number p q. sym (surface-answer used t u w count h k s number p q);
        runs = λ number steps at points. sym (run-answer used t u w count h k s number steps at points);
      };
      polylines = λ number tolerance at points. sym (polyline-answer used t u w count h k s number tolerance at points);
    }

-- a sweep keeps what is shown, and what it leaves obeys: so it changes no answer
pub sampled : ((used : Used) (t : Tables) → whole_obeys used t ≡ true → SameShown used t (swept_tables used t))
    → ((used : Used) (t : Tables) → whole_obeys used t ≡ true → whole_obeys (swept_used used t) (swept_tables used t) ≡ true)
    → (used : Used) (t : Tables) → whole_obeys used t ≡ true → SampledSame used t (swept_used used t) (swept_tables used t)
unfolding swept_used
sampled same-shown swept-obeys used t h = alike used t (swept_used used t) (swept_tables used t) refl h (swept-obeys used t h) (same-shown used t h)
