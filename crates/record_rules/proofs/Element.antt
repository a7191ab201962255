-- An element that obeys the rules, taken apart down to its body: each test out of its `&&`, a surface and a curve apart.
use Prim.Native.Nat.{ℕ, ◌+◌, ◌*◌, ◌-◌, ◌≤◌}
use mathlib.Core.Path.{◌≡◌}
use mathlib.Core.Bool.{Bool, true, false, cond, ◌&&◌}
use borrow.Author.Tests.{leb-true, lt-leb, eq-eqb, ne_eqb, eqb-false}
use lib.Dec.{leb, eqb}
use lib.ListN.{length}
use mathlib.Core.Logic.{◌⊎◌, inl, inr}
use Rattle.lists.proofs.Tests.{and_left, and_right, test}
use Rattle.tables.specs.Tables.{Tables}
use Rattle.tables.specs.Records.{body_at, element_at, parameters_u, parameters_v}
use Rattle.tables.specs.declared.Body.{Body}
use Rattle.tables.specs.Asking.{held, body_held}
use Rattle.tables.specs.declared.Used.{Used}
use Rattle.record_rules.specs.Corners.{corners_obey}
use Rattle.record_rules.specs.Directions.{type_obeys, parameters_obey}
use Rattle.record_rules.specs.Loops.{loops_obey}
use Rattle.record_rules.specs.Bodies.{curve_obeys, directions_obey, surface_obeys, record_obeys, body_obeys}
use Rattle.record_rules.specs.Rules.{obeys, element_obeys}
use Rattle.record_rules.proofs.OneBody.{Run, run-facts}
use Rattle.record_rules.proofs.Facts.{Corners, corners-facts, Typed, typed-facts, Curve, curve-facts, Surface, surface-facts}

-- a body's records, whatever its kind
pub record Recorded (used : Used) (t : Tables) (kind k : ℕ) : Type 0 where
  pub some : 1 ≤ k
  pub used-one : k ≤ used.bodies
  pub lent-body : 9 * k ≤ length t.bodies.bodies
  pub lent-range : 4 * k ≤ length t.bodies.ranges
  pub typed : let b = body_at t (k - 1) in Typed (eqb kind 6) b.basis b.rational b.degree_u b.degree_v
  pub run : let b = body_at t (k - 1) in Run (eqb kind 6) t.bodies.parameters used.parameters b.first_parameter b.count_u b.count_v

loops-used : (used : ℕ) (t : Tables) (curves first count : ℕ) → loops_obey used t curves first count ≡ true → (count ≡ 0 → ⊥) → first + count ≤ used
unfolding loops_obey
loops-used used t curves first count h some =
    let a = leb (first + count) used in
    let b = leb (2 * (first + count)) (length t.bodies.loops) in
    let d = leb (2 * (first + count)) (length t.bodies.spans) in
    leb-true _ _ (and_left a b (and_left (a && b) d (and_left (a && b && d) _ (rw (ne_eqb count 0 some) at h))))

module _ (used : Used) (t : Tables) (curves kind count k : ℕ) (h : body_obeys used t curves kind count k ≡ true) where
  abbrev body : Body
  body = body_at t (k - 1)

  record-holds : record_obeys used t curves kind count body ≡ true
  unfolding body_obeys body_held held
  record-holds = and_right (leb 1 k && leb k used.bodies && leb (9 * k) (length t.bodies.bodies) && leb (4 * k) (length t.bodies.ranges)) _ h

  abbrev type-test : Bool
  type-test = type_obeys (eqb kind 6) body.basis body.rational body.degree_u body.degree_v

  abbrev run-test : Bool
  run-test = parameters_obey (eqb kind 6) t.bodies.parameters used.parameters body.first_parameter body.count_u body.count_v

  first_two : (type-test && run-test) ≡ true
  unfolding record_obeys
  first_two = and_left (type-test && run-test) _ record-holds

  shape-holds : cond (eqb kind 6) (surface_obeys used.loops t curves count body) (curve_obeys (eqb kind 5) (parameters_u t body) body count) ≡ true
  unfolding record_obeys
  shape-holds = and_right (type-test && run-test) _ record-holds

  pub recorded : Recorded used t kind k
  unfolding body_obeys body_held held
  recorded =
      let a = leb 1 k in
      let b = leb k used.bodies in
      let d = leb (9 * k) (length t.bodies.bodies) in
      let e = leb (4 * k) (length t.bodies.ranges) in
      let four = and_left (a && b && d && e) _ h in
      let three = and_left (a && b && d) e four in
      let two = and_left (a && b) d three in
      record {
        some = leb-true _ _ (and_left a b two);
        used-one = leb-true _ _ (and_right a b two);
        lent-body = leb-true _ _ (and_right (a && b) d three);
        lent-range = leb-true _ _ (and_right (a && b && d) e four);
        typed = typed-facts _ _ _ _ _ (and_left type-test run-test first_two);
        run = run-facts _ _ _ _ _ _ (and_right type-test run-test first_two);
      }

  pub curve-of : (kind ≡ 6 → ⊥) → Curve (eqb kind 5) (parameters_u t body) body count
  curve-of f = curve-facts (eqb kind 5) (parameters_u t body) body count (rw (ne_eqb kind 6 f) at shape-holds)

  surface-holds : kind ≡ 6 → surface_obeys used.loops t curves count body ≡ true
  surface-holds e = rw (eq-eqb kind 6 e) at shape-holds

  pub surface-of : kind ≡ 6 → Surface (parameters_u t body) (parameters_v t body) body count
  unfolding surface_obeys
  surface-of e = surface-facts (parameters_u t body) (parameters_v t body) body count (and_left (directions_obey (parameters_u t body) (parameters_v t body) body count) _ (surface-holds e))

  -- loop parts, where there are any, are among the used ones
  pub parts-used : (body.loops ≡ 0 → ⊥) → body.first_loop + body.loops ≤ used.loops
  unfolding surface_obeys
  parts-used some = go (test (eqb kind 6))
    where
      go : (eqb kind 6 ≡ true) ⊎ (eqb kind 6 ≡ false) → body.first_loop + body.loops ≤ used.loops
      go (inl e) =
          loops-used used.loops t curves body.first_loop body.loops
          (and_right (directions_obey (parameters_u t body) (parameters_v t body) body count) (loops_obey used.loops t curves body.first_loop body.loops) (rw e at shape-holds))
          some
      go (inr e) = absurd (some (curve-of (eqb-false kind 6 e)).no-loops)

-- the element itself
pub record Obeys (used : Used) (t : Tables) (curves i : ℕ) : Type 0 where
  pub lent_one : 9 * i + 9 ≤ length t.elements.elements
  pub kind-some : 1 ≤ (element_at t i).kind
  pub kind-most : (element_at t i).kind ≤ 6
  pub smooth : (element_at t i).smoothing ≤ 65535
  pub corners : Corners used t (element_at t i).kind (element_at t i).corners
  pub rest : cond (leb (element_at t i).kind 3) (eqb (element_at t i).body 0) (body_obeys used t curves (element_at t i).kind (element_at t i).corners.count (element_at t i).body) ≡ true

pub obeys-facts : (used : Used) (t : Tables) (curves i : ℕ) → obeys used t curves i ≡ true → Obeys used t curves i
unfolding obeys element_obeys
obeys-facts used t curves i h =
    let e = element_at t i in
    let l = leb (9 * i + 9) (length t.elements.elements) in
    let a = leb 1 e.kind in
    let b = leb e.kind 6 in
    let d = leb e.smoothing 65535 in
    let k = corners_obey used t e.kind e.corners in
    let all = and_right l _ h in
    let four = and_left (a && b && d && k) _ all in
    let three = and_left (a && b && d) k four in
    let two = and_left (a && b) d three in
    record {
      lent_one = leb-true _ _ (and_left l _ h);
      kind-some = leb-true _ _ (and_left a b two);
      kind-most = leb-true _ _ (and_right a b two);
      smooth = leb-true _ _ (and_right (a && b) d three);
      corners = corners-facts used t e.kind e.corners (and_right (a && b && d) k four);
      rest = and_right (a && b && d && k) _ all;
    }

-- a curv, curv2 or surf has a body
pub body-of : {used : Used} {t : Tables} {curves i : ℕ} → Obeys used t curves i → 4 ≤ (element_at t i).kind
    → body_obeys used t curves (element_at t i).kind (element_at t i).corners.count (element_at t i).body ≡ true
body-of {used} {t} {curves} {i} o h = rw (lt-leb (element_at t i).kind 3 h) at o.rest
