-- What an element that obeys gives the sampler: its records are lent, its controls held, its ranges those of a curve or a surface.
use mathlib.Core.Path.{◌≡◌, refl, sym, ap₂, ◌∙◌, subst}
use mathlib.Core.Bool.{Bool, true, false, cond, ◌&&◌, ◌||◌}
use mathlib.Core.Logic.{◌⊎◌, inl, inr, ⊎_elim}
use mathlib.Core.List.{List}
use Prim.Native.Nat.{ℕ, ◌+◌, ◌*◌, ◌-◌, ◌≤◌, ◌<◌}
use native.Mathlib.Omega.{arith}
use borrow.Author.Tests.{leb-true, eqb-true, eq-eqb}
use lib.Dec.{leb, eqb}
use lib.ListN.{length, get_or, take, drop, length-drop}
use lib.Seq.{length-take-le, get_or-take, get_or-drop}
use lib.IntN.{ℤ, pos}
use Rattle.lists.proofs.Tests.{and_left, and_right, test, never}
use Rattle.rounding.specs.Range.{InRange}
use Rattle.tables.specs.Tables.{Tables}
use Rattle.tables.specs.Bodies.{enough, controls, in_order, curve_count, surface_count, basis_of}
use Rattle.tables.specs.declared.CornerRun.{CornerRun}
use Rattle.tables.specs.declared.Used.{Used}
use Rattle.record_rules.specs.Numbers.{in_range}
use Rattle.record_rules.specs.Rules.{obeys, curves_before}
use Rattle.record_rules.proofs.OneVertex.{Vertex}
use Rattle.record_rules.proofs.Facts.{Corners, corner-vertex, corner-control, degree-facts}
use Rattle.record_rules.proofs.Element.{recorded, curve-of, surface-of, obeys-facts, body-of}
use Rattle.basis.proofs.Basis.{curve-enough, surface-enough-u, surface-enough-v}
use Rattle.point_exact.specs.Directions.{at}
use Rattle.point_rows.specs.Controls.{control_at, ControlsLent}
use Rattle.sampler.specs.Points.{body_direction}
use Rattle.std.specs.Prelude.{Option, Some, None}
use Rattle.refusals.specs.declared.Reason.{Reason}
use Rattle.refusals.specs.declared.Reason.TheVariants.{BrokenRecord, NoSuchElement, NotSampled}
use Rattle.sampler.specs.Answers.{wanted, carried, element_of, body_of, refusal_of}
use Rattle.sampler.specs.Sampling.{Directed, Curved, Surfaced}
use Rattle.sampler.proofs.Ranges.{ranged-of}

is-small : (z : ℤ) → in_range z ≡ true → InRange z
unfolding in_range
is-small z h = leb-true _ 2000000000 h

held_by : (values : List ℤ) (corners : List ℕ) (used first count : ℕ) → first + 3 * count ≤ length corners
    → ((i : ℕ) → i < count → Vertex 4 values used (get_or corners (first + 3 * i) 0)) → ControlsLent values corners first 0 count
unfolding control_at
held_by values corners used first count w f = record {
  within = w;
  named = λ i z l. (f i l).some;
  there = λ i z l. (f i l).lent;
  small = λ i k z l m. is-small _ ((f i l).small k m);
}

module _ (used : Used) (t : Tables) (kind : ℕ) (run : CornerRun) (c : Corners used t kind run) where
  pub held-plane : kind ≡ 5 → ControlsLent t.vertices.vp t.elements.corners run.first 0 run.count
  held-plane e = held_by t.vertices.vp t.elements.corners used.vp run.first run.count c.lent-run (λ i l. corner-control used t kind run c i l e)

  pub held-space : (kind ≡ 5 → ⊥) → ControlsLent t.vertices.v t.elements.corners run.first 0 run.count
  held-space f = held_by t.vertices.v t.elements.corners used.v run.first run.count c.lent-run (λ i l. corner-vertex used t kind run c i l f)

  pub held-either : ControlsLent (cond (eqb kind 5) t.vertices.vp t.vertices.v) t.elements.corners run.first 0 run.count
  held-either = ⊎_elim (λ e. rw e (held-plane (eqb-true kind 5 e))) (λ e. rw e (held-space (λ k. never (sym e ∙ eq-eqb kind 5 k)))) (test (eqb kind 5))

knots-of : (type n p : ℕ) → enough (basis_of type) n p ≡ true → eqb type 2 ≡ true → n + 1 ≤ p
knots-of type n p h e =
    let k : leb (n + 1) (p - n - 1) ≡ true = subst (λ (q : ℕ). enough (basis_of q) n p ≡ true) (eqb-true type 2 e) h in
    omega (arith, leb-true (n + 1) (p - n - 1) k)

module _ (l : List ℤ) (first p : ℕ) (h : first + p ≤ length l) where
  part_length : length (take p (drop first l)) ≡ p
  part_length = length-take-le p (drop first l) (omega (arith, length-drop first l))

  part_small : ((k : ℕ) → k < p → in_range (get_or l (first + k) (pos 0)) ≡ true) → (i : ℕ) → i < length (take p (drop first l)) → InRange (at (take p (drop first l)) i)
  part_small f i m =
      let k : i < p = omega (arith, part_length) in
      rw (get_or-take p (drop first l) i (pos 0) k, get_or-drop first l i (pos 0)) (is-small (get_or l (first + i) (pos 0)) (f i k))

  directed : (type n : ℕ) (s e : ℤ) → (type ≡ 1) ⊎ (type ≡ 2) → n ≤ 20 → 2 ≤ p → ((k : ℕ) → k < p → in_range (get_or l (first + k) (pos 0)) ≡ true)
      → enough (basis_of type) n p ≡ true → in_order (basis_of type) n (take p (drop first l)) s e ≡ true → Directed l first type n p s e
  directed type n s e c few many f g o = record {
    sized = record { few = few; many = many; knots = knots-of type n p g };
    ranged = ranged-of n (take p (drop first l)) s e (omega (arith, part_length)) few (part_small f) type p c part_length g o;
  }

-- the two types that are sampled
pub types : (rational type : ℕ) → carried rational type ≡ true → (type ≡ 1) ⊎ (type ≡ 2)
types rational type h = go (eqb type 1) refl (and_right (eqb rational 0) (eqb type 1 || eqb type 2) h)
  where
    go : (q : Bool) → eqb type 1 ≡ q → (q || eqb type 2) ≡ true → (type ≡ 1) ⊎ (type ≡ 2)
    go true e k = inl (eqb-true type 1 e)
    go false e k = inr (eqb-true type 2 k)

-- the type's count of controls is that of the rules
pub same-controls : (type n p : ℕ) → (type ≡ 1) ⊎ (type ≡ 2) → controls (basis_of type) n p ≡ (body_direction type n p).controls
same-controls type n p (inl e) = rw e
same-controls type n p (inr e) = rw e

-- no refusal up to 18
pub record Granted (surface : Bool) (used : Used) (t : Tables) (number : ℕ) : Type 0 where
  pub some : 1 ≤ number
  pub lent : 9 * number ≤ length t.elements.elements
  pub kind : wanted surface (element_of t number).kind ≡ true
  pub obeyed : obeys used t (curves_before t (number - 1)) (number - 1) ≡ true
  pub type : ((body_of t number).basis ≡ 1) ⊎ ((body_of t number).basis ≡ 2)

five : (a b c d e : Bool)
    → ◌≡◌ {A = Option Reason} (cond a (cond b (cond c (cond d (cond e None (Some NotSampled)) (Some BrokenRecord)) (Some NoSuchElement)) (Some BrokenRecord)) (Some NoSuchElement)) None
    → (a ≡ true) × (b ≡ true) × (c ≡ true) × (d ≡ true) × (e ≡ true)
five true true true true true h = (refl, refl, refl, refl, refl)
five true true true true false h = cc
five true true true false e h = cc
five true true false d e h = cc
five true false c d e h = cc
five false b c d e h = cc

pub granted : (surface : Bool) (used : Used) (t : Tables) (number : ℕ) → refusal_of surface used t number ≡ None → Granted surface used t number
unfolding refusal_of
granted surface used t number h =
    let b = body_of t number in
    let f = five (leb 1 number && leb number used.elements) (leb (9 * number) (length t.elements.elements)) (wanted surface (element_of t number).kind)
    (obeys used t (curves_before t (number - 1)) (number - 1)) (carried b.rational b.basis) h in
    record {
      some = leb-true 1 number (and_left (leb 1 number) (leb number used.elements) f.0);
      lent = leb-true (9 * number) (length t.elements.elements) f.1;
      kind = f.2;
      obeyed = f.3;
      type = types b.rational b.basis f.4;
    }

pub curve-kinds : (kind : ℕ) → wanted false kind ≡ true → (4 ≤ kind) × (kind ≡ 6 → ⊥)
curve-kinds kind h = go (eqb kind 4) refl h
  where
    go : (q : Bool) → eqb kind 4 ≡ q → (q || eqb kind 5) ≡ true → (4 ≤ kind) × (kind ≡ 6 → ⊥)
    go true e k = let s = eqb-true kind 4 e in (omega arith, λ n. omega arith)
    go false e k = let s = eqb-true kind 5 k in (omega arith, λ n. omega arith)

pub curved : (used : Used) (t : Tables) (number : ℕ) → Granted false used t number → Curved t (element_of t number) (body_of t number)
unfolding curve_count
curved used t number g =
    let i = number - 1 in
    let e = element_of t number in
    let b = body_of t number in
    let n = curves_before t i in
    let o = obeys-facts used t n i g.obeyed in
    let k = curve-kinds e.kind g.kind in
    let h = body-of o k.0 in
    let r = recorded used t n e.kind e.corners.count e.body h in
    let c = curve-of used t n e.kind e.corners.count e.body h k.1 in
    let enough-there = curve-enough (basis_of b.basis) b.degree_u b.count_u e.corners.count c.counted in
    let same = eqb-true e.corners.count (controls (basis_of b.basis) b.degree_u b.count_u) (and_right (enough (basis_of b.basis) b.degree_u b.count_u) _ c.counted)
    ∙ same-controls b.basis b.degree_u b.count_u g.type in
    record {
      run = r.run.lent-ones;
      counted = same;
      held = subst (λ (q : ℕ). ControlsLent (cond (eqb e.kind 5) t.vertices.vp t.vertices.v) t.elements.corners e.corners.first 0 q) same (held-either used t e.kind e.corners o.corners);
      along = directed t.bodies.parameters b.first_parameter b.count_u (omega (arith, r.run.lent-ones)) b.basis b.degree_u b.start_u b.end_u g.type
          r.typed.degree-u.most r.run.along-u (λ j l. r.run.small-ones j (omega arith)) enough-there c.ordered;
    }

pub surfaced : (used : Used) (t : Tables) (number : ℕ) → Granted true used t number → Surfaced t (element_of t number) (body_of t number)
unfolding surface_count
surfaced used t number g =
    let i = number - 1 in
    let e = element_of t number in
    let b = body_of t number in
    let n = curves_before t i in
    let o = obeys-facts used t n i g.obeyed in
    let six = eqb-true e.kind 6 g.kind in
    let four : 4 ≤ e.kind = omega (arith, six) in
    let h = body-of o four in
    let r = recorded used t n e.kind e.corners.count e.body h in
    let c = surface-of used t n e.kind e.corners.count e.body h six in
    let yes = eq-eqb e.kind 6 six in
    let degree = degree-facts b.basis b.degree_v (rw yes at r.typed.degree-v) in
    let enough-u = surface-enough-u (basis_of b.basis) b.degree_u b.count_u b.degree_v b.count_v e.corners.count c.counted in
    let enough-v = surface-enough-v (basis_of b.basis) b.degree_u b.count_u b.degree_v b.count_v e.corners.count c.counted in
    let same = eqb-true e.corners.count (controls (basis_of b.basis) b.degree_u b.count_u * controls (basis_of b.basis) b.degree_v b.count_v)
    (and_right (enough (basis_of b.basis) b.degree_u b.count_u && enough (basis_of b.basis) b.degree_v b.count_v) _ c.counted)
    ∙ ap₂ (λ (k l : ℕ). k * l) (same-controls b.basis b.degree_u b.count_u g.type) (same-controls b.basis b.degree_v b.count_v g.type) in
    record {
      kind = six;
      run = r.run.lent-ones;
      counted = same;
      held = subst (λ (q : ℕ). ControlsLent t.vertices.v t.elements.corners e.corners.first 0 q) same (held-space used t e.kind e.corners o.corners (λ k. omega (arith, six)));
      along-u = directed t.bodies.parameters b.first_parameter b.count_u (omega (arith, r.run.lent-ones)) b.basis b.degree_u b.start_u b.end_u g.type
          r.typed.degree-u.most r.run.along-u (λ j l. r.run.small-ones j (omega arith)) enough-u c.along-u;
      along-v = directed t.bodies.parameters (b.first_parameter + b.count_u) b.count_v (omega (arith, r.run.lent-ones)) b.basis b.degree_v b.start_v b.end_v g.type
          degree.most (leb-true 2 b.count_v (rw yes at r.run.along-v))
          (λ j l. let k : b.first_parameter + (b.count_u + j) ≡ b.first_parameter + b.count_u + j = omega arith in
          subst (λ (q : ℕ). in_range (get_or t.bodies.parameters q (pos 0)) ≡ true) k (r.run.small-ones (b.count_u + j) (omega arith))) enough-v c.along-v;
    }
