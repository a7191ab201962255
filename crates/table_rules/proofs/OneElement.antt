-- One element of the pass: its body is the next one, and its runs end among the used entries.
use Prim.Native.Nat.{ℕ, suc, ◌+◌, ◌*◌, ◌-◌, ◌≤◌}
use native.Mathlib.Omega.{arith}
use mathlib.Core.Path.{◌≡◌, sym, ap, subst, ◌∙◌}
use mathlib.Core.Bool.{Bool, true, false, cond, ◌&&◌}
use borrow.Author.Tests.{leb-false, eqb-true, eqb-false}
use lib.Dec.{eqb}
use mathlib.Core.Logic.{◌⊎◌, inl, inr}
use Rattle.lists.proofs.Tests.{and_left, and_right, test}
use Rattle.tables.specs.Tables.{Tables}
use Rattle.tables.specs.Records.{element_at, body_at}
use Rattle.tables.specs.Asking.{asked_body}
use Rattle.tables.specs.declared.Used.{Used}
use Rattle.tables.specs.declared.Element.{Element}
use Rattle.tables.specs.declared.Body.{Body}
use Rattle.record_rules.specs.Bodies.{body_obeys}
use Rattle.record_rules.specs.Rules.{obeys}
use Rattle.record_rules.proofs.Bodied.{body_is, body-there}
use Rattle.record_rules.proofs.Element.{Obeys, obeys-facts, body-of, recorded, parts-used}
use Rattle.table_rules.specs.Whole.{Ends, is_plain, ends_after, body_follows, element_follows}

-- every end is among the used entries
pub record Within (used : Used) (n : Ends) : Type 0 where
  pub corners : n.corners ≤ used.corners
  pub bodies : n.bodies ≤ used.bodies
  pub parameters : n.parameters ≤ used.parameters
  pub parts : n.parts ≤ used.loops

module _ (used : Used) (t : Tables) (curves i : ℕ) where
  abbrev e : Element
  e = element_at t i

  -- the element's body as it is asked for
  abbrev b : Body
  b = asked_body used t.bodies.bodies t.bodies.ranges e.body

  module _ (h : obeys used t curves i ≡ true) (n : Ends) where
    abbrev next : Body
    next = body_at t n.bodies

    abbrev facts : Obeys used t curves i
    facts = obeys-facts used t curves i h

    bodied : is_plain e ≡ false → body_obeys used t curves e.kind e.corners.count e.body ≡ true
    bodied k = body-of facts (leb-false e.kind 3 k)

    own_is : e.body ≡ suc n.bodies → body_at t (e.body - 1) ≡ next
    own_is m = ap (body_at t) (let q : e.body - 1 ≡ n.bodies = omega arith in q)

    body-next : is_plain e ≡ false → e.body ≡ suc n.bodies → b ≡ next
    body-next k m =
        body-there used t curves e.kind e.corners.count e.body (sym (body_is used t curves e.kind e.corners.count e.body) ∙ bodied k)
        ∙ own_is m

    pub follows-are : element_follows n e b ≡ element_follows n e next
    follows-are = go (test (is_plain e)) (test (eqb e.body (suc n.bodies)))
      where
        go : (is_plain e ≡ true) ⊎ (is_plain e ≡ false) → (eqb e.body (suc n.bodies) ≡ true) ⊎ (eqb e.body (suc n.bodies) ≡ false)
            → element_follows n e b ≡ element_follows n e next
        go (inl k) q = rw k
        go (inr k) (inl m) = ap (λ (x : Body). element_follows n e x) (body-next k (eqb-true _ _ m))
        go (inr k) (inr m) = rw (k, m)

    module _ (f : element_follows n e next ≡ true) where
      first-is : e.corners.first ≡ n.corners
      first-is = eqb-true _ _ (and_left (eqb e.corners.first n.corners) _ f)

      rest : is_plain e ≡ false → (eqb e.body (suc n.bodies) && body_follows n next) ≡ true
      rest k = rw k at (and_right (eqb e.corners.first n.corners) _ f)

      number_is : is_plain e ≡ false → e.body ≡ suc n.bodies
      number_is k = eqb-true _ _ (and_left (eqb e.body (suc n.bodies)) _ (rest k))

      pub ends-are : ends_after n e b ≡ ends_after n e next
      ends-are = go (test (is_plain e))
        where
          go : (is_plain e ≡ true) ⊎ (is_plain e ≡ false) → ends_after n e b ≡ ends_after n e next
          go (inl k) = rw k
          go (inr k) = ap (λ (x : Body). ends_after n e x) (body-next k (number_is k))

      abbrev parameters-test : Bool
      parameters-test = eqb next.first_parameter n.parameters

      abbrev parts-test : Bool
      parts-test = cond (eqb next.loops 0) true (eqb next.first_loop n.parts)

      both : is_plain e ≡ false → (parameters-test && parts-test) ≡ true
      both k = and_right (eqb e.body (suc n.bodies)) (parameters-test && parts-test) (rest k)

      corners-end : n.corners + 3 * e.corners.count ≤ used.corners
      corners-end = omega (arith, first-is, facts.corners.used-run)

      parameters-end : is_plain e ≡ false → n.parameters + (next.count_u + next.count_v) ≤ used.parameters
      parameters-end k =
          let first = eqb-true next.first_parameter n.parameters (and_left parameters-test parts-test (both k)) in
          let run = (recorded used t curves e.kind e.corners.count e.body (bodied k)).run.used-ones in
          omega (arith, first, subst (λ (x : Body). x.first_parameter + (x.count_u + x.count_v) ≤ used.parameters) (own_is (number_is k)) run)

      parts-end : is_plain e ≡ false → n.parts ≤ used.loops → n.parts + next.loops ≤ used.loops
      parts-end k w = go (test (eqb next.loops 0))
        where
          run : (next.loops ≡ 0 → ⊥) → next.first_loop + next.loops ≤ used.loops
          run = subst (λ (x : Body). (x.loops ≡ 0 → ⊥) → x.first_loop + x.loops ≤ used.loops) (own_is (number_is k)) (parts-used used t curves e.kind e.corners.count e.body (bodied k))

          go : (eqb next.loops 0 ≡ true) ⊎ (eqb next.loops 0 ≡ false) → n.parts + next.loops ≤ used.loops
          go (inl z) = omega (arith, eqb-true next.loops 0 z, w)
          go (inr z) =
              let first = eqb-true next.first_loop n.parts (rw z at (and_right parameters-test parts-test (both k))) in
              omega (arith, first, run (eqb-false next.loops 0 z))

      pub ends-within : Within used n → Within used (ends_after n e next)
      ends-within w = go (test (is_plain e))
        where
          go : (is_plain e ≡ true) ⊎ (is_plain e ≡ false) → Within used (ends_after n e next)
          go (inl k) = rw k record { corners = corners-end; bodies = w.bodies; parameters = w.parameters; parts = w.parts }
          go (inr k) =
              rw k
              record {
                corners = corners-end;
                bodies = omega (arith, number_is k, (recorded used t curves e.kind e.corners.count e.body (bodied k)).used-one);
                parameters = parameters-end k;
                parts = parts-end k w.parts;
              }
