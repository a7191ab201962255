-- 17, 15 and 18 by the tests that lead to each.
use mathlib.Core.Path.{◌≡◌, refl, sym, ap, ◌∙◌}
use mathlib.Core.Logic.{◌⊎◌, inl, inr}
use mathlib.Core.Bool.{Bool, true, false, cond, ◌||◌}
use Prim.Native.Nat.{ℕ, ◌+◌, ◌*◌, ◌-◌, ◌≤◌, ◌<◌}
use native.Mathlib.Omega.{arith}
use borrow.Author.Tests.{le-leb, lt-leb, eqb-true}
use lib.Dec.{leb, eqb}
use lib.ListN.{length}
use Rattle.lists.proofs.Tests.{and_second}
use Rattle.tables.specs.Tables.{Tables}
use Rattle.tables.specs.Asking as Asking
use Rattle.tables.specs.declared.Used.{Used}
use Rattle.tables.specs.declared.Element.{Element}
use Rattle.tables.specs.declared.Body.{Body}
use Rattle.record_rules.specs.Rules.{obeys, curves_among, curves_before, records_obey}
use Rattle.record_rules.proofs.Records.{records-counted, records-are}
use Rattle.record_rules.proofs.Bodied.{body_is, body-there}
use Rattle.record_rules.proofs.Element.{obeys-facts, body-of}
use Rattle.sampler.specs.Answers.{wanted, carried, element_of, body_of, refusal_of, refused_or}
use Rattle.sampler.specs.Sampling.{lookup_of}
use Rattle.sampler.specs.declared.Found.{Found}
use Rattle.refusals.specs.declared.Reason.{Reason}
use Rattle.refusals.specs.declared.Reason.TheVariants.{BrokenRecord, NoSuchElement, NotSampled}
use Rattle.std.specs.Prelude.{Option, Some, None, Result, Ok, Err}

pub kinds : (surface : Bool) (kind : ℕ) → wanted surface kind ≡ true → 4 ≤ kind
kinds true kind h = let s = eqb-true kind 6 h in omega arith
kinds false kind h = go (eqb kind 4) refl h
  where
    go : (q : Bool) → eqb kind 4 ≡ q → (q || eqb kind 5) ≡ true → 4 ≤ kind
    go true e k = let s = eqb-true kind 4 e in omega arith
    go false e k = let s = eqb-true kind 5 k in omega arith

module _ (surface : Bool) (used : Used) (t : Tables) (number : ℕ) where
  pub none-such : (number < 1) ⊎ (used.elements < number) → refusal_of surface used t number ≡ Some NoSuchElement
  unfolding refusal_of
  none-such (inl h) = rw (lt-leb 1 number h)
  none-such (inr h) = rw (and_second (leb 1 number) (lt-leb number used.elements h))

  module _ (some : 1 ≤ number) where
    module _ (in_use : number ≤ used.elements) where
      pub past-lent : length t.elements.elements < 9 * number → refusal_of surface used t number ≡ Some BrokenRecord
      unfolding refusal_of
      past-lent h = rw (le-leb 1 number some, le-leb number used.elements in_use, lt-leb (9 * number) (length t.elements.elements) h)

      module _ (lent : 9 * number ≤ length t.elements.elements) where
        pub other-kind : wanted surface (element_of t number).kind ≡ false → refusal_of surface used t number ≡ Some NoSuchElement
        unfolding refusal_of
        other-kind h = rw (le-leb 1 number some, le-leb number used.elements in_use, le-leb (9 * number) (length t.elements.elements) lent, h)

        module _ (kind : wanted surface (element_of t number).kind ≡ true) where
          pub broken : obeys used t (curves_before t (number - 1)) (number - 1) ≡ false → refusal_of surface used t number ≡ Some BrokenRecord
          unfolding refusal_of
          broken h = rw (le-leb 1 number some, le-leb number used.elements in_use, le-leb (9 * number) (length t.elements.elements) lent, kind, h)

          module _ (obeyed : obeys used t (curves_before t (number - 1)) (number - 1) ≡ true) where
            pub not_carried : carried (body_of t number).rational (body_of t number).basis ≡ false → refusal_of surface used t number ≡ Some NotSampled
            unfolding refusal_of
            not_carried h = rw (le-leb 1 number some, le-leb number used.elements in_use, le-leb (9 * number) (length t.elements.elements) lent, kind, obeyed, h)

            pub none-given : carried (body_of t number).rational (body_of t number).basis ≡ true → refusal_of surface used t number ≡ None
            unfolding refusal_of
            none-given h = rw (le-leb 1 number some, le-leb number used.elements in_use, le-leb (9 * number) (length t.elements.elements) lent, kind, obeyed, h)

-- ---- what is looked up
pub record Looked (surface : Bool) (used : Used) (t : Tables) (number : ℕ) (e : Element) (b : Body) : Type 0 where
  pub given : refusal_of surface used t number ≡ None
  pub element-is : e ≡ element_of t number
  pub body_is : b ≡ body_of t number

module _ (surface : Bool) (used : Used) (t : Tables) (number : ℕ) where
  pub refuses : {r : Reason} → refusal_of surface used t number ≡ Some r → Err r ≡ lookup_of surface used t number
  unfolding lookup_of
  refuses h = rw h

  pub finds : {e : Element} {b : Body} → refusal_of surface used t number ≡ None → e ≡ element_of t number → b ≡ body_of t number
      → Ok (record { element = e; body = b }) ≡ lookup_of surface used t number
  unfolding lookup_of
  finds g h k = rw (g, h, k)

  pub missed : {r : Reason} → lookup_of surface used t number ≡ Err r → refusal_of surface used t number ≡ Some r
  unfolding lookup_of
  missed {r} = go (refusal_of surface used t number)
    where
      go : (o : Option Reason) → ◌≡◌ {A = Result Found Reason} (refused_or o Err (Ok (record { element = element_of t number; body = body_of t number }))) (Err r) → o ≡ Some r
      go None h = cc
      go (Some q) h = cc

  pub looked : {f : Found} → lookup_of surface used t number ≡ Ok f → Looked surface used t number f.element f.body
  unfolding lookup_of
  looked {f} = go (refusal_of surface used t number) refl
    where
      go : (o : Option Reason) → refusal_of surface used t number ≡ o
          → ◌≡◌ {A = Result Found Reason} (refused_or o Err (Ok (record { element = element_of t number; body = body_of t number }))) (Ok f) → Looked surface used t number f.element f.body
      go None z h =
          let e : f ≡ record { element = element_of t number; body = body_of t number } = cc in
          record { given = z; element-is = ap (λ (x : Found). x.element) e; body_is = ap (λ (x : Found). x.body) e }
      go (Some q) z h = absurd cc

  -- the records as they are read, held against the rules
  pub held-against : 9 * (number - 1) + 9 ≤ length t.elements.elements → {r : Bool} {curves : ℕ} {e : Element} {b : Body} → e ≡ element_of t number
      → b ≡ Asking.asked_body used t.bodies.bodies t.bodies.ranges e.body → curves ≡ cond (eqb b.loops 0) 0 (curves_among t.elements.elements (number - 1))
      → r ≡ records_obey used t curves e b
      → r ≡ obeys used t (curves_before t (number - 1)) (number - 1)
  held-against parts {r} {curves} {e} {b} e-is b-is c-is r-is =
      let n = curves_before t (number - 1) in
      r-is ∙ ap (λ (k : ℕ). records_obey used t k e b) c-is ∙ records-counted used t n e b
      ∙ ap (λ (x : Body). records_obey used t n e x) b-is
      ∙ ap (λ (x : Element). records_obey used t n x (Asking.asked_body used t.bodies.bodies t.bodies.ranges x.body)) e-is
      ∙ records-are used t n (number - 1) parts

  -- a body that obeys is the element's own
  pub body-found : wanted surface (element_of t number).kind ≡ true → obeys used t (curves_before t (number - 1)) (number - 1) ≡ true
      → Asking.asked_body used t.bodies.bodies t.bodies.ranges (element_of t number).body ≡ body_of t number
  body-found kind obeyed =
      let e = element_of t number in
      let n = curves_before t (number - 1) in
      body-there used t n e.kind e.corners.count e.body
      (sym (body_is used t n e.kind e.corners.count e.body) ∙ body-of (obeys-facts used t n (number - 1) obeyed) (kinds surface e.kind kind))
