-- The pass over the elements: what holds after the first i of them.
use Prim.Native.Nat.{ℕ, ◌+◌, ◌*◌, ◌<◌, ◌≤◌}
use native.Mathlib.Omega.{arith}
use native.Mathlib.Numerals.{add-one}
use mathlib.Core.Path.{◌≡◌, refl, sym, ap, subst⁻¹, ◌∙◌}
use mathlib.Core.Bool.{Bool, true, false, cond, ◌&&◌}
use lib.Dec.{eqb}
use lib.ListN.{length}
use Rattle.lists.proofs.Tests.{and_first, and_second}
use Rattle.tables.specs.Tables.{Tables}
use Rattle.tables.specs.Records.{element_at}
use Rattle.tables.specs.Asking.{asked_body}
use Rattle.tables.specs.declared.Used.{Used}
use Rattle.tables.specs.declared.Element.{Element}
use Rattle.tables.specs.declared.Body.{Body}
use Rattle.record_rules.specs.Numbers.{all_below}
use Rattle.record_rules.specs.Rules.{obeys, curves_before, records_obey}
use Rattle.record_rules.proofs.Below.{below_more, below_fails}
use Rattle.record_rules.proofs.OneBody.{curves-more}
use Rattle.record_rules.proofs.Records.{records-are}
use Rattle.table_rules.specs.Whole.{Ends, no_ends, ends_after, ends_before, element_follows, follows_at, ends_used, elements_obey, runs_follow}
use Rattle.table_rules.proofs.OneElement.{Within, follows-are, ends-are, ends-within}

module _ (used : Used) (t : Tables) where
  abbrev pub obeys_at : ℕ → Bool
  obeys_at i = obeys used t (curves_before t i) i

  pub record Passed (i curves : ℕ) (ends : Ends) : Type 0 where
    pub most : i ≤ used.elements
    pub few : curves ≤ i
    pub counted : curves ≡ curves_before t i
    pub ends-are : ends ≡ ends_before t i
    pub within : Within used ends
    pub obeyed : all_below i obeys_at ≡ true
    pub followed : all_below i (follows_at t) ≡ true

  pub starts : Passed 0 0 no_ends
  starts =
      record {
        most = omega arith;
        few = omega arith;
        counted = refl;
        ends-are = refl;
        within = record { corners = omega arith; bodies = omega arith; parameters = omega arith; parts = omega arith };
        obeyed = refl;
        followed = refl;
      }

  -- every element is passed
  pub ends_with : {i curves : ℕ} {ends : Ends} → Passed i curves ends → used.elements ≤ i → ends_used used ends ≡ (elements_obey used t && runs_follow used t)
  unfolding elements_obey runs_follow
  ends_with {i} {curves} {ends} p h =
      let m = p.most in
      let e : used.elements ≡ i = omega arith in
      let obeyed : all_below used.elements obeys_at ≡ true = subst⁻¹ (λ (k : ℕ). all_below k obeys_at ≡ true) e p.obeyed in
      let followed : all_below used.elements (follows_at t) ≡ true = subst⁻¹ (λ (k : ℕ). all_below k (follows_at t) ≡ true) e p.followed in
      let to : ends ≡ ends_before t used.elements = p.ends-are ∙ ap (ends_before t) (sym e) in
      rw (obeyed, followed, to)

  -- the element at i, with its body
  module _ {i curves : ℕ} {ends : Ends} (p : Passed i curves ends) (more : i < used.elements) (lent : 9 * used.elements ≤ length t.elements.elements)
      (e : Element) (b : Body) (e-is : e ≡ element_at t i) (b-is : b ≡ asked_body used t.bodies.bodies t.bodies.ranges e.body) where
    obeys-here : records_obey used t curves e b ≡ obeys_at i
    obeys-here = rw (b-is, e-is, p.counted) (records-are used t (curves_before t i) i (omega arith))

    pub breaks : records_obey used t curves e b ≡ false → (elements_obey used t && runs_follow used t) ≡ false
    unfolding elements_obey
    breaks h = and_first _ (below_fails obeys_at used.elements i more (sym obeys-here ∙ h))

    module _ (h : records_obey used t curves e b ≡ true) where
      obeyed-here : obeys_at i ≡ true
      obeyed-here = sym obeys-here ∙ h

      follows-here : element_follows ends e b ≡ follows_at t i
      follows-here = rw (b-is, e-is, p.ends-are) (follows-are used t (curves_before t i) i obeyed-here (ends_before t i))

      pub leaves-gap : element_follows ends e b ≡ false → (elements_obey used t && runs_follow used t) ≡ false
      unfolding runs_follow
      leaves-gap f = and_second (elements_obey used t) (and_first _ (below_fails (follows_at t) used.elements i more (sym follows-here ∙ f)))

      module _ (f : element_follows ends e b ≡ true) where
        followed-here : follows_at t i ≡ true
        followed-here = sym follows-here ∙ f

        ends-here : ends_after ends e b ≡ ends_before t (i + 1)
        ends-here = rw (add-one, b-is, e-is, p.ends-are) (ends-are used t (curves_before t i) i obeyed-here (ends_before t i) followed-here)

        pub goes_on : {n : Ends} {c : ℕ} → n ≡ ends_after ends e b → c ≡ cond (eqb e.kind 5) 1 0 → c ≤ 1 → Passed (i + 1) (curves + c) n
        goes_on {n} {c} n-is c-is one =
            let q = p.few in
            let to : n ≡ ends_before t (i + 1) = n-is ∙ ends-here in
            record {
              most = omega arith;
              few = omega arith;
              counted = curves-more t.elements.elements i curves c e.kind p.counted (ap (λ (x : Element). x.kind) e-is) c-is;
              ends-are = to;
              within = rw (to, add-one) (ends-within used t (curves_before t i) i obeyed-here (ends_before t i) followed-here (rw p.ends-are at p.within));
              obeyed = below_more obeys_at i p.obeyed obeyed-here;
              followed = below_more (follows_at t) i p.followed followed-here;
            }
