-- The runs follow on after a sweep as they did: by the elements before one.
use Prim.Native.Nat.{ℕ, zero, suc, ◌≤◌, ◌<◌}
use mathlib.Core.Path.{◌≡◌, refl, ap, ◌∙◌}
use mathlib.Core.Bool.{true, false, cond, ◌&&◌}
use mathlib.Core.Logic.{◌⊎◌, inl, inr}
use native.Mathlib.Omega.{arith}
use borrow.Author.Tests.{eqb-true}
use lib.Dec.{eqb}
use Rattle.lists.proofs.Tests.{test, and_left, and_right}
use Rattle.tables.specs.Tables.{Tables}
use Rattle.tables.specs.Records.{element_at, body_at}
use Rattle.tables.specs.declared.Used.{Used}
use Rattle.tables.specs.declared.Element.{Element}
use Rattle.tables.specs.declared.Body.{Body}
use Rattle.record_rules.specs.Rules.{curves_before}
use Rattle.table_rules.specs.Whole.{Ends, is_plain, ends_after, ends_before, body_follows, element_follows, runs_follow}
use Rattle.sweep.specs.Swept.{swept_used, swept_tables}
use Rattle.sweep.proofs.Whole.{runs_of}
use Rattle.swept_files.proofs.Others.{elements_same, bodies-same}
use Rattle.swept_files.proofs.ElementParts.{element-parts, obeys-element}
use Rattle.swept_files.proofs.BodyAfter.{body-held}
use Rattle.swept_files.proofs.Counted.{same-counts}
use Rattle.swept_files.proofs.Standing.{Standing}

-- p, l and f do not look at a body
plain-ends : (n : Ends) (e : Element) (b c : Body) → is_plain e ≡ true → ends_after n e b ≡ ends_after n e c
plain-ends n e b c h = rw h refl

plain_follows : (n : Ends) (e : Element) (b c : Body) → is_plain e ≡ true → element_follows n e b ≡ element_follows n e c
plain_follows n e b c h = rw h refl

module _ (used : Used) (t : Tables) (s : Standing used t) where
  abbrev W : Tables
  W = swept_tables used t

  -- the body of any other is the next one, and used
  next-body : (i : ℕ) → i < used.elements → is_plain (element_at t i) ≡ false → (ends_before t i).bodies < used.bodies
  next-body i h p =
      let e = element_at t i in
      let n = ends_before t i in
      let g = body_follows n (body_at t n.bodies) in
      let c = curves_before t i in
      let f = rw p at (and_right (eqb e.corners.first n.corners) (cond (is_plain e) true (eqb e.body (suc n.bodies) && g)) (s.follows i h)) in
      let k = eqb-true e.body (suc n.bodies) (and_left (eqb e.body (suc n.bodies)) g f) in
      let b = body-held used t s.lent e.body c e.kind e.corners.count (rw p at (element-parts used t c e (obeys-element used t c i (s.obeys i h))).body) in
      let m = b.used-one in
      omega arith

  -- what looks at the ends, at an element and at its next body
  step_same : {X : Type 0} (g : Ends → Element → Body → X) → ((n : Ends) (e : Element) (b c : Body) → is_plain e ≡ true → g n e b ≡ g n e c)
      → (i : ℕ) → i < used.elements → ends_before W i ≡ ends_before t i
      → g (ends_before W i) (element_at W i) (body_at W (ends_before W i).bodies) ≡ g (ends_before t i) (element_at t i) (body_at t (ends_before t i).bodies)
  step_same {X} g plain i h n =
      ap (λ (x : Ends). g x (element_at W i) (body_at W x.bodies)) n
      ∙ ap (λ (e : Element). g (ends_before t i) e (body_at W (ends_before t i).bodies)) (elements_same used t s.lent i h)
      ∙ go (test (is_plain (element_at t i)))
    where
      go : (is_plain (element_at t i) ≡ true) ⊎ (is_plain (element_at t i) ≡ false)
          → g (ends_before t i) (element_at t i) (body_at W (ends_before t i).bodies) ≡ g (ends_before t i) (element_at t i) (body_at t (ends_before t i).bodies)
      go (inl p) = plain (ends_before t i) (element_at t i) (body_at W (ends_before t i).bodies) (body_at t (ends_before t i).bodies) p
      go (inr p) = ap (g (ends_before t i) (element_at t i)) (bodies-same used t s.lent (ends_before t i).bodies (next-body i h p))

  ends_same : (i : ℕ) → i ≤ used.elements → ends_before W i ≡ ends_before t i
  ends_same zero h = refl
  ends_same (suc i) h = step_same ends_after plain-ends i h (ends_same i (omega arith))

  pub runs_after : runs_follow (swept_used used t) W ≡ true
  runs_after =
      let c = same-counts used t in
      runs_of (swept_used used t) W
      (λ i l. (let h : i < used.elements = (let q = c.elements in omega arith) in step_same element_follows plain_follows i h (ends_same i (omega arith)) ∙ s.follows i h))
      (rw (c.corners, c.bodies, c.parameters, c.loops, c.elements, ends_same used.elements (omega arith)) s.ends)
