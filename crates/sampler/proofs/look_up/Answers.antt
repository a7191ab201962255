-- Each return by its law, under the tests that led there.
use mathlib.Core.Path.{◌≡◌, sym, ap, ◌∙◌}
use mathlib.Core.Bool.{true}
use mathlib.Core.Logic.{inl, inr}
use Prim.Native.Nat.{◌+◌, ◌*◌, ◌-◌, ◌≤◌}
use native.Mathlib.Omega.{arith}
use borrow.Author.Tests.{leb-true, leb-false}
use lib.ListN.{length}
use Rattle.tables.specs.Asking as Asking
use Rattle.tables.specs.Lent.{lent}
use Rattle.tables.specs.declared.Element.{Element}
use Rattle.record_rules.specs.Rules.{obeys, curves_before}
use Rattle.sampler.specs.Answers.{wanted, element_of, body_of}
use Rattle.sampler.proofs.Refusals.{none-such, past-lent, other-kind, broken, not_carried, none-given, refuses, finds, held-against, body-found}
use Rattle.sampler.proofs.look_up.Goals as goal
use Rattle.sampler.proofs.look_up.Goals.{then-element-lt1-via-then-element-lt1, then-element-lt1-via-else-element-lt1+then-used-element, Else-not-element_fits, Else-not-is_wanted, Else-not-records_obey}

pub returns-then-element-lt1 : goal.returns-then-element-lt1
returns-then-element-lt1 c =
    let a = c.args in
    refuses a.surface a.used (lent a.t.now) a.element (none-such a.surface a.used (lent a.t.now) a.element
    (elim c.then-element-lt1.branch [ then-element-lt1-via-then-element-lt1 w ↦ inl w.if-element-lt1.true | then-element-lt1-via-else-element-lt1+then-used-element w ↦ inr w.if-used-element.true ]))

pub returns-then-not-element_fits : goal.returns-then-not-element_fits
returns-then-not-element_fits c =
    let a = c.args in
    let past = leb-false (9 * (a.element - 1) + 9) (length a.t.now.elements.now) (sym c.if-not-element_fits.ensures) in
    refuses a.surface a.used (lent a.t.now) a.element (past-lent a.surface a.used (lent a.t.now) a.element (omega arith) (omega arith) (omega (arith, past)))

pub lent_element-element-requires : goal.lent_element-element-requires
lent_element-element-requires c = leb-true _ _ (sym c.if-not-element_fits.ensures)

-- the element stands whole within the lent entries
module _ (c : Else-not-element_fits) where
  parts : 9 * (c.args.element - 1) + 9 ≤ length c.args.t.now.elements.now
  parts = leb-true _ _ (sym c.if-not-element_fits.ensures)

  some : 1 ≤ c.args.element
  some = omega arith

  held : 9 * c.args.element ≤ length c.args.t.now.elements.now
  held = omega (arith, some, parts)

pub returns-then-not-is_wanted : goal.returns-then-not-is_wanted
returns-then-not-is_wanted c =
    let a = c.args in
    let k = (goal.at.returns-then-not-is_wanted c).Else-not-element_fits in
    refuses a.surface a.used (lent a.t.now) a.element
    (other-kind a.surface a.used (lent a.t.now) a.element (some k) (omega arith) (held k) (rw c.lent_element-element.ensures at (sym c.if-not-is_wanted.ensures)))

-- and it is of the kind that is asked for
kind-yes : (c : Else-not-is_wanted) → wanted c.args.surface (element_of (lent c.args.t.now) c.args.element).kind ≡ true
kind-yes c = rw c.lent_element-element.ensures at (sym c.if-not-is_wanted.ensures)

pub returns-then-not-records_obey : goal.returns-then-not-records_obey
returns-then-not-records_obey c =
    let a = c.args in
    let k = (goal.at.returns-then-not-records_obey c).Else-not-element_fits in
    let w = (goal.at.returns-then-not-records_obey c).Else-not-is_wanted in
    refuses a.surface a.used (lent a.t.now) a.element
    (broken a.surface a.used (lent a.t.now) a.element (some k) (omega arith) (held k) (kind-yes w)
    (sym (held-against a.surface a.used (lent a.t.now) a.element (parts k) c.lent_element-element.ensures c.body_of-body.ensures c.curves_for-curves.ensures c.if-not-records_obey.ensures)))

-- and nothing of 15 is wrong
module _ (c : Else-not-records_obey) where
  wanted_so : wanted c.args.surface (element_of (lent c.args.t.now) c.args.element).kind ≡ true
  wanted_so = rw c.lent_element-element.ensures at (sym c.if-not-is_wanted.ensures)

  obeyed : obeys c.args.used (lent c.args.t.now) (curves_before (lent c.args.t.now) (c.args.element - 1)) (c.args.element - 1) ≡ true
  obeyed =
      let a = c.args in
      sym (held-against a.surface a.used (lent a.t.now) a.element (leb-true _ _ (sym c.if-not-element_fits.ensures)) c.lent_element-element.ensures c.body_of-body.ensures c.curves_for-curves.ensures c.if-not-records_obey.ensures)

  body_is : c.body_of-body.result ≡ body_of (lent c.args.t.now) c.args.element
  body_is =
      let a = c.args in
      c.body_of-body.ensures
      ∙ ap (λ (x : Element). Asking.asked_body a.used a.t.now.bodies.now a.t.now.ranges.now x.body) c.lent_element-element.ensures
      ∙ body-found a.surface a.used (lent a.t.now) a.element wanted_so obeyed

pub returns-then-not-is_carried : goal.returns-then-not-is_carried
returns-then-not-is_carried c =
    let a = c.args in
    let k = (goal.at.returns-then-not-is_carried c).Else-not-element_fits in
    let w = (goal.at.returns-then-not-is_carried c).Else-not-is_wanted in
    let o = (goal.at.returns-then-not-is_carried c).Else-not-records_obey in
    refuses a.surface a.used (lent a.t.now) a.element
    (not_carried a.surface a.used (lent a.t.now) a.element (some k) (omega arith) (held k) (kind-yes w) (obeyed o) (rw (body_is o) at (sym c.if-not-is_carried.ensures)))

pub returns : goal.returns
returns c =
    let a = c.args in
    let k = (goal.at.returns c).Else-not-element_fits in
    let w = (goal.at.returns c).Else-not-is_wanted in
    let o = (goal.at.returns c).Else-not-records_obey in
    finds a.surface a.used (lent a.t.now) a.element
    (none-given a.surface a.used (lent a.t.now) a.element (some k) (omega arith) (held k) (kind-yes w) (obeyed o) (rw (body_is o) at (sym c.if-not-is_carried.ensures)))
    c.lent_element-element.ensures (body_is o)
