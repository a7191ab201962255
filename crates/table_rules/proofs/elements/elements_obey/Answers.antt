-- An element breaks a rule or leaves a gap, or the pass goes on with it: `Passed`.
use Rattle.std.proofs.Common.{◌≡◌, true, false, sym, ◌∙◌, arith, rules}
use Rattle.tables.specs.Lent.{lent}
use Rattle.record_rules.specs.Rules.{records_obey}
use Rattle.table_rules.specs.Whole.{element_follows}
use Rattle.table_rules.proofs.Pass.{breaks, leaves-gap, goes_on, ends_with}
use Rattle.table_rules.proofs.elements.elements_obey.Goals as goal
use Rattle.table_rules.proofs.elements.elements_obey.Goals.{then-not-records_obey-via-then-not-records_obey, then-not-records_obey-via-else-not-records_obey+then-not-element_follows}

pub returns-then-not-records_obey : goal.returns-then-not-records_obey
returns-then-not-records_obey c =
    let s = c.args in
    let e = c.lent_element-element in
    let b = c.body_of-body in
    elim c.then-not-records_obey.branch [
      | then-not-records_obey-via-then-not-records_obey w ↦
          let broken : records_obey s.used (lent s.t.now) c.loop-i.curves e.result b.result ≡ false = search rules in
          sym (breaks s.used (lent s.t.now) c.loop-i.invariant c.loop-i-test.true c.requires e.result b.result e.ensures b.ensures broken)
      | then-not-records_obey-via-else-not-records_obey+then-not-element_follows w ↦
          let obeyed : records_obey s.used (lent s.t.now) c.loop-i.curves e.result b.result ≡ true = search rules in
          let gap : element_follows c.loop-i.ends e.result b.result ≡ false = search rules in
          sym (leaves-gap s.used (lent s.t.now) c.loop-i.invariant c.loop-i-test.true c.requires e.result b.result e.ensures b.ensures obeyed gap)
    ]

pub ends_after-ends-requires : goal.ends_after-ends-requires
ends_after-ends-requires c =
    let w = c.loop-i.invariant.within in
    (omega (arith, w.corners, c.well_formed), omega (arith, w.bodies, c.well_formed), omega (arith, w.parameters, c.well_formed), omega (arith, w.parts, c.well_formed))

pub loop-i-preserved : goal.loop-i-preserved
loop-i-preserved c =
    let s = c.args in
    let e = c.lent_element-element in
    let b = c.body_of-body in
    let obeyed : records_obey s.used (lent s.t.now) c.loop-i.curves e.result b.result ≡ true = search rules in
    let follows : element_follows c.loop-i.ends e.result b.result ≡ true = search rules in
    goes_on s.used (lent s.t.now) c.loop-i.invariant c.loop-i-test.true c.requires e.result b.result e.ensures b.ensures obeyed follows
    c.ends_after-ends.ensures c.curve_or_none-curves.ensures.0 c.curve_or_none-curves.ensures.1

pub returns : goal.returns
returns c =
    let s = c.args in
    c.ends_used.ensures ∙ ends_with s.used (lent s.t.now) c.loop-i.invariant c.loop-i-test.false
