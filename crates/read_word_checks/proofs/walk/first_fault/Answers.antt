-- The loop keeps the fault of the words that are left (`Faulting`); each word takes bytes off what is left.
use mathlib.Core.Path.{refl, sym}
use borrow.Author.Rules.{rules}
use native.Mathlib.Omega.{arith}
use Rattle.read_word_checks.proofs.Walks as W
use Rattle.text.specs.Rest.{word_at}
use Rattle.read_word_checks.proofs.Words.{by-test}
use Rattle.read_word_checks.specs.Faults.{seen_by}
use Rattle.read_word_checks.proofs.walk.first_fault.Goals as goal

pub loop-p-init : goal.loop-p-init
loop-p-init c = record { to = c.requires; small = omega arith; rest = refl }

pub word_fault-requires : goal.word_fault-requires
word_fault-requires c =
    let a = c.args in
    let met = c.in-Start.ensures in
    let more = met.more in
    let to = met.to in
    omega arith

pub returns-in-Err : goal.returns-in-Err
returns-in-Err c =
    let a = c.args in
    let met = c.in-Start.ensures in
    W.fault-wrong (seen_by a.seen) a.vp.now a.tests a.words a.text.now a.at c.loop-p.i c.loop-p.index c.loop-p.invariant met (by-test (seen_by a.seen) a.vp.now (word_at a.text.now c.in-Start.p) (sym c.test_at-test.ensures) c.in-Err.ensures)

pub word_end-i-requires : goal.word_end-i-requires
word_end-i-requires c =
    let a = c.args in
    let met = c.in-Start.ensures in
    let more = met.more in
    let to = met.to in
    omega arith

pub overflow_add-index : goal.overflow_add-index
overflow_add-index c =
    let a = c.args in
    let met = c.in-Start.ensures in
    let next = W.fault-turn (seen_by a.seen) a.vp.now a.tests a.words a.text.now a.at c.loop-p.i c.loop-p.index c.loop-p.invariant met c.word_end-i.ensures.0 (by-test (seen_by a.seen) a.vp.now (word_at a.text.now c.in-Start.p) (sym c.test_at-test.ensures) c.in-Ok.ensures) in
    let small = next.0.small in
    let to = next.0.to in
    search rules

pub loop-p-smaller : goal.loop-p-smaller
loop-p-smaller c =
    let a = c.args in
    let met = c.in-Start.ensures in
    let next = W.fault-turn (seen_by a.seen) a.vp.now a.tests a.words a.text.now a.at c.loop-p.i c.loop-p.index c.loop-p.invariant met c.word_end-i.ensures.0 (by-test (seen_by a.seen) a.vp.now (word_at a.text.now c.in-Start.p) (sym c.test_at-test.ensures) c.in-Ok.ensures) in
    let ahead = next.1 in
    let to = next.0.to in
    omega arith

pub loop-p-preserved : goal.loop-p-preserved
loop-p-preserved c =
    let a = c.args in
    let met = c.in-Start.ensures in
    let next = W.fault-turn (seen_by a.seen) a.vp.now a.tests a.words a.text.now a.at c.loop-p.i c.loop-p.index c.loop-p.invariant met c.word_end-i.ensures.0 (by-test (seen_by a.seen) a.vp.now (word_at a.text.now c.in-Start.p) (sym c.test_at-test.ensures) c.in-Ok.ensures) in
    next.0

pub returns-in-End : goal.returns-in-End
returns-in-End c = let a = c.args in W.fault-none (seen_by a.seen) a.vp.now a.tests a.words a.text.now a.at c.loop-p.i c.loop-p.index c.loop-p.invariant (W.end-words a.text.now c.loop-p.i c.in-End.ensures)

pub returns-in-Bad : goal.returns-in-Bad
returns-in-Bad c = let a = c.args in W.fault-none (seen_by a.seen) a.vp.now a.tests a.words a.text.now a.at c.loop-p.i c.loop-p.index c.loop-p.invariant c.in-Bad.ensures.no_words
