-- A refusal leaves everything as it was; else the passes one after the other, each by what it ensures.
use Rattle.std.proofs.Common.{ap, ◌∙◌, length}
use Rattle.std.proofs.Math.Seq.{length-sets}
use Rattle.tables.specs.Lent.{lent_mut}
use Rattle.std.proofs.lemmas.Result.{err_from_is_err_and}
use Rattle.sweep_marks.specs.Marks.{runs_by}
use Rattle.sweep.proofs.Answering.{passed, refused-is, swept-is, fewer-left, lent, vertices-lent, corners-lent, rest-lent}
use Rattle.sweep.proofs.sweep.Goals as goal

pub returns-in_err-refusal_of-clause-answer : goal.returns-in_err-refusal_of-clause-answer
returns-in_err-refusal_of-clause-answer c =
    let p = err_from_is_err_and c.from_residual.result c.from_residual.ensures.1 in
    rw (p.1, p.2) (refused-is c.args.used (lent_mut c.args.t.now) c.args.numbers.now (rw c.shared.ensures at c.in_err-refusal_of.ensures))

pub sweep_named-after-requires : goal.sweep_named-after-requires
sweep_named-after-requires c =
    let s = c.args in
    let t = lent_mut s.t.now in
    let through = passed s.used t s.numbers.now (rw c.shared.ensures at c.in_ok-refusal_of.ensures) in
    record { lent = vertices-lent s.used t s.numbers.now through; follow = corners-lent s.used t s.numbers.now through }

pub clear_rest-requires : goal.clear_rest-requires
clear_rest-requires c =
    let s = c.args in
    let t = lent_mut s.t.now in
    let named = c.sweep_named-after.ensures in
    rw named.elements
    (rest-lent s.used t s.numbers.now (passed s.used t s.numbers.now (rw c.shared.ensures at c.in_ok-refusal_of.ensures)) (ap length named.corners ∙ length-sets s.t.now.corners.now 0 (runs_by s.used c.sweep_named-after.new.numbers s.t.now.elements.now s.t.now.corners.now s.used.elements)))

pub dropped_of-requires : goal.dropped_of-requires
dropped_of-requires c = let s = c.args in fewer-left s.used (lent_mut s.t.now) s.numbers.now c.sweep_named-after.ensures.vertices

pub returns-clause-answer : goal.returns-clause-answer
returns-clause-answer c =
    let s = c.args in
    let t = lent_mut s.t.now in
    let through = passed s.used t s.numbers.now (rw c.shared.ensures at c.in_ok-refusal_of.ensures) in
    let named = c.sweep_named-after.ensures in
    let rest = c.clear_rest.ensures in
    swept-is s.used t s.numbers.now named.vertices through (lent s.used t s.numbers.now through).elements.corners named.corners
    rest.vertices rest.corners (rw named.elements at rest.elements) rest.bodies rest.ranges rest.parameters rest.loops rest.spans c.dropped_of.ensures
