-- Sixteen numbers are a turn of `Counting`, and their words are what is less (`Walks`).
use mathlib.Core.Path.{refl, ap, ◌∙◌}
use native.Mathlib.Omega.{arith}
use lib.ListN.{length}
use lib.Seq.{length-sets}
use borrow.Author.Rules.{rules}
use Rattle.read_bodies.proofs.Steps as S
use Rattle.read_bodies.proofs.Walks as W
use Rattle.read_bodies.proofs.numbers.count_numbers.Goals as goal

pub loop-more-init : goal.loop-more-init
loop-more-init c = (refl, S.counting-none c.args.text.now c.args.at c.requires)

pub slice_bounds-numbers_into-end : goal.slice_bounds-numbers_into-end
slice_bounds-numbers_into-end c = let h = c.loop-more.invariant.0 in search rules

pub numbers_into-requires : goal.numbers_into-requires
numbers_into-requires c = c.loop-more.invariant.1.to

pub returns-in-None : goal.returns-in-None
returns-in-None c = c.count_each.ensures

pub overflow_add-result : goal.overflow_add-result
overflow_add-result c =
    let e = W.was-ended 16 c.args.text.now c.loop-more.i 0 _ _ c.in-Some-Ended.ensures c.in-Some-Ended.field-0-is in
    let a = (W.counting-ended c.args.text.now c.args.at c.loop-more.i c.loop-more.count c.loop-more.invariant.1 e).small in
    search rules

pub returns-in-Some-Ended : goal.returns-in-Some-Ended
returns-in-Some-Ended c =
    let e = W.was-ended 16 c.args.text.now c.loop-more.i 0 _ _ c.in-Some-Ended.ensures c.in-Some-Ended.field-0-is in
    W.counting-ended c.args.text.now c.args.at c.loop-more.i c.loop-more.count c.loop-more.invariant.1 e

pub overflow_add-count : goal.overflow_add-count
overflow_add-count c =
    let e = W.was-full 16 c.args.text.now c.loop-more.i 0 _ _ c.in-Some-Full.ensures c.in-Some-Full.field-0-is in
    let a = (W.counting-full c.args.text.now c.args.at c.loop-more.i c.loop-more.count c.loop-more.invariant.1 e).1 in
    let b = S.counting-small c.args.text.now c.args.at c.loop-more.i c.loop-more.count c.loop-more.invariant.1 in
    search rules

pub loop-more-smaller : goal.loop-more-smaller
loop-more-smaller c =
    let e = W.was-full 16 c.args.text.now c.loop-more.i 0 _ _ c.in-Some-Full.ensures c.in-Some-Full.field-0-is in
    let a = (W.counting-full c.args.text.now c.args.at c.loop-more.i c.loop-more.count c.loop-more.invariant.1 e).1 in
    omega arith

pub loop-more-preserved : goal.loop-more-preserved
loop-more-preserved c =
    let e = W.was-full 16 c.args.text.now c.loop-more.i 0 _ _ c.in-Some-Full.ensures c.in-Some-Full.field-0-is in
    (ap length e.stored ∙ length-sets _ 0 e.found ∙ c.loop-more.invariant.0, (W.counting-full c.args.text.now c.args.at c.loop-more.i c.loop-more.count c.loop-more.invariant.1 e).0)
