-- The loop keeps the numbers and words passed (`Counting`); each word takes bytes off what is left.
use native.Mathlib.Omega.{arith}
use borrow.Author.Rules.{rules}
use Rattle.read_bodies.proofs.Steps as S
use Rattle.read_bodies.proofs.numbers.count_each.Goals as goal

pub loop-next-init : goal.loop-next-init
loop-next-init c = S.counting-none c.args.text.now c.args.at c.requires

pub next_number-requires : goal.next_number-requires
next_number-requires c = c.loop-next.invariant.to

pub returns-in-None : goal.returns-in-None
returns-in-None c = S.counting-stops c.args.text.now c.args.at c.loop-next.i c.loop-next.count c.loop-next.invariant c.in-None.ensures

pub returns-in-Some-End : goal.returns-in-Some-End
returns-in-Some-End c =
    let s = c.args.text.now in
    S.counting-over s c.args.at c.loop-next.i c.loop-next.count c.loop-next.invariant (S.step_end s c.loop-next.i c.in-Some-End.ensures c.in-Some-End.field-0-is)

pub overflow_add-count : goal.overflow_add-count
overflow_add-count c =
    let small = S.counting-small c.args.text.now c.args.at c.loop-next.i c.loop-next.count c.loop-next.invariant in
    search rules

pub loop-next-smaller : goal.loop-next-smaller
loop-next-smaller c =
    let m = S.step-number c.args.text.now c.loop-next.i c.in-Some-Number.ensures c.in-Some-Number.field-0-is in
    let a = m.ahead in
    let t = m.to in
    omega arith

pub loop-next-preserved : goal.loop-next-preserved
loop-next-preserved c =
    let s = c.args.text.now in
    S.counting_more s c.args.at c.loop-next.i c.loop-next.count c.loop-next.invariant (S.step-number s c.loop-next.i c.in-Some-Number.ensures c.in-Some-Number.field-0-is)
