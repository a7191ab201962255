-- The loop keeps the numbers stored and judged so far, and that those left are the first of those left in the line (`Storing`).
use native.Mathlib.Omega.{arith}
use Rattle.tables.proofs.Bits.{fitted}
use Rattle.read_bodies.proofs.Steps as S
use Rattle.read_bodies.proofs.Closings as C
use Rattle.read_bodies.proofs.closing.store.Goals as goal

pub loop-done-init : goal.loop-done-init
loop-done-init c =
    let a = c.args in
    C.storing-none a.text.now a.at a.count a.asked a.parameters.now a.first c.requires.0 c.no_order-order.ensures

pub next_number-requires : goal.next_number-requires
next_number-requires c = c.loop-done.invariant.to

pub shape_of-parameters-in-None : goal.shape_of-parameters-in-None
shape_of-parameters-in-None c = c.loop-done.invariant.same

pub returns-in-None : goal.returns-in-None
returns-in-None c =
    let a = c.args in
    let both = C.storing-over a.text.now a.at a.count a.asked a.parameters.now a.first c.loop-done.i c.loop-done.done c.loop-done.order c.loop-done.parameters c.loop-done.invariant c.in-None.ensures.none_here in record { value = both.0; parameters_after = both.1 }

pub shape_of-parameters-in-Some-End : goal.shape_of-parameters-in-Some-End
shape_of-parameters-in-Some-End c = c.loop-done.invariant.same

pub returns-in-Some-End : goal.returns-in-Some-End
returns-in-Some-End c =
    let a = c.args in
    let both = C.storing-over a.text.now a.at a.count a.asked a.parameters.now a.first c.loop-done.i c.loop-done.done c.loop-done.order c.loop-done.parameters c.loop-done.invariant (S.numbers-over a.text.now c.loop-done.i (S.step_end a.text.now c.loop-done.i c.in-Some-End.ensures c.in-Some-End.field-0-is)) in record { value = both.0; parameters_after = both.1 }

pub overflow_add-first : goal.overflow_add-first
overflow_add-first c =
    let t = c.loop-done-test.true in
    let f = c.requires.1 in
    let g = c.ranges.count in
    omega arith

pub loop-done-preserved : goal.loop-done-preserved
loop-done-preserved c =
    let a = c.args in
    C.storing-more a.text.now a.at a.count a.asked a.parameters.now a.first c.loop-done.i c.loop-done.done c.loop-done.order c.loop-done.parameters c.loop-done.invariant c.loop-done-test.true (S.step-number a.text.now c.loop-done.i c.in-Some-Number.ensures c.in-Some-Number.field-0-is) (fitted c.struct_told-1.given.0.1) c.step-order.ensures c.put.ensures.value c.put.ensures.entries_after

pub shape_of-parameters : goal.shape_of-parameters
shape_of-parameters c = c.loop-done.invariant.same

pub returns : goal.returns
returns c =
    let a = c.args in
    let both = C.storing-all a.text.now a.at a.count a.asked a.parameters.now a.first c.loop-done.i c.loop-done.done c.loop-done.order c.loop-done.parameters c.loop-done.invariant c.loop-done-test.false in record { value = both.0; parameters_after = both.1 }
