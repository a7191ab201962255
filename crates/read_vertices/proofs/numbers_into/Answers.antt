-- The loop keeps the numbers stored so far with the rest of the line (`Walking`).
use Prim.Native.Nat.{◌^◌}
use lib.ListN.{length, drop}
use native.Mathlib.Omega.{arith}
use borrow.Author.Tests.{not-true, not-false}
use mathlib.Core.Path.{ap}
use mathlib.Core.Bool.{not}
use Rattle.text.specs.Words.{word_of}
use Rattle.text.specs.Rest.{end_of}
use Rattle.decimals.specs.Number.{number_of}
use Rattle.read_state.proofs.Read.{read-says, read-wrong}
use Rattle.tables.proofs.Bits.{fitted}
use Rattle.read_vertices.proofs.Walking as W
use Rattle.read_vertices.proofs.numbers_into.Goals as goal

pub loop-count-init : goal.loop-count-init
loop-count-init c =
    let a = c.args in
    W.begin a.most a.text.now a.at a.first a.table.now c.requires

pub skip_blanks-requires : goal.skip_blanks-requires
skip_blanks-requires c = c.loop-count.invariant.to

pub quick_number_at-requires : goal.quick_number_at-requires
quick_number_at-requires c =
    let more = c.in-Start.ensures.more in
    let to = c.in-Start.ensures.to in
    omega arith

pub overflow_add-first : goal.overflow_add-first
overflow_add-first c =
    let a = c.args in
    let fits = W.place-fits a.first c.loop-count.count (2 ^ 64) (length a.table.now) c.loop-count.invariant.room (omega (arith, c.ranges.first)) (omega (arith, c.well_formed)) in
    omega arith

pub returns-then-not-put : goal.returns-then-not-put
returns-then-not-put c =
    let a = c.args in
    let l = c.loop-count in
    W.stop-room a.most a.text.now a.at a.first a.table.now l.i l.count l.table l.invariant c.loop-count-test.true c.in-Start.ensures
    (read-says (number_of (word_of (drop c.in-Start.p a.text.now))) (end_of a.text.now c.in-Start.p) _ c.quick_number_at.ensures c.in_ok-number-in-Start.ensures.value)
    (fitted c.struct_told-1.given.0.1)
    (c.put.ensures.value, c.put.ensures.entries_after)
    (not-true _ (ap not c.if-not-put.true))

pub loop-count-preserved : goal.loop-count-preserved
loop-count-preserved c =
    let a = c.args in
    let l = c.loop-count in
    W.turn a.most a.text.now a.at a.first a.table.now l.i l.count l.table l.invariant c.loop-count-test.true c.in-Start.ensures
    (read-says (number_of (word_of (drop c.in-Start.p a.text.now))) (end_of a.text.now c.in-Start.p) _ c.quick_number_at.ensures c.in_ok-number-in-Start.ensures.value)
    (fitted c.struct_told-1.given.0.1)
    (c.put.ensures.value, c.put.ensures.entries_after)
    (not-false _ (ap not c.if-not-put.false))

pub returns-in_err-number-in-Start : goal.returns-in_err-number-in-Start
returns-in_err-number-in-Start c =
    let a = c.args in
    let l = c.loop-count in
    rw c.from_residual.ensures
    (W.stop-wrong a.most a.text.now a.at a.first a.table.now l.i l.count l.table l.invariant c.loop-count-test.true c.in-Start.ensures
    (read-wrong (number_of (word_of (drop c.in-Start.p a.text.now))) (end_of a.text.now c.in-Start.p) _ c.quick_number_at.ensures c.in_err-number-in-Start.ensures.value).1)

pub returns-in-End : goal.returns-in-End
returns-in-End c =
    let a = c.args in
    let l = c.loop-count in
    W.ends a.most a.text.now a.at a.first a.table.now l.i l.count l.table l.invariant c.loop-count-test.true c.in-End.ensures

pub returns-in-Bad : goal.returns-in-Bad
returns-in-Bad c =
    let a = c.args in
    let l = c.loop-count in
    W.stop-bad a.most a.text.now a.at a.first a.table.now l.i l.count l.table l.invariant c.loop-count-test.true c.in-Bad.ensures

pub returns : goal.returns
returns c =
    let a = c.args in
    let l = c.loop-count in
    W.filled a.most a.text.now a.at a.first a.table.now l.i l.count l.table l.invariant c.loop-count-test.false
