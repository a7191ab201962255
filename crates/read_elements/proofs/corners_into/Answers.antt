-- The loop keeps the corners found so far with the rest of the line (`Walking`); each word takes bytes off what is left.
use Prim.Native.Nat.{◌+◌}
use mathlib.Core.Path.{sym, ap, ◌∙◌}
use mathlib.Core.Bool.{Bool, cond}
use native.Mathlib.Omega.{arith}
use borrow.Author.Tests.{leb-true, not-true, not-false}
use lib.ListN.{length, drop}
use lib.Seq.{sets}
use Rattle.table_store.proofs.Stores.{put_of}
use Rattle.text.specs.Words.{word_of}
use Rattle.text.specs.Rest.{end_of}
use Rattle.model.specs.Layout.{corner_row}
use Rattle.read_state.proofs.Read.{read-says, read-wrong}
use Rattle.read_elements.specs.Corners.{corner_said}
use Rattle.read_elements.proofs.Walking as W
use mathlib.Core.Bool.{not}
use Rattle.read_elements.proofs.corners_into.Goals as goal

pub loop-next-init : goal.loop-next-init
loop-next-init c =
    let a = c.args in
    W.begin (corner_said a.used a.form) a.text.now a.at a.first a.corners.now c.requires

pub skip_blanks-requires : goal.skip_blanks-requires
skip_blanks-requires c = c.loop-next.invariant.to

pub returns-in-Bad : goal.returns-in-Bad
returns-in-Bad c =
    let a = c.args in
    let s = a.text.now in
    let w = c.loop-next.invariant in
    W.stop-bad (corner_said a.used a.form) s a.at a.first a.corners.now w (c.in-Bad.ensures)

pub returns-in-End : goal.returns-in-End
returns-in-End c =
    let a = c.args in
    let s = a.text.now in
    let w = c.loop-next.invariant in
    W.close (corner_said a.used a.form) s a.at a.first a.corners.now w (c.in-End.ensures)

pub corner_from-requires : goal.corner_from-requires
corner_from-requires c =
    let a = c.args in
    let s = a.text.now in
    let w = c.loop-next.invariant in
    let more = c.in-Start.ensures.more in
    let to = c.in-Start.ensures.to in
    omega arith

pub returns-in_err-corner-in-Start : goal.returns-in_err-corner-in-Start
returns-in_err-corner-in-Start c =
    let a = c.args in
    let s = a.text.now in
    let x = read-wrong (corner_said a.used a.form (word_of (drop c.in-Start.p s))) (end_of s c.in-Start.p) _ c.corner_from.ensures c.in_err-corner-in-Start.ensures.value in
    rw c.from_residual.ensures (W.stop-wrong (corner_said a.used a.form) s a.at a.first a.corners.now c.loop-next.invariant c.in-Start.ensures x.0 x.1)

pub returns-then-not-may_follow : goal.returns-then-not-may_follow
returns-then-not-may_follow c =
    let a = c.args in
    let s = a.text.now in
    let w = c.loop-next.invariant in
    let r = read-says (corner_said a.used a.form (word_of (drop c.in-Start.p s))) (end_of s c.in-Start.p) _ c.corner_from.ensures c.in_ok-corner-in-Start.ensures.value in
    let c0 = c.in_ok-corner-in-Start.corner.value in
    W.stop-pattern (corner_said a.used a.form) s a.at a.first a.corners.now w c.in-Start.ensures c0 r c.pattern_of-here.ensures (sym c.may_follow.ensures ∙ not-true _ (ap not c.if-not-may_follow.true))

pub returns-then-not-put : goal.returns-then-not-put
returns-then-not-put c =
    let a = c.args in
    let s = a.text.now in
    let w = c.loop-next.invariant in
    let answer = put_of c.loop-next.corners c.loop-next.n c.corner_row-row.ensures (c.put.ensures.value, c.put.ensures.entries_after) in
    let r = read-says (corner_said a.used a.form (word_of (drop c.in-Start.p s))) (end_of s c.in-Start.p) _ c.corner_from.ensures c.in_ok-corner-in-Start.ensures.value in
    let c0 = c.in_ok-corner-in-Start.corner.value in
    let f = sym c.may_follow.ensures ∙ not-false _ (ap not c.if-not-may_follow.false) in
    W.stop-room (corner_said a.used a.form) s a.at a.first a.corners.now w c.in-Start.ensures c0 r c.pattern_of-here.ensures f _ (answer.1 ∙ ap (λ (b : Bool). cond b (sets c.loop-next.corners c.loop-next.n (corner_row c0)) c.loop-next.corners) answer.0) (sym answer.0 ∙ not-true _ (ap not c.if-not-put.true))

pub overflow_add-n : goal.overflow_add-n
overflow_add-n c =
    let a = c.args in
    let s = a.text.now in
    let w = c.loop-next.invariant in
    let answer = put_of c.loop-next.corners c.loop-next.n c.corner_row-row.ensures (c.put.ensures.value, c.put.ensures.entries_after) in
    let k = sym answer.0 ∙ not-false _ (ap not c.if-not-put.false) in
    let h = leb-true (c.loop-next.n + 3) (length c.loop-next.corners) k in
    let same = w.same in
    omega (arith, c.well_formed)

pub overflow_add-count : goal.overflow_add-count
overflow_add-count c =
    let a = c.args in
    let s = a.text.now in
    let w = c.loop-next.invariant in
    let small = w.small in
    let to = w.to in
    omega (arith, c.well_formed)

pub loop-next-smaller : goal.loop-next-smaller
loop-next-smaller c =
    let a = c.args in
    let s = a.text.now in
    let w = c.loop-next.invariant in
    let r = read-says (corner_said a.used a.form (word_of (drop c.in-Start.p s))) (end_of s c.in-Start.p) _ c.corner_from.ensures c.in_ok-corner-in-Start.ensures.value in
    let c0 = c.in_ok-corner-in-Start.corner.value in
    let further = W.further (corner_said a.used a.form) s a.at a.first a.corners.now w c.in-Start.ensures c0 r c.pattern_of-here.ensures in
    omega arith

pub loop-next-preserved : goal.loop-next-preserved
loop-next-preserved c =
    let a = c.args in
    let s = a.text.now in
    let w = c.loop-next.invariant in
    let answer = put_of c.loop-next.corners c.loop-next.n c.corner_row-row.ensures (c.put.ensures.value, c.put.ensures.entries_after) in
    let r = read-says (corner_said a.used a.form (word_of (drop c.in-Start.p s))) (end_of s c.in-Start.p) _ c.corner_from.ensures c.in_ok-corner-in-Start.ensures.value in
    let c0 = c.in_ok-corner-in-Start.corner.value in
    let f = sym c.may_follow.ensures ∙ not-false _ (ap not c.if-not-may_follow.false) in
    let k = sym answer.0 ∙ not-false _ (ap not c.if-not-put.false) in
    W.turn (corner_said a.used a.form) s a.at a.first a.corners.now w c.in-Start.ensures c0 r c.pattern_of-here.ensures f _ (answer.1 ∙ ap (λ (b : Bool). cond b (sets c.loop-next.corners c.loop-next.n (corner_row c0)) c.loop-next.corners) answer.0) k
