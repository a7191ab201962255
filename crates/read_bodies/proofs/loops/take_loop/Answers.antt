-- The loop keeps the parts done, stored, and what is left of the line (`Looping`); each part takes bytes off it.
use mathlib.Core.Path.{refl, sym, ◌∙◌}
use native.Mathlib.Omega.{arith}
use Rattle.read_bodies.proofs.Parts as L
use Rattle.read_bodies.proofs.Looping as K
use mathlib.Core.List.{[], ◌∷◌}
use mir.Syntax.{w32}
use mir.Val.{to_z, of_z}
use borrow.Author.Tests.{not-true, not-false}
use Rattle.table_store.proofs.Stores.{put_of}
use Rattle.tables.proofs.Bits.{fitted}
use mathlib.Core.Path.{ap}
use mathlib.Core.Bool.{not}
use Rattle.read_bodies.proofs.loops.take_loop.Goals as goal

pub loop-next-init : goal.loop-next-init
loop-next-init c =
    K.looping-none c.args.text.now c.args.at c.args.hole c.args.curves c.args.used c.args.loops.now c.args.spans.now c.requires.0

pub next_part-requires : goal.next_part-requires
next_part-requires c =
    c.loop-next.invariant.to

pub returns-in_err-next : goal.returns-in_err-next
returns-in_err-next c =
    rw c.from_residual.ensures
    (K.looping-stops c.args.text.now c.args.at c.args.hole c.args.curves c.args.used c.args.loops.now c.args.spans.now c.loop-next.loops c.loop-next.spans c.loop-next.i c.loop-next.place c.loop-next.count c.loop-next.invariant c.in_err-next.ensures)

pub shape_of-loops-then-not-loop_counted : goal.shape_of-loops-then-not-loop_counted
shape_of-loops-then-not-loop_counted c =
    c.loop-next.invariant.same

pub shape_of-spans-then-not-loop_counted : goal.shape_of-spans-then-not-loop_counted
shape_of-spans-then-not-loop_counted c =
    c.loop-next.invariant.same-spans

pub returns-then-not-loop_counted : goal.returns-then-not-loop_counted
returns-then-not-loop_counted c =
    K.looping-empty c.args.text.now c.args.at c.args.hole c.args.curves c.args.used c.args.loops.now c.args.spans.now c.loop-next.loops c.loop-next.spans c.loop-next.i c.loop-next.place c.loop-next.count c.loop-next.invariant (L.part_end c.args.curves c.args.text.now c.loop-next.i c.in_ok-next.ensures c.in-End.is) (K.no-parts c.loop-next.count (sym (not-true _ (ap not c.if-not-loop_counted.true)) ∙ c.loop_counted.ensures))

pub shape_of-loops-in-End : goal.shape_of-loops-in-End
shape_of-loops-in-End c =
    c.loop-next.invariant.same

pub shape_of-spans-in-End : goal.shape_of-spans-in-End
shape_of-spans-in-End c =
    c.loop-next.invariant.same-spans

pub returns-in-End : goal.returns-in-End
returns-in-End c =
    K.looping-over c.args.text.now c.args.at c.args.hole c.args.curves c.args.used c.args.loops.now c.args.spans.now c.loop-next.loops c.loop-next.spans c.loop-next.i c.loop-next.place c.loop-next.count c.loop-next.invariant (L.part_end c.args.curves c.args.text.now c.loop-next.i c.in_ok-next.ensures c.in-End.is) (K.some-parts c.loop-next.count (sym (not-false _ (ap not c.if-not-loop_counted.false)) ∙ c.loop_counted.ensures))

pub shape_of-loops-then-not-put : goal.shape_of-loops-then-not-put
shape_of-loops-then-not-put c =
    let parts = put_of c.loop-next.loops c.loop-next.place c.loop_row-row.ensures (c.put.ensures.value, c.put.ensures.entries_after) in
    (K.no_room c.args.text.now c.args.at c.args.hole c.args.curves c.args.used c.args.loops.now c.args.spans.now c.loop-next.loops c.loop-next.spans c.loop-next.i c.loop-next.place c.loop-next.count c.loop-next.invariant _ _ (L.part-found c.args.curves c.args.text.now c.loop-next.i c.in_ok-next.ensures c.in-Part.is) (c.begins_with.result ∷ c.in-Part.curve ∷ []) parts.0 parts.1 (not-true _ (ap not c.if-not-put.true))).same

pub shape_of-spans-then-not-put : goal.shape_of-spans-then-not-put
shape_of-spans-then-not-put c =
    let parts = put_of c.loop-next.loops c.loop-next.place c.loop_row-row.ensures (c.put.ensures.value, c.put.ensures.entries_after) in
    (K.no_room c.args.text.now c.args.at c.args.hole c.args.curves c.args.used c.args.loops.now c.args.spans.now c.loop-next.loops c.loop-next.spans c.loop-next.i c.loop-next.place c.loop-next.count c.loop-next.invariant _ _ (L.part-found c.args.curves c.args.text.now c.loop-next.i c.in_ok-next.ensures c.in-Part.is) (c.begins_with.result ∷ c.in-Part.curve ∷ []) parts.0 parts.1 (not-true _ (ap not c.if-not-put.true))).same-spans

pub returns-then-not-put : goal.returns-then-not-put
returns-then-not-put c =
    let parts = put_of c.loop-next.loops c.loop-next.place c.loop_row-row.ensures (c.put.ensures.value, c.put.ensures.entries_after) in
    K.no_room c.args.text.now c.args.at c.args.hole c.args.curves c.args.used c.args.loops.now c.args.spans.now c.loop-next.loops c.loop-next.spans c.loop-next.i c.loop-next.place c.loop-next.count c.loop-next.invariant _ _ (L.part-found c.args.curves c.args.text.now c.loop-next.i c.in_ok-next.ensures c.in-Part.is) (c.begins_with.result ∷ c.in-Part.curve ∷ []) parts.0 parts.1 (not-true _ (ap not c.if-not-put.true))

pub shape_of-loops-then-not-put-2 : goal.shape_of-loops-then-not-put-2
shape_of-loops-then-not-put-2 c =
    let parts = put_of c.loop-next.loops c.loop-next.place c.loop_row-row.ensures (c.put.ensures.value, c.put.ensures.entries_after) in
    let ends = put_of c.loop-next.spans c.loop-next.place c.span_row-span.ensures (c.put-in-Part.ensures.value, c.put-in-Part.ensures.entries_after) in
    (K.no-room-spans c.args.text.now c.args.at c.args.hole c.args.curves c.args.used c.args.loops.now c.args.spans.now c.loop-next.loops c.loop-next.spans c.loop-next.i c.loop-next.place c.loop-next.count c.loop-next.invariant _ _ (L.part-found c.args.curves c.args.text.now c.loop-next.i c.in_ok-next.ensures c.in-Part.is) c.begins_with.result c.in-Part.curve parts.0 parts.1 (not-false _ (ap not c.if-not-put.false)) ((to_z w32 (of_z w32 c.in-Part.from)) ∷ (to_z w32 (of_z w32 c.in-Part.to)) ∷ []) ends.0 ends.1 (not-true _ (ap not c.if-not-put-2.true))).same

pub shape_of-spans-then-not-put-2 : goal.shape_of-spans-then-not-put-2
shape_of-spans-then-not-put-2 c =
    let parts = put_of c.loop-next.loops c.loop-next.place c.loop_row-row.ensures (c.put.ensures.value, c.put.ensures.entries_after) in
    let ends = put_of c.loop-next.spans c.loop-next.place c.span_row-span.ensures (c.put-in-Part.ensures.value, c.put-in-Part.ensures.entries_after) in
    (K.no-room-spans c.args.text.now c.args.at c.args.hole c.args.curves c.args.used c.args.loops.now c.args.spans.now c.loop-next.loops c.loop-next.spans c.loop-next.i c.loop-next.place c.loop-next.count c.loop-next.invariant _ _ (L.part-found c.args.curves c.args.text.now c.loop-next.i c.in_ok-next.ensures c.in-Part.is) c.begins_with.result c.in-Part.curve parts.0 parts.1 (not-false _ (ap not c.if-not-put.false)) ((to_z w32 (of_z w32 c.in-Part.from)) ∷ (to_z w32 (of_z w32 c.in-Part.to)) ∷ []) ends.0 ends.1 (not-true _ (ap not c.if-not-put-2.true))).same-spans

pub returns-then-not-put-2 : goal.returns-then-not-put-2
returns-then-not-put-2 c =
    let parts = put_of c.loop-next.loops c.loop-next.place c.loop_row-row.ensures (c.put.ensures.value, c.put.ensures.entries_after) in
    let ends = put_of c.loop-next.spans c.loop-next.place c.span_row-span.ensures (c.put-in-Part.ensures.value, c.put-in-Part.ensures.entries_after) in
    K.no-room-spans c.args.text.now c.args.at c.args.hole c.args.curves c.args.used c.args.loops.now c.args.spans.now c.loop-next.loops c.loop-next.spans c.loop-next.i c.loop-next.place c.loop-next.count c.loop-next.invariant _ _ (L.part-found c.args.curves c.args.text.now c.loop-next.i c.in_ok-next.ensures c.in-Part.is) c.begins_with.result c.in-Part.curve parts.0 parts.1 (not-false _ (ap not c.if-not-put.false)) ((to_z w32 (of_z w32 c.in-Part.from)) ∷ (to_z w32 (of_z w32 c.in-Part.to)) ∷ []) ends.0 ends.1 (not-true _ (ap not c.if-not-put-2.true))

pub overflow_add-place : goal.overflow_add-place
overflow_add-place c =
    let parts = put_of c.loop-next.loops c.loop-next.place c.loop_row-row.ensures (c.put.ensures.value, c.put.ensures.entries_after) in
    let ends = put_of c.loop-next.spans c.loop-next.place c.span_row-span.ensures (c.put-in-Part.ensures.value, c.put-in-Part.ensures.entries_after) in
    let b = K.fits-spans c.args.text.now c.args.at c.args.hole c.args.curves c.args.used c.args.loops.now c.args.spans.now c.loop-next.loops c.loop-next.spans c.loop-next.i c.loop-next.place c.loop-next.count c.loop-next.invariant _ _ (L.part-found c.args.curves c.args.text.now c.loop-next.i c.in_ok-next.ensures c.in-Part.is) c.begins_with.result c.in-Part.curve parts.0 parts.1 (not-false _ (ap not c.if-not-put.false)) ends.0 (not-false _ (ap not c.if-not-put-2.false)) in let x = b.0 in record { fits = omega (arith, c.well_formed) }

pub overflow_add-count : goal.overflow_add-count
overflow_add-count c =
    let x = c.loop-next.invariant.counted in let y = c.loop-next.invariant.ahead in let z = c.loop-next.invariant.to in let v = c.requires.1 in record { fits = omega arith }

pub loop-next-smaller : goal.loop-next-smaller
loop-next-smaller c =
    let x = (L.part-found c.args.curves c.args.text.now c.loop-next.i c.in_ok-next.ensures c.in-Part.is) in let y = x.ahead in let z = x.to in omega arith

pub loop-next-preserved : goal.loop-next-preserved
loop-next-preserved c =
    let parts = put_of c.loop-next.loops c.loop-next.place c.loop_row-row.ensures (c.put.ensures.value, c.put.ensures.entries_after) in
    let ends = put_of c.loop-next.spans c.loop-next.place c.span_row-span.ensures (c.put-in-Part.ensures.value, c.put-in-Part.ensures.entries_after) in
    K.looping-more c.args.text.now c.args.at c.args.hole c.args.curves c.args.used c.args.loops.now c.args.spans.now c.loop-next.loops c.loop-next.spans c.loop-next.i c.loop-next.place c.loop-next.count c.loop-next.invariant _ _ (L.part-found c.args.curves c.args.text.now c.loop-next.i c.in_ok-next.ensures c.in-Part.is) c.begins_with.result c.in-Part.curve parts.0 parts.1 (not-false _ (ap not c.if-not-put.false)) (to_z w32 (of_z w32 c.in-Part.from)) (to_z w32 (of_z w32 c.in-Part.to)) ends.0 ends.1 (not-false _ (ap not c.if-not-put-2.false)) c.begins_with.ensures refl (fitted c.in-Part.known_told-in-Part-1-own.given.0.1) (fitted c.in-Part.known_told-in-Part-1-own.given.1.0.1)
