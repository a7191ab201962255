-- 11 to 13 as they are judged, then the room, then the record and the range (`Keeping`).
use Prim.Native.Nat.{◌*◌, ◌-◌}
use mathlib.Core.Path.{ap, ◌∙◌}
use lib.Seq.{sets}
use native.Mathlib.Omega.{arith}
use Rattle.std.specs.Prelude.{Ok, Err}
use Rattle.std.proofs.lemmas.Result.{err_from_is_err_and}
use Rattle.tables.specs.Rows.{body_numbers, range_numbers}
use Rattle.tables.specs.declared.Body as Record
use Rattle.read_bodies.specs.Closing.{parm_of, open_body_in}
use Rattle.tables.proofs.Bits.{fitted, passed}
use Rattle.read_bodies.proofs.Keeping as K
use Rattle.read_bodies.proofs.closing.close_body.Goals as goal

pub overflow_sub-used : goal.overflow_sub-used
overflow_sub-used c = let some = c.requires.le_bodies.0 in omega arith

pub lent_body-opened-requires : goal.lent_body-opened-requires
lent_body-opened-requires c =
    let p = c.requires.le_bodies in
    let some = p.0 in
    let body = p.1 in
    let range = p.2 in
    (omega arith, omega arith)

pub judge-requires : goal.judge-requires
judge-requires c = record { u_at_in_bounds = c.requires.u_at_in_bounds; v_at_in_bounds = c.requires.v_at_in_bounds }

pub returns-then-parameters-used : goal.returns-then-parameters-used
returns-then-parameters-used c =
    let a = c.args in
    let us = parm_of a.u_text.now a.body.u_at in
    let vs = parm_of a.v_text.now a.body.v_at in
    let b = open_body_in a.form a.body a.used a.u_text.now a.v_text.now a.ranges.now in
    let range = K.range-of a.bodies.now a.ranges.now (a.used.bodies - 1) c.lent_body-opened.ensures in
    let said = K.judged-to a.form a.body.kind us vs a.body.controls (Ok c.in_ok-checked.checked) (passed c.struct_told-1.given.1.1.1.1.1.1.1.1.1.0.1 range.0) (passed c.struct_told-2-1.given.1.1.1.1.1.1.1.1.1.1.0.1 range.1) (passed c.struct_told-3-1.given.1.1.1.1.1.1.1.1.1.1.1.0.1 range.2) (passed c.struct_told-4-1.given.1.1.1.1.1.1.1.1.1.1.1.1.0.1 range.3) c.in_ok-checked.ensures.body_check_is in
    K.no-parameters a.form a.body a.used b a.bodies.now a.ranges.now a.parameters.now said c.in_ok-checked.ensures.stored_is c.if-parameters-used.true

pub stored_body-closed-requires : goal.stored_body-closed-requires
stored_body-closed-requires c = c.requires.le_bodies.3

pub store_record-requires : goal.store_record-requires
store_record-requires c = let p = c.requires.le_bodies in (p.0, p.1)

pub store_range-requires : goal.store_range-requires
store_range-requires c = let p = c.requires.le_bodies in (p.0, p.2)

pub returns-in_err-checked : goal.returns-in_err-checked
returns-in_err-checked c =
    let a = c.args in
    let us = parm_of a.u_text.now a.body.u_at in
    let vs = parm_of a.v_text.now a.body.v_at in
    let b = open_body_in a.form a.body a.used a.u_text.now a.v_text.now a.ranges.now in
    let range = K.range-of a.bodies.now a.ranges.now (a.used.bodies - 1) c.lent_body-opened.ensures in
    let said = K.judged-to a.form a.body.kind us vs a.body.controls (Err c.in_err-checked.field-0.0) (passed c.struct_told-1.given.1.1.1.1.1.1.1.1.1.0.1 range.0) (passed c.struct_told-2-1.given.1.1.1.1.1.1.1.1.1.1.0.1 range.1) (passed c.struct_told-3-1.given.1.1.1.1.1.1.1.1.1.1.1.0.1 range.2) (passed c.struct_told-4-1.given.1.1.1.1.1.1.1.1.1.1.1.1.0.1 range.3) c.in_err-checked.ensures.body_check_is in
    let p = err_from_is_err_and c.from_residual.result c.from_residual.ensures.1 in
    rw (p.1, p.2) (K.not-kept a.form a.body a.used b a.bodies.now a.ranges.now a.parameters.now said c.in_err-checked.ensures.stored_is)

pub returns : goal.returns
returns c =
    let a = c.args in
    let us = parm_of a.u_text.now a.body.u_at in
    let vs = parm_of a.v_text.now a.body.v_at in
    let b = open_body_in a.form a.body a.used a.u_text.now a.v_text.now a.ranges.now in
    let range = K.range-of a.bodies.now a.ranges.now (a.used.bodies - 1) c.lent_body-opened.ensures in
    let said = K.judged-to a.form a.body.kind us vs a.body.controls (Ok c.in_ok-checked.checked) (passed c.struct_told-1.given.1.1.1.1.1.1.1.1.1.0.1 range.0) (passed c.struct_told-2-1.given.1.1.1.1.1.1.1.1.1.1.0.1 range.1) (passed c.struct_told-3-1.given.1.1.1.1.1.1.1.1.1.1.1.0.1 range.2) (passed c.struct_told-4-1.given.1.1.1.1.1.1.1.1.1.1.1.1.0.1 range.3) c.in_ok-checked.ensures.body_check_is in
    K.kept a.form a.body a.used b a.bodies.now a.ranges.now a.parameters.now said c.in_ok-checked.ensures.stored_is c.if-parameters-used.false
    (c.store_record.ensures ∙ ap (λ (r : Record.Body). sets a.bodies.now (9 * (a.used.bodies - 1)) (body_numbers r)) c.stored_body-closed.ensures)
    (c.store_range.ensures ∙ ap (λ (r : Record.Body). sets a.ranges.now (4 * (a.used.bodies - 1)) (range_numbers r)) c.stored_body-closed.ensures)
    (fitted c.struct_told-5-1.given.1.1.0.1) (fitted c.struct_told-6-1.given.1.1.1.0.1) (passed c.struct_told-7-1.given.1.1.1.1.1.1.1.1.1.1.1.0.1 range.2) (passed c.struct_told-8-1.given.1.1.1.1.1.1.1.1.1.1.1.1.0.1 range.3)
