-- Each test says what the definition says of the body (`Closings`).
use mathlib.Core.Path.{refl}
use native.Mathlib.Omega.{arith}
use mir.Facts.{to_z-of_z}
use Rattle.basis.proofs.Tests.{failed, passed}
use Rattle.read_bodies.specs.Closing.{parm_of}
use Rattle.read_bodies.proofs.Closings as C
use Rattle.read_bodies.proofs.Keeping.{parm-take}
use mathlib.Core.Path.{ap}
use mathlib.Core.Bool.{not}
use Rattle.read_bodies.proofs.closing.judge.Goals as goal

pub parm_count-u-requires : goal.parm_count-u-requires
parm_count-u-requires c = c.requires.u_at_in_bounds

pub parm_count-v-requires : goal.parm_count-v-requires
parm_count-v-requires c = c.requires.v_at_in_bounds

pub returns-then-not-complete : goal.returns-then-not-complete
returns-then-not-complete c =
    let a = c.args in
    let us = parm_of a.u_text.now a.body.u_at in
    let vs = parm_of a.v_text.now a.body.v_at in
    record { body_check_is = C.refuse-11 a.form a.body.kind us vs a.start_u a.end_u a.start_v a.end_v a.body.controls c.parm_count-u.result c.parm_count-v.result c.parm_count-u.ensures.0 c.parm_count-v.ensures.0 (failed c.complete.ensures (ap not c.if-not-complete.true)); stored_is = refl }

pub counts_agree-requires : goal.counts_agree-requires
counts_agree-requires c = passed c.complete.ensures (ap not c.if-not-complete.false)

pub returns-then-not-counts_agree : goal.returns-then-not-counts_agree
returns-then-not-counts_agree c =
    let a = c.args in
    let us = parm_of a.u_text.now a.body.u_at in
    let vs = parm_of a.v_text.now a.body.v_at in
    record { body_check_is = C.refuse-12 a.form a.body.kind us vs a.start_u a.end_u a.start_v a.end_v a.body.controls c.parm_count-u.result c.parm_count-v.result c.parm_count-u.ensures.0 c.parm_count-v.ensures.0 (passed c.complete.ensures (ap not c.if-not-complete.false)) (failed c.counts_agree.ensures (ap not c.if-not-counts_agree.true)); stored_is = refl }

pub store-along_u-requires : goal.store-along_u-requires
store-along_u-requires c =
    let f = c.ranges.first in
    (c.requires.u_at_in_bounds.0, omega arith)

pub overflow_add-at : goal.overflow_add-at
overflow_add-at c =
    let f = c.ranges.first in
    let g = c.parm_count-u.ensures.1 in
    omega arith

pub store-along_v-requires : goal.store-along_v-requires
store-along_v-requires c =
    let f = c.ranges.first in
    let g = c.parm_count-u.ensures.1 in
    (c.requires.v_at_in_bounds.0, omega arith)

pub returns : goal.returns
returns c =
    let a = c.args in
    let us = parm_of a.u_text.now a.body.u_at in
    let vs = parm_of a.v_text.now a.body.v_at in
    let all-u = parm-take a.u_text.now a.body.u_at c.parm_count-u.ensures.0 in
    let all-v = parm-take a.v_text.now a.body.v_at c.parm_count-v.ensures.0 in
    let x = rw (c.requirement_of-asked_u.ensures, all-u) at c.store-along_u.ensures.value in
    let y = rw (c.requirement_of-asked_v.ensures, all-v) at c.store-along_v.ensures.value in
    let p = rw all-u at c.store-along_u.ensures.parameters_after in
    let q = rw all-v at c.store-along_v.ensures.parameters_after in
    let t = rw (to_z-of_z c.ranges.start_u, to_z-of_z c.ranges.end_u, to_z-of_z c.ranges.start_v, to_z-of_z c.ranges.end_v) at c.settle.ensures in record { body_check_is = C.settled-judged a.form a.body.kind us vs a.start_u a.end_u a.start_v a.end_v a.body.controls c.parm_count-u.result c.parm_count-v.result c.parm_count-u.ensures.0 c.parm_count-v.ensures.0 (passed c.complete.ensures (ap not c.if-not-complete.false)) (passed c.counts_agree.ensures (ap not c.if-not-counts_agree.false)) x y c.parm_count-u.ensures.1 c.parm_count-v.ensures.1 c.settle.result t; stored_is = C.both_stored a.parameters.now _ _ a.first c.parm_count-u.result us vs c.settle.result c.parm_count-u.ensures.0 p q }
