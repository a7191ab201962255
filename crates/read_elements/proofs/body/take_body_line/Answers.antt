-- By the tests, then what storing the range answered, then what storing the controls answered.
use mathlib.Core.Path.{sym, ◌∙◌}
use borrow.Author.Tests.{not-true, not-false}
use Rattle.read_elements.proofs.BodyLines as L
use mathlib.Core.Path.{ap}
use mathlib.Core.Bool.{not}
use Rattle.read_elements.proofs.body.take_body_line.Goals as goal

pub returns-then-not-in_force : goal.returns-then-not-in_force
returns-then-not-in_force c =
    let a = c.args in
    let k = a.free in
    let s = a.text.now in
    let l = a.corners.now in
    let e = a.elements.now in
    let y = a.ranges.now in
    L.not_set k a.used a.names a.form a.vp.now s a.at l e a.bodies y (sym c.in_force.ensures ∙ not-true _ (ap not c.if-not-in_force.true))

pub returns-then-not-body_room : goal.returns-then-not-body_room
returns-then-not-body_room c =
    let a = c.args in
    let k = a.free in
    let s = a.text.now in
    let l = a.corners.now in
    let e = a.elements.now in
    let y = a.ranges.now in
    L.no_room k a.used a.names a.form a.vp.now s a.at l e a.bodies y (sym c.body_room.ensures ∙ not-true _ (ap not c.if-not-body_room.true))

pub take_controls-requires : goal.take_controls-requires
take_controls-requires c =
    let a = c.args in
    let k = a.free in
    let s = a.text.now in
    let l = a.corners.now in
    let e = a.elements.now in
    let y = a.ranges.now in
    let z = c.numbers_into.new.table in
    let set = sym c.in_force.ensures ∙ not-false _ (ap not c.if-not-in_force.false) in
    let fits = sym c.body_room.ensures ∙ not-false _ (ap not c.if-not-body_room.false) in
    let w = L.full-found k s a.at _ y z c.range_words.ensures c.in_ok-end.ensures c.in-Full.is in
    (w.to, c.requires.1, c.requires.2)

pub returns-in-Full : goal.returns-in-Full
returns-in-Full c =
    let a = c.args in
    let k = a.free in
    let s = a.text.now in
    let l = a.corners.now in
    let e = a.elements.now in
    let y = a.ranges.now in
    let z = c.numbers_into.new.table in
    let set = sym c.in_force.ensures ∙ not-false _ (ap not c.if-not-in_force.false) in
    let fits = sym c.body_room.ensures ∙ not-false _ (ap not c.if-not-body_room.false) in
    let w = L.full-found k s a.at _ y z c.range_words.ensures c.in_ok-end.ensures c.in-Full.is in
    let m = c.take_controls.new.corners in
    let f = c.take_controls.new.elements in
    L.line_taken k a.used a.names a.form a.vp.now s a.at l e a.bodies y z w set fits m f c.take_controls.result c.take_controls.ensures

pub returns-in-Ended : goal.returns-in-Ended
returns-in-Ended c =
    let a = c.args in
    let k = a.free in
    let s = a.text.now in
    let l = a.corners.now in
    let e = a.elements.now in
    let y = a.ranges.now in
    let z = c.numbers_into.new.table in
    let set = sym c.in_force.ensures ∙ not-false _ (ap not c.if-not-in_force.false) in
    let fits = sym c.body_room.ensures ∙ not-false _ (ap not c.if-not-body_room.false) in
    L.line-ended k a.used a.names a.form a.vp.now s a.at l e a.bodies y z (L.end-found k s a.at _ y z c.range_words.ensures c.in_ok-end.ensures c.in-Ended.is)

pub returns-in_err-end : goal.returns-in_err-end
returns-in_err-end c =
    let a = c.args in
    let k = a.free in
    let s = a.text.now in
    let l = a.corners.now in
    let e = a.elements.now in
    let y = a.ranges.now in
    let z = c.numbers_into.new.table in
    let set = sym c.in_force.ensures ∙ not-false _ (ap not c.if-not-in_force.false) in
    let fits = sym c.body_room.ensures ∙ not-false _ (ap not c.if-not-body_room.false) in
    rw c.from_residual.ensures (L.line-stopped k a.used a.names a.form a.vp.now s a.at l e a.bodies y z (L.stop-found k s a.at _ y z c.range_words.ensures c.in_err-end.ensures))
