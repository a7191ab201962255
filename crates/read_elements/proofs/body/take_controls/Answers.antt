-- By what storing the corners and the record answered, and whether the controls are wide.
use Prim.Native.Nat.{◌+◌}
use mathlib.Core.Path.{sym, ap, ◌∙◌}
use mathlib.Core.Bool.{not}
use borrow.Author.Tests.{not-true, not-false}
use Rattle.read_elements.specs.Elements.{TakenElement}
use Rattle.read_elements.specs.Bodies.{rule_for}
use Rattle.read_elements.proofs.Controls as C
use Rattle.read_elements.proofs.body.take_controls.Goals as goal

pub all_wide_for-requires : goal.all_wide_for-requires
all_wide_for-requires c =
    let a = c.args in
    let k = a.free in
    let s = a.text.now in
    let l = a.corners.now in
    let e = a.elements.now in
    let m = c.take_corners.new.corners in
    let f = c.take_corners.new.elements in
    let w : TakenElement (rule_for k) (a.used.bodies + 1) a.used a.names s a.at l m e f c.in_ok-controls.controls.value c.in_ok-controls.controls.next = rw c.rule_for.ensures at c.in_ok-controls.ensures in
    C.room_after k a.used a.names a.vp.now s a.at l m e f w

pub returns : goal.returns
returns c =
    let a = c.args in
    let k = a.free in
    let s = a.text.now in
    let l = a.corners.now in
    let e = a.elements.now in
    let m = c.take_corners.new.corners in
    let f = c.take_corners.new.elements in
    let w : TakenElement (rule_for k) (a.used.bodies + 1) a.used a.names s a.at l m e f c.in_ok-controls.controls.value c.in_ok-controls.controls.next = rw c.rule_for.ensures at c.in_ok-controls.ensures in
    C.wide-taken k a.used a.names a.vp.now s a.at l m e f w (sym c.all_wide_for.ensures ∙ not-false _ (ap not c.if-not-all_wide_for.false))

pub returns-in_err-controls : goal.returns-in_err-controls
returns-in_err-controls c =
    let a = c.args in
    let k = a.free in
    let s = a.text.now in
    let l = a.corners.now in
    let e = a.elements.now in
    let m = c.take_corners.new.corners in
    let f = c.take_corners.new.elements in
    rw c.from_residual.ensures (C.none-taken k a.used a.names a.vp.now s a.at l m e f (rw c.rule_for.ensures at c.in_err-controls.ensures))

pub returns-then-not-all_wide_for : goal.returns-then-not-all_wide_for
returns-then-not-all_wide_for c =
    let a = c.args in
    let k = a.free in
    let s = a.text.now in
    let l = a.corners.now in
    let e = a.elements.now in
    let m = c.take_corners.new.corners in
    let f = c.take_corners.new.elements in
    let w : TakenElement (rule_for k) (a.used.bodies + 1) a.used a.names s a.at l m e f c.in_ok-controls.controls.value c.in_ok-controls.controls.next = rw c.rule_for.ensures at c.in_ok-controls.ensures in
    C.narrow k a.used a.names a.vp.now s a.at l m e f w (sym c.all_wide_for.ensures ∙ not-true _ (ap not c.if-not-all_wide_for.true))
