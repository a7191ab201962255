-- By what storing the corners answered, how many there are, and what storing the record answered.
use Prim.Native.Nat.{◌*◌}
use mathlib.Core.Path.{ap, ◌∙◌}
use mathlib.Core.Bool.{cond, not}
use borrow.Author.Tests.{not-true, not-false}
use native.Mathlib.Omega.{arith}
use lib.Seq.{sets}
use Rattle.tables.specs.Rows.{element_numbers}
use Rattle.tables.specs.declared.Element as Record
use Rattle.read_elements.proofs.Taking as T
use Rattle.read_elements.proofs.take_corners.Goals as goal

pub returns-then-found-rule : goal.returns-then-found-rule
returns-then-found-rule c =
    let a = c.args in
    let s = a.text.now in
    let l = a.corners.now in
    let m = c.corners_into.new.corners in
    let w = c.in_ok-found.ensures in
    T.too_few a.rule a.used s a.at l m w c.if-found-rule.true a.elements.now

pub overflow_cast-count : goal.overflow_cast-count
overflow_cast-count c =
    let a = c.args in
    let s = a.text.now in
    let l = a.corners.now in
    let m = c.corners_into.new.corners in
    let w = c.in_ok-found.ensures in
    let small = T.fits-number a.rule a.used s a.at l m w c.requires.1 in
    omega arith

pub returns : goal.returns
returns c =
    let a = c.args in
    let s = a.text.now in
    let l = a.corners.now in
    let m = c.corners_into.new.corners in
    let w = c.in_ok-found.ensures in
    T.stored a.rule a.used s a.at l m w a.body a.names a.elements.now _ c.put_element.ensures.value (c.put_element.ensures.elements_after ∙ ap (λ (e : Record.Element). cond c.put_element.result (sets a.elements.now (9 * a.used.elements) (element_numbers e)) a.elements.now) c.stored_element-element.ensures) c.if-found-rule.false (not-false _ (ap not c.if-not-put_element.false))

pub returns-in_err-found : goal.returns-in_err-found
returns-in_err-found c =
    let a = c.args in
    rw c.from_residual.ensures (T.no-corners a.rule a.used a.text.now a.at a.corners.now c.corners_into.new.corners c.in_err-found.ensures a.elements.now)

pub returns-then-not-put_element : goal.returns-then-not-put_element
returns-then-not-put_element c =
    let a = c.args in
    let s = a.text.now in
    let l = a.corners.now in
    let m = c.corners_into.new.corners in
    let w = c.in_ok-found.ensures in
    T.no_record a.rule a.used s a.at l m w a.body a.names a.elements.now _ c.put_element.ensures.value (c.put_element.ensures.elements_after ∙ ap (λ (e : Record.Element). cond c.put_element.result (sets a.elements.now (9 * a.used.elements) (element_numbers e)) a.elements.now) c.stored_element-element.ensures) (not-true _ (ap not c.if-not-put_element.true))
