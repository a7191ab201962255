-- The names, and then the element.
use Rattle.std.proofs.Common.{◌+◌, ap, ap₂}
use Rattle.text.specs.Written.{written_lines}
use Rattle.tables.specs.Lent.{lent}
use Rattle.tables.specs.Asking.{asked_element}
use Rattle.tables.specs.declared.Element.{Element}
use Rattle.tidy_writer.specs.Rows.{own_lines}
use Rattle.tidy_writer.specs.TidyFrom.{names_lines}
use Rattle.tidy_words.proofs.Emissions.{emitted_then, emitted-is}
use Rattle.tidy_writer.proofs.Turns.{lines-append}
use Rattle.tidy_writer.proofs.elements.element_lines.Goals as goal

pub returns : goal.returns
returns c =
    let a = c.args in
    let p = asked_element a.used a.t.now.elements.now a.number in
    let e = asked_element a.used a.t.now.elements.now (a.number + 1) in
    let n = ap₂ (λ (x y : Element). written_lines (names_lines a.text.now x y)) c.element_of-before.ensures c.element_of-element.ensures in
    let o = ap (λ (x : Element). written_lines (own_lines (lent a.t.now) x)) c.element_of-element.ensures in
    emitted-is (lines-append (names_lines a.text.now p e) (own_lines (lent a.t.now) e)) (emitted_then (emitted-is n c.names_lines-own.ensures) (emitted-is o c.own_lines.ensures))
