-- What is left of the elements comes to all of them.
use Rattle.std.proofs.Common.{◌≡◌, ◌+◌, ◌-◌, ap, arith}
use Rattle.tables.specs.Lent.{lent}
use Rattle.tidy_words.proofs.Emissions.{left-begins, left-turn, left-ends}
use Rattle.tidy_writer.proofs.ElementTurns.{onward, elements-turn, elements-none}
use Rattle.tidy_writer.proofs.elements.elements_lines.Goals as goal

pub loop-number-init : goal.loop-number-init
loop-number-init c =
    let a = c.args in
    left-begins a.at a.out.now c.requires (ap (λ n. onward a.text.now a.used (lent a.t.now) n 0) (let n : a.used.elements - 0 ≡ a.used.elements = omega arith in n))

pub element_lines-end-requires : goal.element_lines-end-requires
element_lines-end-requires c = (c.loop-number.invariant.most, omega arith)

pub loop-number-preserved : goal.loop-number-preserved
loop-number-preserved c =
    let a = c.args in
    let n = c.loop-number.number in
    left-turn c.loop-number.invariant (elements-turn a.text.now a.used (lent a.t.now) (a.used.elements - n) (a.used.elements - (n + 1)) n (omega arith)) c.element_lines-end.ensures

pub returns : goal.returns
returns c =
    let a = c.args in
    let n = c.loop-number.number in
    left-ends c.loop-number.invariant (elements-none a.text.now a.used (lent a.t.now) (a.used.elements - n) n (omega arith))
