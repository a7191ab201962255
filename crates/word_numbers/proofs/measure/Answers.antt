-- Each way out is a case of what stands after the whole part.
use mathlib.Core.Path.{◌∙◌, sym}
use native.Mathlib.Omega.{arith}
use Rattle.digits.specs.Answers.{said}
use Rattle.word_numbers.proofs.Numbers.{measure-in, measure-point, measure-none, measure-not, measure-of}
use Rattle.word_numbers.proofs.measure.Goals as goal
use Rattle.word_numbers.proofs.measure.Goals.{then-end-at-via-then-end-at, then-end-at-via-else-end-at+then-not-word_ends}

pub fraction-requires : goal.fraction-requires
fraction-requires c =
    let a = c.args in
    let q = measure-in a.text.now a.at c.whole_part-w.result.next c.whole_part-w.result.value c.whole_part-w.ensures c.byte_at.result c.byte_at.ensures c.if-byte_at-eq46.true in
    let e = c.whole_part-w.ensures.end_is in
    let v = c.whole_part-w.ensures.value-is in
    (omega arith, omega arith, omega arith)

pub returns-then-byte_at-eq46 : goal.returns-then-byte_at-eq46
returns-then-byte_at-eq46 c =
    let a = c.args in
    measure-point a.text.now a.at c.whole_part-w.result.next c.whole_part-w.result.value c.whole_part-w.ensures c.byte_at.result c.byte_at.ensures c.if-byte_at-eq46.true (said c.fraction.result) c.fraction.ensures

pub returns-then-end-at : goal.returns-then-end-at
returns-then-end-at c =
    let a = c.args in
    elim c.then-end-at.branch [ then-end-at-via-then-end-at w ↦ measure-none a.text.now a.at c.whole_part-w.result.next c.whole_part-w.result.value c.whole_part-w.ensures c.byte_at.result c.byte_at.ensures c.if-byte_at-eq46.false w.if-end-at.true | then-end-at-via-else-end-at+then-not-word_ends w ↦ measure-not a.text.now a.at c.whole_part-w.result.next c.whole_part-w.result.value c.whole_part-w.ensures c.byte_at.result c.byte_at.ensures c.if-byte_at-eq46.false (sym w.if-not-word_ends.true ∙ w.word_ends.ensures) ]

pub returns : goal.returns
returns c =
    let a = c.args in
    measure-of a.text.now a.at c.whole_part-w.result.next c.whole_part-w.result.value c.whole_part-w.ensures c.byte_at.result c.byte_at.ensures c.if-byte_at-eq46.false c.if-end-at.false (sym c.if-not-word_ends.false ∙ c.word_ends.ensures)
