-- Each way out is a case of what stands after the digits.
use mathlib.Core.Path.{◌∙◌, sym}
use native.Mathlib.Omega.{arith}
use Rattle.word_numbers.proofs.Numbers.{fraction-fits, fraction-none, fraction-not, fraction-of}
use Rattle.word_numbers.proofs.fraction.Goals as goal
use Rattle.word_numbers.proofs.fraction.Goals.{then-count-end-eq0-via-then-count-end-eq0, then-count-end-eq0-via-else-count-end-eq0+then-not-word_ends}

pub returns-then-count-end-eq0 : goal.returns-then-count-end-eq0
returns-then-count-end-eq0 c =
    let a = c.args in
    elim c.then-count-end-eq0.branch [ then-count-end-eq0-via-then-count-end-eq0 w ↦ fraction-none a.text.now a.at a.count a.whole c.seven-f.result.next c.seven-f.result.value c.digits_end-end.result c.seven-f.ensures c.digits_end-end.ensures w.if-count-end-eq0.true | then-count-end-eq0-via-else-count-end-eq0+then-not-word_ends w ↦ fraction-not a.text.now a.at a.count a.whole c.seven-f.result.next c.seven-f.result.value c.digits_end-end.result c.seven-f.ensures c.digits_end-end.ensures (sym w.if-not-word_ends.true ∙ w.word_ends.ensures) ]

pub overflow_mul-result : goal.overflow_mul-result
overflow_mul-result c =
    let a = c.args in
    let q = fraction-fits a.text.now a.at a.count a.whole c.seven-f.result.next c.seven-f.result.value c.digits_end-end.result c.seven-f.ensures c.digits_end-end.ensures c.requires.2 c.scale.result c.scale.ensures in
    omega arith

pub returns : goal.returns
returns c =
    let a = c.args in
    fraction-of a.text.now a.at a.count a.whole c.seven-f.result.next c.seven-f.result.value c.digits_end-end.result c.seven-f.ensures c.digits_end-end.ensures c.if-count-end-eq0.false (sym c.if-not-word_ends.false ∙ c.word_ends.ensures) c.scale.result c.scale.ensures
