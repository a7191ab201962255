-- The minus apart, by how many digits there are.
use mathlib.Core.Path.{refl, ◌∙◌}
use native.Mathlib.Omega.{arith}
use Rattle.references.proofs.References.{one_if, minus-fits, part_none, part-many, part_of}
use Rattle.references.proofs.reference.part_from.Goals as goal
use Rattle.references.proofs.reference.part_from.Goals.{then-end-start-via-then-end-start, then-end-start-via-else-end-start+then-end-start-gt10}

pub overflow_add-start : goal.overflow_add-start
overflow_add-start c =
    let q = minus-fits c.args.text.now c.args.at c.from.result c.args.back c.requires.at_in_bounds c.requires.back_value (c.from.ensures ∙ one_if c.args.back) in
    omega arith

pub whole_run-w-requires : goal.whole_run-w-requires
whole_run-w-requires c =
    minus-fits c.args.text.now c.args.at c.from.result c.args.back c.requires.at_in_bounds c.requires.back_value (c.from.ensures ∙ one_if c.args.back)

pub returns-then-end-start : goal.returns-then-end-start
returns-then-end-start c =
    elim c.then-end-start.branch [ then-end-start-via-then-end-start w ↦ (refl, part_none c.args.text.now c.args.at c.from.result c.args.back c.requires.at_in_bounds c.requires.back_value (c.from.ensures ∙ one_if c.args.back) c.whole_run-w.result.next c.whole_run-w.result.value c.whole_run-w.ensures w.if-end-start.true) | then-end-start-via-else-end-start+then-end-start-gt10 w ↦ (refl, part-many c.args.text.now c.args.at c.from.result c.args.back c.requires.at_in_bounds c.requires.back_value (c.from.ensures ∙ one_if c.args.back) c.whole_run-w.result.next c.whole_run-w.result.value c.whole_run-w.ensures w.if-end-start-gt10.true) ]

pub returns : goal.returns
returns c =
    part_of c.args.text.now c.args.at c.from.result c.args.back c.requires.at_in_bounds c.requires.back_value (c.from.ensures ∙ one_if c.args.back) c.whole_run-w.result.next c.whole_run-w.result.value c.whole_run-w.ensures c.args.count c.item_of.result c.if-end-start.false c.if-end-start-gt10.false c.item_of.ensures
