-- The entries passed are numbers, the rest are marks: `Numbered`.
use Rattle.std.proofs.Common.{◌∙◌, arith}
use Rattle.sweep_marks.proofs.Numbering.{numbered-none, numbered_more, numbered-most, mark-stays, mark-numbered}
use Rattle.sweep_marks.proofs.number_marks.Goals as goal
use Rattle.sweep_marks.proofs.number_marks.Goals.{then-mark-ne0, else-mark-ne0}

pub loop-mark-init : goal.loop-mark-init
loop-mark-init c = numbered-none c.args.marks.now

pub overflow_add-kept : goal.overflow_add-kept
overflow_add-kept c = let n = c.loop-mark.invariant in record { fits = omega (arith, numbered-most n, n.long, c.requires) }

pub loop-mark-preserved : goal.loop-mark-preserved
loop-mark-preserved c =
    let l = c.loop-mark in
    elim c.if-mark-ne0.branch [
      | then-mark-ne0 w ↦
          let one = mark-numbered l.marks l.mark-index l.kept w.if-mark-ne0.true in
          numbered_more l.invariant c.loop-mark-test.true (w.kept-is ∙ one.0) (w.marks-is ∙ one.1)
      | else-mark-ne0 w ↦
          let one = mark-stays l.marks l.mark-index l.kept w.if-mark-ne0.false in
          numbered_more l.invariant c.loop-mark-test.true (w.kept-is ∙ one.0) (w.marks-is ∙ one.1)
    ]
