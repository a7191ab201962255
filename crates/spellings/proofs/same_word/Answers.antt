-- The words have been the same up to here, so what is left of them decides.
use mathlib.Core.Path.{refl, sym, ◌∙◌}
use native.Mathlib.Omega.{arith}
use Rattle.spellings.proofs.Compare.{ahead_within, turn, short, differ, longer, done}
use Rattle.spellings.proofs.same_word.Goals as goal
use Rattle.spellings.proofs.same_word.Goals.{then-table-j-via-then-table-j, then-table-j-via-else-table-j+then-text-i}

pub loop-at-init : goal.loop-at-init
loop-at-init c = record { rest = refl; end = refl }

pub bounds-text-i : goal.bounds-text-i
bounds-text-i c = ahead_within c.args.text.now c.loop-at.i (sym c.word_ahead.ensures ∙ c.loop-at-test.true)

pub returns-then-table-j : goal.returns-then-table-j
returns-then-table-j c =
    let a = sym c.word_ahead.ensures ∙ c.loop-at-test.true in
    elim c.then-table-j.branch [ then-table-j-via-then-table-j w ↦ short c.loop-at.invariant a w.if-table-j.true | then-table-j-via-else-table-j+then-text-i w ↦ differ c.loop-at.invariant a w.if-table-j.false w.if-text-i.true ]

pub overflow_add-i : goal.overflow_add-i
overflow_add-i c =
    omega (arith, ahead_within c.args.text.now c.loop-at.i (sym c.word_ahead.ensures ∙ c.loop-at-test.true))

pub loop-at-smaller : goal.loop-at-smaller
loop-at-smaller c =
    omega (arith, ahead_within c.args.text.now c.loop-at.i (sym c.word_ahead.ensures ∙ c.loop-at-test.true))

pub loop-at-preserved : goal.loop-at-preserved
loop-at-preserved c =
    turn c.loop-at.invariant (sym c.word_ahead.ensures ∙ c.loop-at-test.true) c.if-table-j.false c.if-text-i.false

pub returns-then-word_ahead : goal.returns-then-word_ahead
returns-then-word_ahead c =
    longer c.loop-at.invariant (sym c.word_ahead.ensures ∙ c.loop-at-test.false) (sym c.word_ahead-2.ensures ∙ c.if-word_ahead.true)

pub returns : goal.returns
returns c =
    done c.loop-at.invariant (sym c.word_ahead.ensures ∙ c.loop-at-test.false) (sym c.word_ahead-2.ensures ∙ c.if-word_ahead.false)
