-- The loop keeps where the word ends (`InWord`); each turn takes a byte off what is left.
use mathlib.Core.Path.{refl}
use Rattle.text.proofs.Loops as L
use Rattle.text.proofs.word_end.Goals as goal

pub loop-i-init : goal.loop-i-init
loop-i-init c = record { to = c.requires; ends = refl }

pub loop-i-preserved : goal.loop-i-preserved
loop-i-preserved c = L.word-turn c.loop-i.invariant c.loop-i-test.true _ c.is_word.ensures c.if-not-is_word.false

pub returns-then-not-is_word : goal.returns-then-not-is_word
returns-then-not-is_word c = L.word-stop c.loop-i.invariant c.loop-i-test.true _ c.is_word.ensures c.if-not-is_word.true

pub returns : goal.returns
returns c = L.word-done c.loop-i.invariant c.loop-i-test.false
