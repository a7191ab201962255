-- The loop keeps the rest of the comment (`InComment`); each turn takes a byte off what is left.
use Rattle.text.proofs.Loops as L
use Rattle.text.proofs.comment_end.Goals as goal

pub loop-i-init : goal.loop-i-init
loop-i-init c = L.comment-holds c.args.text.now c.args.at c.requires.0 c.requires.1

pub returns-then-text-i-eq10 : goal.returns-then-text-i-eq10
returns-then-text-i-eq10 c = L.comment-stop c.loop-i.invariant c.loop-i-test.true c.if-text-i-eq10.true

pub loop-i-preserved : goal.loop-i-preserved
loop-i-preserved c = L.comment-turn c.loop-i.invariant c.loop-i-test.true c.if-text-i-eq10.false

pub returns : goal.returns
returns c = L.comment-done c.loop-i.invariant c.loop-i-test.false
