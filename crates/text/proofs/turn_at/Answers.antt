-- Each answer is one law of a place between words.
use borrow.Author.Rules.{rules}
use Rattle.text.proofs.Places as P
use Rattle.text.proofs.turn_at.Goals as goal

pub overflow_add-result : goal.overflow_add-result
overflow_add-result c =
    let met = P.end-met c.args.text.now c.args.at c.requires.0 _ c.line_end-n.ensures c.if-n-gt0.true in
    let last = met.to in
    search rules

pub returns-then-n-gt0 : goal.returns-then-n-gt0
returns-then-n-gt0 c =
    P.end-met c.args.text.now c.args.at c.requires.0 _ c.line_end-n.ensures c.if-n-gt0.true

pub overflow_add-result-then-m-gt0-2 : goal.overflow_add-result-then-m-gt0-2
overflow_add-result-then-m-gt0-2 c =
    let met = P.join-met c.args.text.now c.args.at c.requires.0 c.if-text-at-eq92.true _ c.line_end-m.ensures c.if-m-gt0.true in
    let last = met.to in
    search rules

pub returns-then-m-gt0 : goal.returns-then-m-gt0
returns-then-m-gt0 c =
    P.join-met c.args.text.now c.args.at c.requires.0 c.if-text-at-eq92.true _ c.line_end-m.ensures c.if-m-gt0.true

pub returns-then-text-at-eq92 : goal.returns-then-text-at-eq92
returns-then-text-at-eq92 c =
    P.bad-back c.args.text.now c.args.at c.requires.0 c.requires.1 c.requires.2 c.if-text-at-eq35.false _ c.line_end-n.ensures c.if-n-gt0.false c.if-text-at-eq92.true _ c.line_end-m.ensures c.if-m-gt0.false

pub returns : goal.returns
returns c =
    P.bad-other c.args.text.now c.args.at c.requires.0 c.requires.1 c.requires.2 c.if-text-at-eq35.false _ c.line_end-n.ensures c.if-n-gt0.false c.if-text-at-eq92.false
