-- By the length of the word.
use Rattle.digits.proofs.Wholes.{name-none, name-long, name-of}
use Rattle.digits.proofs.name.name_at.Goals as goal
use Rattle.digits.proofs.name.name_at.Goals.{then-end-at-via-then-end-at, then-end-at-via-else-end-at+then-end-at-gt255}

pub returns-then-end-at : goal.returns-then-end-at
returns-then-end-at c =
    let a = c.args in
    elim c.then-end-at.branch [ then-end-at-via-then-end-at w ↦ name-none a.text.now a.at c.word_end-end.result c.word_end-end.ensures.0 w.if-end-at.true | then-end-at-via-else-end-at+then-end-at-gt255 w ↦ name-long a.text.now a.at c.word_end-end.result c.word_end-end.ensures.0 w.if-end-at.false w.if-end-at-gt255.true ]

pub returns : goal.returns
returns c =
    let a = c.args in
    name-of a.text.now a.at c.word_end-end.result c.word_end-end.ensures.0 c.if-end-at.false c.if-end-at-gt255.false
