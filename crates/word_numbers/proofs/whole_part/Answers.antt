-- Fewer digits than were looked at are all there are.
use Rattle.digits.proofs.Runs.{few-whole}
use Rattle.word_numbers.proofs.whole_part.Goals as goal

pub returns-then-w-at-lt11 : goal.returns-then-w-at-lt11
returns-then-w-at-lt11 c =
    let f = c.digits_upto-w in
    let a = c.args in
    few-whole c.digits_upto-w.ensures c.if-w-at-lt11.true
