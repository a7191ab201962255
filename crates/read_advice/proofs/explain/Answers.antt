-- A text that is too long has no tally; of any other the lines before the place have.
use Rattle.read_advice.proofs.Going.{tally-long}
use Rattle.read_advice.proofs.explain.Goals as goal

pub returns-then-text-gt16777216 : goal.returns-then-text-gt16777216
returns-then-text-gt16777216 c = (tally-long c.args.text.now c.args.place _ c.if-text-gt16777216.true c.no_advice.ensures.0, c.no_advice.ensures.1)

pub returns : goal.returns
returns c = (c.said_before-before.ensures.0, (c.along_direction.ensures, c.along_direction-2.ensures))
