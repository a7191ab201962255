-- Past the end nothing is left, and before it the byte is at the front.
use mathlib.Core.Path.{sym, ap}
use lib.ListN.{drop_of_length-le}
use lib.Seq.{drop-cons}
use Rattle.digits.specs.Straight.{first}
use Rattle.digits.proofs.byte_at.Goals as goal

pub returns-then-at-text : goal.returns-then-at-text
returns-then-at-text c = sym (ap first (drop-cons c.args.text.now c.args.at 0 c.if-at-text.true))

pub returns-else-at-text : goal.returns-else-at-text
returns-else-at-text c = sym (ap first (drop_of_length-le c.args.text.now c.if-at-text.false))
