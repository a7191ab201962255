-- The byte is at the front.
use mathlib.Core.Path.{sym, ap}
use lib.Seq.{drop-cons}
use Rattle.digits.specs.Straight.{first}
use Rattle.digits.proofs.byte_in.Goals as goal

pub returns : goal.returns
returns c = sym (ap first (drop-cons c.args.text.now c.args.at 0 c.requires))
