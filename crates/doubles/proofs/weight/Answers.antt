-- Both ways are whole numbers that a double holds (`way_up`).
use mathlib.Core.Path.{ap₂}
use lib.Ieee.{binary64, div}
use Rattle.rounding.proofs.Bits.{read-back-small}
use Rattle.rounding.proofs.Order.{up, lt→up}
use Rattle.doubles.specs.Doubles.{weight_of}
use Rattle.doubles.proofs.Whole.{way_up}
use Rattle.doubles.proofs.weight.Goals as goal

pub returns : goal.returns
unfolding weight_of
returns c =
    let p = c.requires in
    rw (read-back-small c.args.low p.2, read-back-small c.args.high p.3, read-back-small c.args.t p.4)
    (ap₂ (div binary64) (way_up c.args.low c.args.t (up p.0) p.2 p.4) (way_up c.args.low c.args.high (lt→up p.1) p.2 p.3))
