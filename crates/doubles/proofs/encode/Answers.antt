-- A number in range is kept by its sum with the anchor (`encode-sum`).
use Rattle.rounding.proofs.Bits.{read-back-small}
use Rattle.doubles.proofs.Whole.{encode-sum}
use Rattle.doubles.proofs.encode.Goals as goal

pub returns : goal.returns
returns c = rw (read-back-small c.args.z c.requires) (encode-sum c.args.z c.requires)
