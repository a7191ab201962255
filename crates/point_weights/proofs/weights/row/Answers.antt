-- The row is the rule's (`rule`).
use native.Mathlib.Omega.{arith}
use Rattle.point_weights.proofs.Table.{rule}
use Rattle.point_weights.proofs.weights.row.Goals as goal

pub returns : goal.returns
returns c = rule c.weights.ensures c.args.j (omega arith) _
