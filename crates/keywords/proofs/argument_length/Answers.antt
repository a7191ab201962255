-- The row found by the letter has the spelling, and it is as long as its word.
use mathlib.Core.Path.{ap}
use native.Mathlib.Omega.{arith}
use lib.ListN.{length}
use Rattle.keywords.proofs.Arguments.{argument-row}
use Rattle.keywords.proofs.argument_length.Goals as goal

pub returns : goal.returns
returns c =
    let n = ap length (argument-row c.argument_table-table.result.now c.row_of-from.result _ c.args.argument c.argument_table-table.ensures c.row_of-from.ensures.1 c.sign_of.ensures) in
    omega arith
