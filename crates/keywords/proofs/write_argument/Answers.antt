-- The row found by the letter has the spelling, and its word is copied.
use mathlib.Core.Path.{ap}
use native.Mathlib.Omega.{arith}
use lib.ListN.{length}
use Rattle.keywords.proofs.Arguments.{argument-row}
use Rattle.keywords.proofs.write_argument.Goals as goal

pub copy_word-requires : goal.copy_word-requires
copy_word-requires c =
    let n = ap length (argument-row c.argument_table-table.result.now c.row_of-from.result _ c.args.argument c.argument_table-table.ensures c.row_of-from.ensures.1 c.sign_of.ensures) in
    omega (arith, c.requires)

pub returns : goal.returns
returns c =
    let w = argument-row c.argument_table-table.result.now c.row_of-from.result _ c.args.argument c.argument_table-table.ensures c.row_of-from.ensures.1 c.sign_of.ensures in
    let e = c.copy_word.ensures in
    (rw w at e.0, rw w at e.1)
