-- The row found by the letter has the spelling, and it is as long as its word.
use mathlib.Core.Path.{ap}
use native.Mathlib.Omega.{arith}
use lib.ListN.{length}
use Rattle.keywords.proofs.Keywords.{keyword-row}
use Rattle.keywords.proofs.keyword_length.Goals as goal

pub returns : goal.returns
returns c =
    let n = ap length (keyword-row c.keyword_table-table.result.now c.row_of-from.result _ c.args.statement c.keyword_table-table.ensures c.row_of-from.ensures.1 c.letter_of.ensures) in
    omega arith
