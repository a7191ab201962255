-- The row that the walk of the table finds is the row of the definition.
use Rattle.spellings.proofs.Rows.{row-found, row-none, rows-ahead}
use Rattle.keywords.proofs.Arguments.{laid}
use borrow.Author.Rules.{rules}
use Rattle.keywords.proofs.argument_row.Goals as goal

pub returns-then-text-at : goal.returns-then-text-at
returns-then-text-at c =
    let a = c.args in
    row-none laid a.text.now a.at c.if-text-at.true

pub row_at-requires : goal.row_at-requires
row_at-requires c =
    record { at_in_bounds = search rules; rows_in_bounds = (search rules, rows-ahead laid c.argument_table.result.now c.argument_table.ensures) }

pub returns : goal.returns
returns c =
    row-found laid c.args.text.now c.argument_table.result.now c.args.at c.row_at.result c.argument_table.ensures c.row_at.ensures
