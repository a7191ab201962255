-- The rows that are left have the letter's row if all of them have.
use Rattle.spellings.proofs.Write.{sought, further, row_here, no_row}
use Rattle.spellings.proofs.row_of.Goals as goal

pub loop-row-init : goal.loop-row-init
loop-row-init c = sought c.args.table.now c.args.letter c.args.rows c.requires

pub returns-then-letter-table : goal.returns-then-letter-table
returns-then-letter-table c = row_here c.loop-row.invariant c.loop-row-test.true c.if-letter-table.true

pub loop-row-preserved : goal.loop-row-preserved
loop-row-preserved c = further c.loop-row.invariant c.loop-row-test.true c.if-letter-table.false

pub returns : goal.returns
returns c = no_row c.loop-row.invariant c.loop-row-test.false
