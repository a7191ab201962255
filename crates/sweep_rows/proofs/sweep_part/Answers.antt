-- The part is swept and put back.
use Rattle.sweep_rows.proofs.Sweeping.{lent_alike, part-long, part-swept}
use Rattle.sweep_marks.specs.Marks.{kind_of, named_in_tables}
use native.Mathlib.Omega.{arith}
use Rattle.sweep_rows.proofs.sweep_part.Goals as goal

pub sweep_table-requires : goal.sweep_table-requires
sweep_table-requires c = lent_alike (part-long c.args.numbers.now c.args.from c.args.n c.requires.0) (c.requires.1, c.requires.2, omega arith)

pub returns : goal.returns
returns c = let t = c.sweep_table in part-swept (named_in_tables c.args.count c.args.elements.now c.args.corners.now (kind_of c.args.table)) c.args.width c.args.from c.args.n c.args.numbers.now c.args.values.now c.requires.0 c.sweep_table.ensures.0 c.sweep_table.ensures.1 c.sweep_table.ensures.2
