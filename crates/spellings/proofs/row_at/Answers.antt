-- The rows that are left find what all of them find; a row whose first letter differs is passed.
use Prim.Native.Nat.{◌*◌}
use mathlib.Core.Path.{sym, ◌∙◌}
use Rattle.spellings.proofs.Walk.{start, turn, here, nowhere, differs, not-here}
use Rattle.spellings.proofs.row_at.Goals as goal
use Rattle.spellings.proofs.row_at.Goals.{then-table-from+in_default, else-table-from}

pub loop-row-init : goal.loop-row-init
loop-row-init c =
    start c.args.text.now c.args.at c.args.table.now c.args.rows c.requires.rows_in_bounds.0 c.requires.rows_in_bounds.1

pub returns-in-Some : goal.returns-in-Some
returns-in-Some c = here c.loop-row.invariant c.loop-row-test.true (sym c.in-Some.is ∙ c.same_word.ensures)

pub loop-row-preserved : goal.loop-row-preserved
loop-row-preserved c =
    let v = c.loop-row.invariant in
    turn v c.loop-row-test.true
    (elim c.if-table-from.branch [ then-table-from+in_default w ↦ not-here c.args.text.now c.args.at c.args.table.now (12 * c.loop-row.row) (sym w.in_default.is ∙ w.same_word.ensures) | else-table-from w ↦ differs v c.loop-row-test.true c.requires.at_in_bounds (λ e. w.if-table-from.false (sym e)) ])

pub returns : goal.returns
returns c = nowhere c.loop-row.invariant c.loop-row-test.false
