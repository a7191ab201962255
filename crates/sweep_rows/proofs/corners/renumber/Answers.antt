-- The invariant: the corners of the elements passed have their new numbers, and those to come are as lent.
use Rattle.sweep_rows.proofs.Renumbering.{runs_none, runs-more, run_fits}
use native.Mathlib.Omega.{arith}
use Rattle.sweep_rows.proofs.corners.renumber.Goals as goal

pub loop-i-init : goal.loop-i-init
loop-i-init c = let a = c.args in runs_none a.used a.numbers.now a.elements.now a.corners.now a.used.elements

pub renumber_run-requires : goal.renumber_run-requires
renumber_run-requires c = let m = c.loop-i in rw c.element_in-e.ensures (run_fits c.args.used c.args.numbers.now c.args.elements.now c.loop-i.invariant (omega arith) (c.requires.0 c.loop-i.i (omega arith)) c.requires.1)

pub loop-i-preserved : goal.loop-i-preserved
loop-i-preserved c = let m = c.loop-i in runs-more c.args.used c.args.numbers.now c.args.elements.now c.loop-i.invariant (omega arith) (c.requires.0 c.loop-i.i (omega arith)) (rw c.element_in-e.ensures at c.renumber_run.ensures)
