-- The corners passed are wide: what is left decides (`WidesLeft`).
use Prim.Native.Nat.{◌+◌, ◌*◌, ◌-◌}
use mathlib.Core.Path.{sym, ap, ◌∙◌}
use mathlib.Core.Bool.{not}
use native.Mathlib.Omega.{arith}
use borrow.Author.Tests.{not-true, not-false}
use Rattle.read_elements.proofs.Bodies.{wides-begin, wides-further, wides-stop, wides-turn, wides-end}
use Rattle.read_elements.proofs.body.all_wide.Goals as goal

pub loop-k-init : goal.loop-k-init
loop-k-init c = let a = c.args in wides-begin a.vp.now a.corners.now a.first a.count c.requires

pub returns-then-not-is_wide : goal.returns-then-not-is_wide
returns-then-not-is_wide c =
    let a = c.args in
    wides-stop a.vp.now a.corners.now a.first a.count (a.first + 3 * c.loop-k.k) (a.count - c.loop-k.k) c.loop-k.invariant (omega arith) (sym c.is_wide.ensures ∙ not-true _ (ap not c.if-not-is_wide.true))

pub loop-k-preserved : goal.loop-k-preserved
loop-k-preserved c =
    let a = c.args in
    wides-further a.vp.now a.corners.now a.first a.count c.loop-k.k c.loop-k-test.true
    (wides-turn a.vp.now a.corners.now a.first a.count (a.first + 3 * c.loop-k.k) (a.count - c.loop-k.k) c.loop-k.invariant (omega arith) (sym c.is_wide.ensures ∙ not-false _ (ap not c.if-not-is_wide.false)))

pub returns : goal.returns
returns c =
    let a = c.args in
    wides-end a.vp.now a.corners.now a.first a.count (a.first + 3 * c.loop-k.k) (a.count - c.loop-k.k) c.loop-k.invariant (omega arith)
