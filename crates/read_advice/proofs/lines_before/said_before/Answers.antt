-- The loop keeps what was tallied with what is left (`Going`); each line takes bytes off what is left.
use native.Mathlib.Omega.{arith}
use Rattle.read_advice.proofs.Going as G
use Rattle.read_advice.proofs.lines_before.said_before.Goals as goal

pub loop-at-init : goal.loop-at-init
loop-at-init c = G.going_start c.args.text.now c.args.place _ c.requires c.start-said.ensures

pub scan_line-requires : goal.scan_line-requires
scan_line-requires c = c.loop-at.invariant.to

pub returns-in-Err : goal.returns-in-Err
returns-in-Err c =
    (G.going-stops c.args.text.now c.args.place c.loop-at.said.tally c.loop-at.at c.loop-at.invariant c.loop-at-test.true c.scan_line.result c.scan_line.ensures _ c.in-Err.is, c.loop-at.invariant.to)

pub returns-then-place-next : goal.returns-then-place-next
returns-then-place-next c =
    (G.going-holds c.args.text.now c.args.place c.loop-at.said.tally c.loop-at.at c.loop-at.invariant c.loop-at-test.true c.scan_line.result c.scan_line.ensures _ _ c.in-Ok.is c.if-place-next.true, c.loop-at.invariant.to)

pub with_line-said-requires : goal.with_line-said-requires
with_line-said-requires c =
    let few = c.loop-at.invariant.few in
    let to = c.loop-at.invariant.to in
    let short = c.requires in
    (to, omega arith)

pub loop-at-smaller : goal.loop-at-smaller
loop-at-smaller c =
    (G.going_on c.args.text.now c.args.place c.loop-at.said.tally c.loop-at.at c.loop-at.invariant c.loop-at-test.true c.scan_line.result c.scan_line.ensures _ _ c.in-Ok.is c.if-place-next.false _ c.with_line-said.ensures).1

pub loop-at-preserved : goal.loop-at-preserved
loop-at-preserved c =
    (G.going_on c.args.text.now c.args.place c.loop-at.said.tally c.loop-at.at c.loop-at.invariant c.loop-at-test.true c.scan_line.result c.scan_line.ensures _ _ c.in-Ok.is c.if-place-next.false _ c.with_line-said.ensures).0

pub returns : goal.returns
returns c =
    (G.going-ends c.args.text.now c.args.place c.loop-at.said.tally c.loop-at.at c.loop-at.invariant c.loop-at-test.false, c.loop-at.invariant.to)
