-- The loop keeps its place within the text.
use Rattle.read_bodies.proofs.Steps as S
use Rattle.read_advice.proofs.along.judge_order.Goals as goal

pub loop-done-preserved : goal.loop-done-preserved
loop-done-preserved c = (S.step-number c.args.text.now c.loop-done.i c.in-Some-Number.ensures c.in-Some-Number.field-0-is).to
