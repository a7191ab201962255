-- What is left of the parts that go on comes to all of them.
use Rattle.std.proofs.Common.{◌≡◌, ◌+◌, ◌-◌, ◌*◌, drop, ap, arith}
use Rattle.tables.specs.Records.{loop_width, span_width}
use Rattle.tidy_words.specs.Emitting.{spaced}
use Rattle.tidy_writer.specs.Rows.{going_on}
use Rattle.tidy_words.proofs.Emissions.{left-begins, left-turn, left-ends}
use Rattle.tidy_writer.proofs.Turns.{going-turn, going-stops, going-none}
use Rattle.tidy_writer.proofs.loops.emit_going_on.Goals as goal

pub loop-i-init : goal.loop-i-init
loop-i-init c =
    let a = c.args in
    left-begins a.at a.out.now c.requires.0
    (ap (λ n. spaced (going_on n (drop (loop_width * a.first) a.loops.now) (drop (span_width * a.first) a.spans.now))) (let n : a.first + a.count - a.first ≡ a.count = omega arith in n))

pub returns-then-part-gt0 : goal.returns-then-part-gt0
returns-then-part-gt0 c =
    let a = c.args in
    left-ends c.loop-i.invariant (going-stops a.loops.now a.spans.now c.loop-i.i c.part_at-part.result c.part_at-part.ensures (a.first + a.count - c.loop-i.i) (omega arith))

pub loop-i-preserved : goal.loop-i-preserved
loop-i-preserved c =
    let a = c.args in
    left-turn c.loop-i.invariant (going-turn a.loops.now a.spans.now c.loop-i.i c.part_at-part.result c.part_at-part.ensures (a.first + a.count - c.loop-i.i) (a.first + a.count - (c.loop-i.i + 1)) (omega arith) (omega arith)) c.emit_part-end.ensures

pub returns : goal.returns
returns c =
    let a = c.args in
    left-ends c.loop-i.invariant (going-none (drop (loop_width * c.loop-i.i) a.loops.now) (drop (span_width * c.loop-i.i) a.spans.now) (a.first + a.count - c.loop-i.i) (omega arith))
