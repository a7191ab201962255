-- What is left of the loops comes to all of them.
use Rattle.std.proofs.Common.{◌≡◌, ◌+◌, ◌-◌, ◌*◌, drop, ap₂, arith}
use Rattle.tables.specs.Records.{loop_width, span_width}
use Rattle.text.specs.Written.{written_lines}
use Rattle.tidy_writer.specs.Rows.{loop_lines}
use Rattle.tidy_words.proofs.Emissions.{left-begins, left-turn, left-ends}
use Rattle.tidy_writer.proofs.Turns.{loops-turn, loops-none}
use Rattle.tidy_writer.proofs.loops.loop_lines.Goals as goal

pub loop-k-init : goal.loop-k-init
loop-k-init c =
    let a = c.args in
    left-begins a.at a.out.now c.requires.0
    (ap₂ (λ n i. written_lines (loop_lines n (drop (loop_width * i) a.loops.now) (drop (span_width * i) a.spans.now))) (let n : a.count - 0 ≡ a.count = omega arith in n) (let i : a.first + 0 ≡ a.first = omega arith in i))

pub loop-k-preserved : goal.loop-k-preserved
loop-k-preserved c =
    let a = c.args in
    let n : a.count - (c.loop-k.k + 1) ≡ a.count - c.loop-k.k - 1 = omega arith in
    let i : a.first + (c.loop-k.k + 1) ≡ a.first + c.loop-k.k + 1 = omega arith in
    rw (n, i)
    (left-turn c.loop-k.invariant (loops-turn a.loops.now a.spans.now (a.first + c.loop-k.k) (a.count - c.loop-k.k) (a.count - c.loop-k.k - 1) (omega arith)) c.loop_line-end.ensures)

pub returns : goal.returns
returns c =
    let a = c.args in
    left-ends c.loop-k.invariant (loops-none (drop (loop_width * (a.first + c.loop-k.k)) a.loops.now) (drop (span_width * (a.first + c.loop-k.k)) a.spans.now) (a.count - c.loop-k.k) (omega arith))
