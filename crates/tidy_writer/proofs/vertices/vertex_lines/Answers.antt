-- What is left of the records comes to all of them.
use Rattle.std.proofs.Common.{◌≡◌, ◌+◌, ◌-◌, ◌*◌, drop, ap₂, arith}
use Rattle.text.specs.Written.{written_lines}
use Rattle.tidy_writer.specs.Rows.{vertex_rows}
use Rattle.tidy_words.proofs.Emissions.{left-begins, left-turn, left-ends}
use Rattle.tidy_writer.proofs.Turns.{rows-turn, rows_none}
use Rattle.tidy_writer.proofs.vertices.vertex_lines.Goals as goal

pub loop-k-init : goal.loop-k-init
loop-k-init c =
    let r = c.args.rows.now in
    left-begins c.args.at c.args.out.now c.requires.2
    (ap₂ (λ n i. written_lines (vertex_rows r.statement r.counted r.weights r.width n (drop i r.values.now))) (let n : c.args.used - 0 ≡ c.args.used = omega arith in n) (let i : r.width * 0 ≡ 0 = omega arith in i))

pub loop-k-preserved : goal.loop-k-preserved
loop-k-preserved c =
    let r = c.args.rows.now in
    left-turn c.loop-k.invariant (rows-turn r.statement r.counted r.weights r.width r.values.now c.loop-k.k (c.args.used - c.loop-k.k) (c.args.used - (c.loop-k.k + 1)) (omega arith)) c.row_line-end.ensures

pub returns : goal.returns
returns c =
    let r = c.args.rows.now in
    left-ends c.loop-k.invariant (rows_none r.statement r.counted r.weights r.width (drop (r.width * c.loop-k.k) r.values.now) (c.args.used - c.loop-k.k) (omega arith))
