-- The parm lines, the loops, the end line.
use mathlib.Core.List.{[], ◌∷◌}
use Rattle.tidy_writer.specs.Rows.{parameter_lines, body_loops, end_line}
use Rattle.tidy_words.proofs.Emissions.{emitted_then, emitted-is, emitted-whole}
use Rattle.tidy_writer.proofs.Turns.{one_line, three-lines}
use Rattle.tidy_writer.proofs.body.closing_lines.Goals as goal

pub returns : goal.returns
returns c =
    let a = c.args in
    emitted-is (three-lines (parameter_lines a.t.now.parameters.now a.kind a.body) (body_loops a.t.now.loops.now a.t.now.spans.now a.body) (end_line ∷ []))
    (emitted_then c.parameter_lines-trims.ensures
    (emitted_then c.loop_lines-end.ensures (emitted-is (one_line end_line) (emitted_then (emitted-whole c.emit-last.ensures) (emitted-whole c.emit.ensures)))))
