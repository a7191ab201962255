-- The records from the one that the loop has come to are left.
use Rattle.std.proofs.Common.{◌-◌, ◌*◌, drop}
use Rattle.text.specs.Written.{written_lines}
use Rattle.tidy_writer.specs.Rows.{vertex_rows}
use Rattle.tidy_words.proofs.Emissions.{Left}
use Rattle.tidy_writer.proofs.vertices.vertex_lines.Given as goal

abbrev pub invariant-loop-k : goal.invariant-loop-k
invariant-loop-k l =
    let r = l.rows in
    Left l.at (written_lines (vertex_rows r.statement r.counted r.weights r.width l.used r.values.now)) l.initial.out l.end (written_lines (vertex_rows r.statement r.counted r.weights r.width (l.used - l.k) (drop (r.width * l.k) r.values.now))) l.out
