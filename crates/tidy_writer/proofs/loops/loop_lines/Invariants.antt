-- The parts from the one that the loop has come to are left.
use Rattle.std.proofs.Common.{◌+◌, ◌-◌, ◌*◌, drop}
use Rattle.tables.specs.Records.{loop_width, span_width}
use Rattle.text.specs.Written.{written_lines}
use Rattle.tidy_writer.specs.Rows.{loop_lines}
use Rattle.tidy_words.proofs.Emissions.{Left}
use Rattle.tidy_writer.proofs.loops.loop_lines.Given as goal

abbrev pub invariant-loop-k : goal.invariant-loop-k
invariant-loop-k l =
    Left l.at (written_lines (loop_lines l.count (drop (loop_width * l.first) l.loops) (drop (span_width * l.first) l.spans))) l.initial.out l.end (written_lines (loop_lines (l.count - l.k) (drop (loop_width * (l.first + l.k)) l.loops) (drop (span_width * (l.first + l.k)) l.spans))) l.out
