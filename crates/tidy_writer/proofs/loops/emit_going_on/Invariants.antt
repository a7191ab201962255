-- The parts from the one that the loop has come to are left.
use Rattle.std.proofs.Common.{◌+◌, ◌-◌, ◌*◌, drop}
use Rattle.tables.specs.Records.{loop_width, span_width}
use Rattle.tidy_words.specs.Emitting.{spaced}
use Rattle.tidy_writer.specs.Rows.{going_on}
use Rattle.tidy_words.proofs.Emissions.{Left}
use Rattle.tidy_writer.proofs.loops.emit_going_on.Given as goal

abbrev pub invariant-loop-i : goal.invariant-loop-i
invariant-loop-i l =
    Left l.at (spaced (going_on l.count (drop (loop_width * l.first) l.loops) (drop (span_width * l.first) l.spans))) l.initial.out l.end (spaced (going_on (l.first + l.count - l.i) (drop (loop_width * l.i) l.loops) (drop (span_width * l.i) l.spans))) l.out
