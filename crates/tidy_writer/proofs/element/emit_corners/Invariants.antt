-- The corners from the one that the loop has come to are left.
use Rattle.std.proofs.Common.{◌-◌, map, drop}
use Rattle.references.specs.Written.{written_corner}
use Rattle.tables.specs.Records.{corner_place}
use Rattle.tidy_words.specs.Emitting.{spaced}
use Rattle.tidy_writer.specs.Rows.{stored_corners}
use Rattle.tidy_words.proofs.Emissions.{Left}
use Rattle.tidy_writer.proofs.element.emit_corners.Given as goal

abbrev pub invariant-loop-k : goal.invariant-loop-k
invariant-loop-k l =
    Left l.at (spaced (map written_corner (stored_corners l.run.count (drop l.run.first l.corners)))) l.initial.out l.end (spaced (map written_corner (stored_corners (l.run.count - l.k) (drop (corner_place l.run l.k) l.corners)))) l.out
