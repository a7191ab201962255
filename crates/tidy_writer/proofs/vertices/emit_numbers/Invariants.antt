-- The numbers after those that the loop has had are left.
use Rattle.std.proofs.Common.{map, take, drop}
use Rattle.references.specs.Written.{written_number}
use Rattle.tidy_words.specs.Emitting.{spaced}
use Rattle.tidy_words.proofs.Emissions.{Left}
use Rattle.tidy_writer.proofs.vertices.emit_numbers.Given as goal

abbrev pub invariant-loop-value : goal.invariant-loop-value
invariant-loop-value l =
    let all = take l.count (drop l.first l.values) in
    Left l.at (spaced (map written_number all)) l.initial.out l.end (spaced (map written_number (drop l.value-index all))) l.out
