-- The keyword, the numbers, the line's end.
use mathlib.Core.List.{map}
use native.Mathlib.Omega.{arith}
use lib.ListN.{take, drop}
use Rattle.references.specs.Written.{written_number}
use Rattle.keywords.specs.Keywords.{keyword_of}
use Rattle.tidy_writer.proofs.Turns.{emitted-line}
use Rattle.tidy_words.proofs.Emissions.{emitted-whole}
use Rattle.tidy_writer.proofs.vertices.number_line.Goals as goal

pub emit_numbers-end-requires : goal.emit_numbers-end-requires
emit_numbers-end-requires c = omega (arith, (emitted-whole c.emit-words.ensures).ends)

pub returns : goal.returns
returns c =
    let a = c.args in
    emitted-line (keyword_of a.statement) (map written_number (take a.count (drop a.first a.values.now)))
    (emitted-whole c.emit-words.ensures) c.emit_numbers-end.ensures (emitted-whole c.emit.ensures)
