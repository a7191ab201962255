-- The keyword, the range, the corners, the line's end.
use Rattle.std.proofs.Common.{ap, ◌++◌, map, take, drop, arith}
use Rattle.references.specs.Written.{written_number, written_corner}
use Rattle.keywords.specs.Keywords.{keyword_of}
use Rattle.tables.specs.Rows.{range_numbers}
use Rattle.tidy_writer.specs.Rows.{kind_keyword, range_count, stored_corners}
use Rattle.tidy_words.proofs.Emissions.{emitted_then, emitted-is, emitted-whole}
use Rattle.tidy_writer.proofs.Turns.{emitted-line, spaced-append}
use Rattle.tidy_writer.proofs.element.element_line.Goals as goal

pub emit_numbers-first-requires : goal.emit_numbers-first-requires
emit_numbers-first-requires c = omega (arith, (emitted-whole c.emit-words.ensures).ends)

pub returns : goal.returns
returns c =
    let a = c.args in
    let e = a.element in
    let ns = map written_number (take (range_count e.kind) (range_numbers a.body)) in
    let cs = map written_corner (stored_corners e.corners.count (drop e.corners.first a.corners.now)) in
    let k = ap keyword_of c.kind_keyword.ensures in
    let n = rw (c.range_count.ensures, c.range_row-range.ensures) at c.emit_numbers-first.ensures in
    emitted-line (keyword_of (kind_keyword e.kind)) (ns ++ cs) (emitted-is k (emitted-whole c.emit-words.ensures))
    (emitted-is (spaced-append ns cs) (emitted_then n c.emit_corners-end.ensures)) (emitted-whole c.emit.ensures)
