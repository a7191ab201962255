-- The vertices, and then the elements.
use Rattle.std.proofs.Common.{arith}
use Rattle.tables.specs.Lent.{lent}
use Rattle.tidy_writer.specs.TidyFrom.{vertices_from, elements_from, tidy_from}
use Rattle.tidy_words.proofs.Emissions.{emitted_then, emitted-is}
use Rattle.tidy_writer.proofs.Turns.{lines-append}
use Rattle.tidy_writer.proofs.tidy_text.emit_tidy.Goals as goal

pub elements_lines-requires : goal.elements_lines-requires
elements_lines-requires c = omega (arith, c.all_vertices-first.ensures.ends)

pub returns : goal.returns
unfolding tidy_from
returns c =
    let a = c.args in
    let t = lent a.t.now in
    emitted-is (lines-append (vertices_from a.weights a.used t) (elements_from a.text.now a.used t a.used.elements 0)) (emitted_then c.all_vertices-first.ensures c.elements_lines.ensures)
