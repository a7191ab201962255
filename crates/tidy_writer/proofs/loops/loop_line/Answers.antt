-- The keyword, the part with which the loop begins, those that go on, the line's end.
use Prim.Native.Nat.{ℕ, ◌*◌}
use mathlib.Core.Path.{sym, ap, ◌∙◌}
use mathlib.Core.List.{◌++◌}
use lib.Dec.{eqb}
use lib.ListN.{get_or, drop}
use Rattle.tables.specs.Records.{loop_width, span_width}
use Rattle.keywords.specs.Keywords.{keyword_of}
use Rattle.tidy_form.specs.Printed.{loop_keyword}
use Rattle.tidy_writer.specs.Rows.{part_words, going_on}
use Rattle.tidy_words.proofs.Emissions.{emitted-none, emitted_then, emitted-is, emitted-whole}
use Rattle.tidy_writer.proofs.Turns.{emitted-line, begins-first, loop-words, begun-none, begun-line}
use Rattle.tidy_writer.proofs.loops.loop_line.Goals as goal

pub returns-then-part-eq0 : goal.returns-then-part-eq0
returns-then-part-eq0 c =
    let part = c.part_at-part in
    let a = c.args in
    emitted-is (begun-none a.loops.now a.spans.now a.first c.part_at-part.result c.part_at-part.ensures a.count c.if-part-eq0.true) (emitted-none a.at a.out.now c.requires.0)

pub returns : goal.returns
returns c =
    let part = c.part_at-part in
    let a = c.args in
    let l = drop (loop_width * a.first) a.loops.now in
    let z = drop (span_width * a.first) a.spans.now in
    let k = ap keyword_of (c.loop_keyword.ensures ∙ ap (λ (n : ℕ). loop_keyword (eqb n 2)) (sym (begins-first a.loops.now a.spans.now a.first c.part_at-part.result c.part_at-part.ensures))) in
    emitted-is (begun-line a.loops.now a.spans.now a.first c.part_at-part.result c.part_at-part.ensures a.count c.if-part-eq0.false)
    (emitted-line (keyword_of (loop_keyword (eqb (get_or l 0 0) 2))) (part_words l z ++ going_on a.count (drop loop_width l) (drop span_width z)) (emitted-is k (emitted-whole c.emit-words.ensures))
    (emitted-is (loop-words a.loops.now a.spans.now a.first c.part_at-part.result c.part_at-part.ensures a.count) (emitted_then c.emit_part-rest.ensures c.emit_going_on-end.ensures))
    (emitted-whole c.emit.ensures))
