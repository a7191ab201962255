-- The keyword, the number, the line's end, where the numbers differ.
use mathlib.Core.List.{[], ◌∷◌}
use Rattle.references.specs.Written.{written_whole}
use Rattle.keywords.specs.Keywords.{keyword_of}
use Rattle.statements.specs.declared.Carried.TheVariants.{Smoothing}
use Rattle.tidy_words.proofs.Emissions.{emitted-none, emitted-is, emitted-spaced, emitted-whole}
use Rattle.tidy_writer.proofs.Turns.{emitted-line, spaced-one, smoothed-none, smoothed-line}
use Rattle.tidy_writer.proofs.elements.smoothing_line.Goals as goal

pub returns-then-before-smoothing : goal.returns-then-before-smoothing
returns-then-before-smoothing c =
    let a = c.args in
    emitted-is (smoothed-none a.before a.smoothing c.if-before-smoothing.true) (emitted-none a.at a.out.now c.requires)

pub returns : goal.returns
returns c =
    let a = c.args in
    emitted-is (smoothed-line a.before a.smoothing c.if-before-smoothing.false)
    (emitted-line (keyword_of Smoothing) (written_whole a.smoothing ∷ []) (emitted-whole c.emit-words.ensures) (emitted-is (spaced-one (written_whole a.smoothing)) (emitted-spaced c.emit_spaced-end.ensures)) (emitted-whole c.emit.ensures))
