-- Where a record begins with how many of its numbers were given, these; else all of them.
use mathlib.Core.Path.{sym, ap, ◌∙◌}
use mathlib.Core.List.{List, ◌∷◌, map}
use mathlib.Core.Bool.{Bool}
use lib.IntN.{ℤ}
use lib.ListN.{take, drop}
use Rattle.text.specs.Written.{written_line}
use Rattle.references.specs.Written.{written_number}
use Rattle.keywords.specs.Keywords.{keyword_of}
use Rattle.tidy_writer.specs.Rows.{row_numbers}
use Rattle.tidy_words.proofs.Emissions.{emitted-is}
use Rattle.tidy_writer.proofs.Turns.{counted-row}
use Rattle.tidy_writer.proofs.vertices.row_line.Goals as goal

pub returns-then-rows : goal.returns-then-rows
returns-then-rows c =
    let a = c.args.rows.now in
    let g = c.given_count-count in
    let e = counted-row a.weights a.values.now c.args.first a.width c.given_count-count.result c.requires.0 c.given_count-count.ensures ∙ ap (λ (b : Bool). row_numbers b a.weights (take a.width (drop c.args.first a.values.now))) (sym c.if-rows.true) in
    emitted-is (ap (λ (z : List ℤ). written_line (keyword_of a.statement ∷ map written_number z)) e) c.number_line.ensures

pub returns : goal.returns
returns c =
    let a = c.args.rows.now in
    let e = c.weighted_count-count.ensures ∙ ap (λ (b : Bool). row_numbers b a.weights (take a.width (drop c.args.first a.values.now))) (sym c.if-rows.false) in
    emitted-is (ap (λ (z : List ℤ). written_line (keyword_of a.statement ∷ map written_number z)) e) c.number_line-2.ensures
