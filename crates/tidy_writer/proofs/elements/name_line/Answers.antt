-- The keyword, the names, the line's end, where the names differ.
use mathlib.Core.Path.{sym, ◌∙◌}
use Rattle.keywords.specs.Keywords.{keyword_of}
use Rattle.tidy_form.specs.Agree.{words_at}
use Rattle.tidy_words.proofs.Emissions.{emitted-none, emitted-is, emitted-whole}
use Rattle.tidy_writer.proofs.Turns.{emitted-line, changed-none, changed-line}
use Rattle.tidy_writer.proofs.elements.name_line.Goals as goal

pub returns-then-same_names : goal.returns-then-same_names
returns-then-same_names c =
    let a = c.args in
    let t = a.text.now in
    emitted-is (changed-none a.statement (words_at t a.before) (words_at t a.run) (sym c.same_names.ensures ∙ c.if-same_names.true)) (emitted-none a.at a.out.now c.requires)

pub returns : goal.returns
returns c =
    let a = c.args in
    let t = a.text.now in
    emitted-is (changed-line a.statement (words_at t a.before) (words_at t a.run) (sym c.same_names.ensures ∙ c.if-same_names.false))
    (emitted-line (keyword_of a.statement) (words_at t a.run) (emitted-whole c.emit-words.ensures) c.emit_names-end.ensures (emitted-whole c.emit.ensures))
