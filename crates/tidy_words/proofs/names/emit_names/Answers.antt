-- The words of the part, by `part_of` and `emit_words`.
use Rattle.tidy_words.proofs.NamesLeft.{names-emitted}
use Rattle.tidy_words.proofs.names.emit_names.Goals as goal

pub returns : goal.returns
returns c =
    let a = c.args in
    names-emitted a.text.now a.run a.at c.part_of-names.ensures c.emit_words.ensures
