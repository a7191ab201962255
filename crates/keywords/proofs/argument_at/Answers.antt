-- The kind is that of the row which the word finds.
use mathlib.Core.Path.{◌∙◌}
use Rattle.keywords.proofs.Arguments.{argument_is}
use Rattle.keywords.proofs.argument_at.Goals as goal

pub returns : goal.returns
returns c =
    let a = c.args in
    argument_is a.text.now a.at c.argument_row-found.result _ c.argument_row-found.ensures.0 (c.argument_of.ensures ∙ c.row_sign.ensures)
