-- The kind is that of the row which the word finds.
use mathlib.Core.Path.{◌∙◌}
use Rattle.keywords.proofs.Keywords.{keyword-is}
use Rattle.keywords.proofs.keyword_at.Goals as goal

pub returns : goal.returns
returns c =
    let a = c.args in
    keyword-is a.text.now a.at c.keyword_row-found.result _ c.keyword_row-found.ensures.0 (c.statement_of.ensures ∙ c.row_letter.ensures)
