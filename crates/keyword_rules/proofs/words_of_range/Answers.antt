-- The row of the statement that the keyword is, and its range.
use mathlib.Core.Path.{ap, ◌∙◌}
use Rattle.statements.specs.Rules.{rules_of}
use Rattle.statements.specs.declared.rules.Rules.{Rules}
use Rattle.keyword_rules.specs.Asked.{carried_of}
use Rattle.keyword_rules.specs.Ranges.{range_in}
use Rattle.keyword_rules.proofs.Rows.{statement-at}
use Rattle.keyword_rules.proofs.words_of_range.Goals as goal

pub returns : goal.returns
returns c =
    let a = c.args in
    let k = statement-at a.text.now a.at c.keyword_at-found.result c.keyword_at-found.ensures in
    c.range_in.ensures ∙ ap (λ (r : Rules). range_in r.forms) (c.rules_of-rules.ensures ∙ ap rules_of (c.carried_of.ensures ∙ ap carried_of k))
