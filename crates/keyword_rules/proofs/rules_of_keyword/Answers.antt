-- The row of the statement that the keyword is, number by number.
use mathlib.Core.Path.{◌≡◌, ap, ◌∙◌}
use Rattle.text.specs.Words.{word_of}
use Rattle.keywords.specs.Keywords.{statement_of}
use Rattle.rounding.proofs.Bits.{read-back-given}
use Rattle.statements.specs.Rules.{rules_of}
use Rattle.keyword_rules.specs.Asked.{carried_of}
use Rattle.keyword_rules.proofs.Rows.{statement-at, row-eq}
use Rattle.keyword_rules.proofs.rules_of_keyword.Goals as goal
use Rattle.keyword_rules.proofs.rules_of_keyword.Goals.{After-struct_told-1}

rules_said : (c : After-struct_told-1) → c.rules_of-rules.result ≡ rules_of (carried_of (statement_of (word_of c.args.keyword.now)))
rules_said c =
    c.rules_of-rules.ensures
    ∙ ap rules_of (c.carried_of-carried.ensures ∙ ap carried_of (statement-at c.args.keyword.now 0 _ c.keyword_at-found.ensures))

pub returns : goal.returns
returns c =
    row-eq (carried_of (statement_of (word_of c.args.keyword.now))) c.args.words c.args.index c.rules_of-rules.result c.form_at-form.result c.limits_of-limits.result c.standing_number.result c.fewest_words.result c.most_words.result c.multiple_of.result c.form_number.result _ _
    (rules_said c) c.form_at-form.ensures c.limits_of-limits.ensures c.standing_number.ensures c.fewest_words.ensures c.most_words.ensures c.multiple_of.ensures c.form_number.ensures (read-back-given c.struct_told-1.given.0.1) (read-back-given c.struct_told-1.given.1.0.1)
