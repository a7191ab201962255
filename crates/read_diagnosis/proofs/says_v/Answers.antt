-- By what the line goes on with.
use mathlib.Core.Path.{sym, ap, ◌∙◌}
use Rattle.keywords.specs.declared.Argument.TheVariants.{DirectionV}
use Rattle.keywords.specs.Arguments.{is_argument}
use Rattle.model.specs.Parse.{says_v}
use Rattle.read_word_checks.proofs.Walks as W
use Rattle.read_diagnosis.proofs.says_v.Goals as goal

pub returns-in-Start : goal.returns-in-Start
returns-in-Start c = let a = c.args in W.v-first a.text.now a.at c.in-Start.p (W.start-words a.text.now a.at c.in-Start.ensures) (c.is_v.ensures ∙ ap (λ y. is_argument y DirectionV) c.argument_at.ensures)

pub returns-in-End : goal.returns-in-End
returns-in-End c = let a = c.args in sym (ap says_v (W.end-words a.text.now a.at c.in-End.ensures))

pub returns-in-Bad : goal.returns-in-Bad
returns-in-Bad c = sym (ap says_v c.in-Bad.ensures.no_words)
