-- By what the line goes on with.
use mathlib.Core.Path.{sym, ap, ◌∙◌}
use Rattle.text.specs.Rest.{rest_at}
use Rattle.read_settings.specs.Words.{names_read}
use Rattle.read_settings.proofs.Runs as R
use Rattle.read_settings.proofs.words.line_names.Goals as goal

pub names_from-requires : goal.names_from-requires
names_from-requires c = (c.in-Start.ensures.more, c.in-Start.ensures.to, c.requires.1)

pub returns-in-Start : goal.returns-in-Start
returns-in-Start c = c.names_from.ensures ∙ sym (ap names_read c.in-Start.ensures.rest)

pub returns-in-End : goal.returns-in-End
returns-in-End c = sym (ap names_read c.in-End.ensures.rest)

pub returns-in-Bad : goal.returns-in-Bad
returns-in-Bad c = R.run-empty (rest_at c.args.text.now c.args.at) c.in-Bad.ensures.no_words c.in-Bad.ensures.bad-at
