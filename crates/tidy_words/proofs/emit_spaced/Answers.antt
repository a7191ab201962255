-- The space, and the word.
use Rattle.tidy_words.proofs.Emissions.{space-then}
use Rattle.tidy_words.proofs.emit_spaced.Goals as goal

pub returns : goal.returns
returns g c = space-then c.args.at (g.W.Written.bytes c.args.word) c.args.out.now c.emit-from.ensures c.emit.ensures
