-- What is left of the names comes to all of them (`NamesLeft`); each word takes bytes off what is left.
use Rattle.tidy_words.proofs.Emissions.{emitted-whole}
use Rattle.tidy_words.proofs.NamesLeft.{names-start, names-turn}
use Rattle.tidy_words.proofs.names.emit_words.Goals as goal

pub loop-p-init : goal.loop-p-init
loop-p-init c = let a = c.args in names-start a.part.now a.at a.out.now c.place_after-to.result c.place_after-to.ensures

pub loop-p-preserved : goal.loop-p-preserved
loop-p-preserved c = (names-turn c.loop-p.invariant c.in-Some.ensures (emitted-whole c.emit-first.ensures) c.word_end-i.ensures.0 (emitted-whole c.emit_word-to.ensures)).0
