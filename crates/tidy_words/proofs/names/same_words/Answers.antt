-- What is left of the two parts is the same exactly when all of it is (`Comparing`); each word takes bytes off what is left.
use Rattle.tidy_words.proofs.Naming as N
use Rattle.tidy_words.proofs.names.same_words.Goals as goal

pub loop-p-init : goal.loop-p-init
loop-p-init c = let a = c.args in N.comparing a.one.now a.other.now
