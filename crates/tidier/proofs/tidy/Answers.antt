-- The reader's answer: the tables it read, from which the tidy text is written, or its refusal.
use Rattle.std.proofs.lemmas.Result.{err_from_is_err_and}
use Rattle.tables.specs.Lent.{lent_mut}
use Rattle.tidier.proofs.Answers.{tidied-read, tidied-refused}
use Rattle.tidier.proofs.tidy.Goals as goal

pub returns-clause-answer : goal.returns-clause-answer
returns-clause-answer c =
    let a = c.args in
    tidied-read a.weights a.text.now (lent_mut a.t.now) (lent_mut c.read.new.t) a.out.now c.read.result c.read.ensures.answer _ c.in_ok-used.was _ _ (rw c.shared.ensures at c.write_whole.ensures)

pub returns-in_err-used-clause-answer : goal.returns-in_err-used-clause-answer
returns-in_err-used-clause-answer c =
    let a = c.args in
    let p = err_from_is_err_and c.from_residual.result c.from_residual.ensures.1 in
    rw (p.1, p.2) (tidied-refused a.weights a.text.now (lent_mut a.t.now) (lent_mut c.read.new.t) a.out.now c.read.result c.read.ensures.answer _ c.in_err-used.was)
