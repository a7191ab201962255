-- What is printed for the answer of tidying, or for 1 at 0.
use Rattle.tables.specs.Lent.{lent_mut}
use Rattle.tidy_output.proofs.Prints.{output-long, output-short}
use Rattle.tidy_output.proofs.tidy_output.Goals as goal

pub returns-then-input-gt65536-clause-printed : goal.returns-then-input-gt65536-clause-printed
returns-then-input-gt65536-clause-printed c = let a = c.args in output-long a.input.now (lent_mut a.t.now) a.out.now c.if-input-gt65536.true c.print_answer.ensures

pub returns-clause-printed : goal.returns-clause-printed
returns-clause-printed c =
    let a = c.args in
    output-short a.input.now (lent_mut a.t.now) a.out.now c.if-input-gt65536.false (lent_mut c.tidy-tidied.new.t) c.tidy-tidied.result c.tidy-tidied.new.out c.tidy-tidied.ensures.answer c.print_answer-2.ensures
