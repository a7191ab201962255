-- No place, or the count of the numbers there.
use native.Mathlib.Omega.{arith}
use Rattle.read_bodies.proofs.Closings as C
use Rattle.read_bodies.proofs.closing.parm_count.Goals as goal

pub returns-then-at-eq0 : goal.returns-then-at-eq0
returns-then-at-eq0 c =
    C.none-parm c.args.text.now c.args.at c.if-at-eq0.true

pub overflow_cast-result : goal.overflow_cast-result
overflow_cast-result c =
    let a = c.in-Ok.ensures in let b = a.small in let d = c.requires.1 in record { fits = omega arith }

pub overflow_cast-result-in-Err : goal.overflow_cast-result-in-Err
overflow_cast-result-in-Err c =
    let a = c.in-Err.ensures in let b = a.small in let d = c.requires.1 in record { fits = omega arith }

pub returns-in-Ok : goal.returns-in-Ok
returns-in-Ok c =
    let a = c.in-Ok.ensures in C.some-parm c.args.text.now c.args.at c.if-at-eq0.false a.count a.small c.requires.1

pub returns-in-Err : goal.returns-in-Err
returns-in-Err c =
    let a = c.in-Err.ensures in C.some-parm c.args.text.now c.args.at c.if-at-eq0.false a.count a.small c.requires.1
