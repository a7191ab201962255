-- 2, and then the line; its fault is the parser's (`statement-diagnosis`).
use native.Mathlib.Omega.{arith}
use Rattle.read_word_checks.proofs.Walks as W
use Rattle.read_diagnosis.proofs.Lines as L
use Rattle.read_diagnosis.proofs.diagnose.Goals as goal

pub overflow_sub-line : goal.overflow_sub-line
overflow_sub-line c =
    let a = c.args in
    L.some_word a.text.now a.at c.in-Ok.ensures (W.start-words a.text.now a.at c.in-Start.ensures)

pub statement_fault-requires : goal.statement_fault-requires
statement_fault-requires c =
    let more = c.in-Start.ensures.more in
    let to = c.in-Start.ensures.to in
    omega arith

pub returns-in-Err : goal.returns-in-Err
returns-in-Err c = λ x is held. L.diagnosis-bad c.args.text.now c.args.at x c.in-Err.ensures

pub returns-in-Start : goal.returns-in-Start
returns-in-Start c =
    λ x is held.
    let a = c.args in
    L.diagnosis-line a.text.now a.at c.in-Ok.ensures a.state a.vp.now c.in-Start.p x is held (W.start-words a.text.now a.at c.in-Start.ensures) c.statement_fault.ensures

pub returns-in-End : goal.returns-in-End
returns-in-End c =
    λ x is held.
    let a = c.args in
    L.diagnosis-none a.text.now a.at c.in-Ok.ensures x (W.end-words a.text.now a.at c.in-End.ensures)

pub returns-in-Bad : goal.returns-in-Bad
returns-in-Bad c =
    λ x is held.
    let a = c.args in
    L.diagnosis-none a.text.now a.at c.in-Ok.ensures x c.in-Bad.ensures.no_words
