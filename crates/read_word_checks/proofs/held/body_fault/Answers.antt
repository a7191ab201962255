-- 9, and then 11.
use mathlib.Core.Path.{refl, sym, ◌∙◌}
use Rattle.std.proofs.lemmas.Result.{err_from_is_err_and}
use Rattle.read_word_checks.specs.Faults.{Nothing, in_force_by, owed}
use Rattle.read_word_checks.proofs.Steps as S
use Rattle.read_word_checks.proofs.held.body_fault.Goals as goal

pub returns-then-in_force : goal.returns-then-in_force
returns-then-in_force c = let a = c.args in S.or_nothing c.in_ok-pattern_fault.ensures (S.owed-is (in_force_by a.surface a.form) 11 a.key (sym c.in_force.ensures ∙ c.if-in_force.true) refl)

pub returns-in_err-pattern_fault : goal.returns-in_err-pattern_fault
returns-in_err-pattern_fault c =
    let a = c.args in
    let p = err_from_is_err_and c.from_residual.result c.from_residual.ensures.1 in
    rw (p.1, p.2) (S.or-refused (owed (in_force_by a.surface a.form) 11 a.key Nothing) c.in_err-pattern_fault.ensures)

pub returns : goal.returns
returns c = let a = c.args in S.or_nothing c.in_ok-pattern_fault.ensures (S.owed-not (in_force_by a.surface a.form) 11 a.key Nothing (sym c.in_force.ensures ∙ c.if-in_force.false))
