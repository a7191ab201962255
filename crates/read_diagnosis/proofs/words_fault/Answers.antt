-- The words, and then what is held against them.
use Rattle.std.proofs.lemmas.Result.{err_from_is_err_and}
use Rattle.text.specs.Rest.{rest_at}
use Rattle.read_word_checks.specs.Faults.{seen_by, held_fault}
use Rattle.read_word_checks.proofs.Steps as S
use Rattle.read_diagnosis.proofs.words_fault.Goals as goal

pub returns-in_err-first_fault : goal.returns-in_err-first_fault
returns-in_err-first_fault c =
    let a = c.args in
    let p = err_from_is_err_and c.from_residual.result c.from_residual.ensures.1 in
    rw (p.1, p.2) (S.or-refused (held_fault (seen_by a.seen) a.vp.now a.form a.key a.held (rest_at a.text.now a.at).words) c.in_err-first_fault.ensures)

pub returns : goal.returns
returns c = S.or_nothing c.in_ok-first_fault.ensures c.held_fault.ensures
