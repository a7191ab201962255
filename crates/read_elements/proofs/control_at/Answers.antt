-- By the answers of `reference_at`: the control is the reference, in the first place.
use lib.ListN.{drop}
use Rattle.std.proofs.lemmas.Result.{err_from_is_err_and}
use Rattle.text.specs.Words.{word_of}
use Rattle.text.specs.Rest.{end_of}
use Rattle.references.specs.Reference.{reference_of}
use Rattle.read_elements.proofs.Walking.{control-ended, control-wrong}
use Rattle.read_elements.proofs.control_at.Goals as goal

pub returns : goal.returns
returns c =
    let a = c.args in
    control-ended (reference_of a.count (word_of (drop a.at a.text.now))) (end_of a.text.now a.at) c.in_ok-control.ensures

pub returns-in_err-control : goal.returns-in_err-control
returns-in_err-control c =
    let a = c.args in
    let p = err_from_is_err_and c.from_residual.result c.from_residual.ensures.1 in
    rw (p.1, p.2) (control-wrong (reference_of a.count (word_of (drop a.at a.text.now))) (end_of a.text.now a.at) c.in_err-control.ensures)
