-- By the names, and by their count.
use Rattle.text.specs.Rest.{rest_at}
use Rattle.statements.specs.declared.Carried.TheVariants.{Material}
use Rattle.read_settings.specs.Words.{names_read}
use Rattle.read_settings.specs.Steps.{with_material}
use Rattle.read_settings.proofs.Runs as R
use Rattle.read_settings.proofs.take_material.Goals as goal

pub returns-in_err-run : goal.returns-in_err-run
returns-in_err-run c =
    let a = c.args in
    rw c.from_residual.ensures (R.named-is Material (with_material a.names) (names_read (rest_at a.text.now a.at)) c.material_rules-rules.ensures _ c.in_err-run.ensures)

pub returns : goal.returns
returns c =
    let a = c.args in
    R.named-is Material (with_material a.names) (names_read (rest_at a.text.now a.at)) c.material_rules-rules.ensures _ c.in_ok-run.ensures
