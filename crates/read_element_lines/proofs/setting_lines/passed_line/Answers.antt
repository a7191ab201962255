-- By the laws of a line that is passed over.
use mathlib.Core.Path.{sym, ◌∙◌}
use Rattle.read_element_lines.proofs.Quiet.{passed-line, passed-bad}
use Rattle.read_element_lines.proofs.setting_lines.passed_line.Goals as goal

pub returns-in-Ok : goal.returns-in-Ok
returns-in-Ok c =
    let a = c.args in
    λ out. passed-line a.text.now a.at a.state c.requires out _ _ (sym c.in-Ok.is ∙ c.scan_line.ensures)

pub returns-in-Err : goal.returns-in-Err
returns-in-Err c =
    let a = c.args in
    λ out. passed-bad a.text.now a.at a.state c.requires out _ (sym c.in-Err.is ∙ c.scan_line.ensures)
