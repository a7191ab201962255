-- Each way out by the law of its answer.
use mathlib.Core.Path.{◌∙◌}
use Rattle.model.specs.Parse.{parm}
use Rattle.read_vertex_lines.proofs.Opened.{row-says}
use Rattle.read_body_lines.proofs.Inner.{parm-outside, parm-gave, parm-took}
use Rattle.read_body_lines.proofs.parm_line.Goals as goal

pub returns-then-not-allowed : goal.returns-then-not-allowed
returns-then-not-allowed c =
    let a = c.args in
    parm-outside a.text.now a.at a.state (row-says parm a.state.open.kind _ c.parameter_rules-rules.ensures c.allowed.ensures ∙ c.if-not-allowed.true)

pub returns-in_default : goal.returns-in_default
returns-in_default c =
    let a = c.args in
    parm-gave a.text.now a.at a.state _ _ (row-says parm a.state.open.kind _ c.parameter_rules-rules.ensures c.allowed-in_surface.ensures) c.take_parm.ensures c.in_default.is

pub returns : goal.returns
returns c =
    let a = c.args in
    parm-took a.text.now a.at a.state c.requires.to _ _ _ _ _ _ (row-says parm a.state.open.kind _ c.parameter_rules-rules.ensures c.allowed-in_surface.ensures)
    (row-says parm a.state.open.kind _ c.parameter_rules-rules.ensures c.allowed.ensures ∙ c.if-not-allowed.false) c.take_parm.ensures c.in-Some.is c.keeping.ensures
