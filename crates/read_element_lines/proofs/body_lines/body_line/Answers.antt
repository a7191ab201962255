-- Each way out by the law of its answer.
use mathlib.Core.Path.{◌∙◌}
use Rattle.model.specs.Parse.{a-body}
use Rattle.read_vertex_lines.proofs.Opened.{row-says, outside-none}
use Rattle.read_element_lines.proofs.SteppedBodies.{body-inside, body_gave, body-fits, body-took}
use Rattle.read_element_lines.proofs.body_lines.body_line.Goals as goal

pub returns-then-not-allowed : goal.returns-then-not-allowed
returns-then-not-allowed c =
    let a = c.args in
    body-inside a.free a.text.now a.at a.state a.vp.now a.corners.now _ a.elements.now _ a.bodies a.ranges.now _ (row-says (a-body a.free) a.state.open.kind _ c.body_rules-rules.ensures c.allowed.ensures ∙ c.if-not-allowed.true)

pub one_body-requires : goal.one_body-requires
one_body-requires c =
    let a = c.args in
    let out = outside-none a.state.open.kind (row-says (a-body a.free) a.state.open.kind _ c.body_rules-rules.ensures c.allowed.ensures ∙ c.if-not-allowed.false) in
    body-fits a.free a.text.now a.at a.state a.vp.now a.corners.now _ a.elements.now _ a.bodies a.ranges.now _ out _ _ _ c.take_body_line.ensures c.in-Some.is c.requires

pub returns-in_default : goal.returns-in_default
returns-in_default c =
    let a = c.args in
    let out = outside-none a.state.open.kind (row-says (a-body a.free) a.state.open.kind _ c.body_rules-rules.ensures c.allowed.ensures ∙ c.if-not-allowed.false) in
    body_gave a.free a.text.now a.at a.state a.vp.now a.corners.now _ a.elements.now _ a.bodies a.ranges.now _ out _ c.take_body_line.ensures c.in_default.is

pub returns : goal.returns
returns c =
    let a = c.args in
    let out = outside-none a.state.open.kind (row-says (a-body a.free) a.state.open.kind _ c.body_rules-rules.ensures c.allowed.ensures ∙ c.if-not-allowed.false) in
    body-took a.free a.text.now a.at a.state a.vp.now a.corners.now _ a.elements.now _ a.bodies a.ranges.now _ out _ _ _
    c.take_body_line.ensures c.in-Some.is c.requires.to _ c.one_body.ensures
