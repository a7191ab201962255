-- Each way out by the law of its answer.
use mathlib.Core.Path.{ap, ◌∙◌}
use native.Mathlib.Omega.{arith}
use Rattle.tables.specs.declared.Used.{Used}
use Rattle.model.specs.Parse.{an-element}
use Rattle.read_vertex_lines.specs.Stepping.{with_used}
use Rattle.read_vertex_lines.proofs.Opened.{row-says, outside-none}
use Rattle.read_element_lines.proofs.SteppedElements.{element-inside, element-gave, element-fits, element-took}
use Rattle.read_element_lines.proofs.element_lines.element_line.Goals as goal

pub returns-then-not-allowed : goal.returns-then-not-allowed
returns-then-not-allowed c =
    let a = c.args in
    element-inside a.shape a.text.now a.at a.state a.corners.now _ a.elements.now _ (row-says (an-element a.shape) a.state.open.kind _ c.element_rules-rules.ensures c.allowed.ensures ∙ c.if-not-allowed.true)

pub one_element-requires : goal.one_element-requires
one_element-requires c =
    let a = c.args in
    let out = outside-none a.state.open.kind (row-says (an-element a.shape) a.state.open.kind _ c.element_rules-rules.ensures c.allowed.ensures ∙ c.if-not-allowed.false) in
    let fit = element-fits a.shape a.text.now a.at a.state a.corners.now _ a.elements.now _ out _ _ _ c.take_element.ensures c.in-Some.is c.requires in
    let few = fit.0 in
    (omega (arith, few), fit.1, fit.2)

pub returns-in_default : goal.returns-in_default
returns-in_default c =
    let a = c.args in
    let out = outside-none a.state.open.kind (row-says (an-element a.shape) a.state.open.kind _ c.element_rules-rules.ensures c.allowed.ensures ∙ c.if-not-allowed.false) in
    element-gave a.shape a.text.now a.at a.state a.corners.now _ a.elements.now _ out _ c.take_element.ensures c.in_default.is

pub returns : goal.returns
returns c =
    let a = c.args in
    let out = outside-none a.state.open.kind (row-says (an-element a.shape) a.state.open.kind _ c.element_rules-rules.ensures c.allowed.ensures ∙ c.if-not-allowed.false) in
    element-took a.shape a.text.now a.at a.state a.corners.now _ a.elements.now _ out _ _ _
    c.take_element.ensures c.in-Some.is c.requires.to _ (c.with_used.ensures ∙ ap (λ (u : Used). with_used u a.state) c.one_element.ensures)
