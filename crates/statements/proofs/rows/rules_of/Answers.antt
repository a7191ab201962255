-- Each statement is told by its arm, and its row made by the call there.
use mathlib.Core.Path.{sym, ap, ◌∙◌}
use Rattle.statements.specs.Rules.{rules_of}
use Rattle.statements.proofs.rows.rules_of.Goals as goal

pub returns-in-Vertex : goal.returns-in-Vertex
returns-in-Vertex c = c.vertex_rules.ensures ∙ ap rules_of (sym c.in-Vertex.is)

pub returns-in-Element : goal.returns-in-Element
returns-in-Element c = c.element_rules.ensures ∙ ap rules_of (sym c.in-Element.is)

pub returns-in-Body : goal.returns-in-Body
returns-in-Body c = c.body_rules.ensures ∙ ap rules_of (sym c.in-Body.is)
