-- Each way out by the law of its answer.
use mathlib.Core.Path.{◌∙◌}
use Rattle.model.specs.Parse.{trim}
use Rattle.read_vertex_lines.proofs.Opened.{row-says}
use Rattle.read_body_lines.proofs.Inner.{loop-shut, loop-sums, loop-gave, loop-took}
use Rattle.read_body_lines.proofs.loop_line.Goals as goal

pub returns-then-not-in_surface : goal.returns-then-not-in_surface
returns-then-not-in_surface c =
    let a = c.args in
    loop-shut a.hole a.text.now a.at a.state a.loops.now a.loops.now a.spans.now a.spans.now (row-says trim a.state.open.kind _ c.loop_rules-rules.ensures.0 c.allowed-in_surface.ensures ∙ c.if-not-in_surface.true)

pub looped-requires : goal.looped-requires
looped-requires c =
    let a = c.args in
    loop-sums a.hole a.text.now a.at a.state a.loops.now _ a.spans.now _ _ _ _ c.take_loop.ensures c.in-Some.is c.requires

pub returns-in_default : goal.returns-in_default
returns-in_default c =
    let a = c.args in
    loop-gave a.hole a.text.now a.at a.state a.loops.now _ a.spans.now _ _ (row-says trim a.state.open.kind _ c.loop_rules-rules.ensures.0 c.allowed-in_surface.ensures ∙ c.if-not-in_surface.false) c.take_loop.ensures c.in_default.is

pub returns : goal.returns
returns c =
    let a = c.args in
    loop-took a.hole a.text.now a.at a.state a.loops.now _ a.spans.now _ _ _ _ c.take_loop.ensures c.in-Some.is c.requires.to _ (row-says trim a.state.open.kind _ c.loop_rules-rules.ensures.0 c.allowed-in_surface.ensures ∙ c.if-not-in_surface.false) c.looped.ensures
