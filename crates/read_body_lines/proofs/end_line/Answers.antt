-- Each way out by the law of its answer.
use mathlib.Core.Path.{sym, ◌∙◌}
use Rattle.std.proofs.lemmas.Result.{err_from_is_err_and}
use Rattle.model.specs.Parse.{ends}
use Rattle.read_vertex_lines.proofs.Opened.{row-says, inside-some}
use Rattle.read_body_lines.proofs.Ended.{end-asks, end-outside, end-unlent, end-uncounted, end_more, end-bad, end-left, end-took}
use Rattle.read_body_lines.proofs.end_line.Goals as goal

pub returns-then-not-allowed : goal.returns-then-not-allowed
returns-then-not-allowed c =
    let a = c.args in
    end-outside a.text.now a.at a.state a.bodies.now a.bodies.now a.ranges.now a.ranges.now a.parameters.now a.parameters.now (row-says ends a.state.open.kind _ c.end_rules-rules.ensures c.allowed.ensures ∙ c.if-not-allowed.true)

pub returns-then-not-body_lent : goal.returns-then-not-body_lent
returns-then-not-body_lent c =
    let a = c.args in
    end-unlent a.text.now a.at a.state a.bodies.now a.bodies.now a.ranges.now a.ranges.now a.parameters.now a.parameters.now (sym c.body_lent.ensures ∙ c.if-not-body_lent.true)

pub returns-then-not-counted : goal.returns-then-not-counted
returns-then-not-counted c =
    let a = c.args in
    end-uncounted a.text.now a.at a.state a.bodies.now a.bodies.now a.ranges.now a.ranges.now a.parameters.now a.parameters.now c.end_rules-rules.ensures c.counted.ensures c.if-not-counted.true

pub close_body-requires : goal.close_body-requires
close_body-requires c =
    let a = c.args in
    let inside = inside-some _ a.state.open.kind (row-says ends a.state.open.kind _ c.end_rules-rules.ensures c.allowed.ensures ∙ c.if-not-allowed.false) in
    let both = end-asks a.text.now a.at a.state a.bodies.now a.ranges.now c.requires inside (sym c.body_lent.ensures ∙ c.if-not-body_lent.false) in
    record { u_at_in_bounds = both.0; v_at_in_bounds = both.1.0; le_bodies = both.1.1 }

pub returns-in-Start : goal.returns-in-Start
returns-in-Start c =
    let a = c.args in
    end_more a.text.now a.at a.state a.bodies.now a.bodies.now a.ranges.now a.ranges.now a.parameters.now a.parameters.now _ _ c.skip_blanks.ensures c.in-Start.is

pub returns-in-Bad : goal.returns-in-Bad
returns-in-Bad c =
    let a = c.args in
    end-bad a.text.now a.at a.state a.bodies.now a.bodies.now a.ranges.now a.ranges.now a.parameters.now a.parameters.now _ _ c.skip_blanks.ensures c.in-Bad.is

pub returns-in_err-closed-in-End : goal.returns-in_err-closed-in-End
returns-in_err-closed-in-End c =
    let a = c.args in
    let inside = inside-some _ a.state.open.kind (row-says ends a.state.open.kind _ c.end_rules-rules.ensures c.allowed.ensures ∙ c.if-not-allowed.false) in
    let p = err_from_is_err_and c.from_residual.result c.from_residual.ensures.1 in
    rw (p.1, p.2)
    (end-left a.text.now a.at a.state a.bodies.now _ a.ranges.now _ a.parameters.now _ _ _ c.skip_blanks.ensures c.in-End.is inside _ c.form_of-form.ensures _ c.close_body.ensures _ c.in_err-closed-in-End.was)

pub returns-in_ok-closed-in-End : goal.returns-in_ok-closed-in-End
returns-in_ok-closed-in-End c =
    let a = c.args in
    let inside = inside-some _ a.state.open.kind (row-says ends a.state.open.kind _ c.end_rules-rules.ensures c.allowed.ensures ∙ c.if-not-allowed.false) in
    end-took a.text.now a.at a.state a.bodies.now _ a.ranges.now _ a.parameters.now _ _ _ c.skip_blanks.ensures c.in-End.is inside _ c.form_of-form.ensures _ c.close_body.ensures _ _ c.in_ok-closed-in-End.was c.requires.to _ c.closed_with.ensures
