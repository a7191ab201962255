-- What was looked up is the definition's element and body, or its refusal.
use mathlib.Core.Path.{sym, ◌∙◌}
use mathlib.Core.Bool.{false}
use mir.Facts.{to_z-of_z}
use Rattle.std.proofs.lemmas.Result.{err_from_is_err_and}
use Rattle.tables.specs.Lent.{lent}
use Rattle.sampler.proofs.Refusals.{missed, Looked, looked}
use Rattle.sampler.proofs.Entries.{curve-found}
use Rattle.polyline.proofs.Granted.{is-refused, answered}
use Rattle.polyline.proofs.polyline.Goals as goal
use Rattle.polyline.proofs.polyline.Goals.{In_ok-found}

pub returns-in_err-found : goal.returns-in_err-found
returns-in_err-found c =
    let a = c.args in
    let p = err_from_is_err_and c.from_residual.result c.from_residual.ensures.1 in
    rw (p.1, p.2) (is-refused a.used (lent a.t.now) a.element a.tolerance a.at a.points.now (missed false a.used (lent a.t.now) a.element (sym c.in_err-found.ensures)))

there : (c : In_ok-found) → let f = c.in_ok-found.found in Looked false c.args.used (lent c.args.t.now) c.args.element f.element f.body
there c = looked false c.args.used (lent c.args.t.now) c.args.element (sym c.in_ok-found.ensures)

pub polyline_at-requires : goal.polyline_at-requires
polyline_at-requires c = curve-found (there (goal.at.polyline_at-requires c).In_ok-found)

pub returns : goal.returns
returns c =
    let a = c.args in
    rw (to_z-of_z c.ranges.tolerance) at c.polyline_at.ensures
    ∙ answered a.used (lent a.t.now) a.element a.tolerance a.at a.points.now (there (goal.at.returns c).In_ok-found)
