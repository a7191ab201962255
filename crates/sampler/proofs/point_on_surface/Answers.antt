-- What was looked up is the definition's element and body, or its refusal.
use mathlib.Core.Path.{sym, ◌∙◌}
use mathlib.Core.Bool.{true}
use mir.Facts.{to_z-of_z}
use Rattle.std.proofs.lemmas.Result.{err_from_is_err_and}
use Rattle.tables.specs.Lent.{lent}
use Rattle.sampler.proofs.Refusals.{missed, Looked, looked}
use Rattle.sampler.proofs.Surfaces.{surface-found, refused-surface, surface-answered}
use Rattle.sampler.proofs.point_on_surface.Goals as goal
use Rattle.sampler.proofs.point_on_surface.Goals.{In_ok-found}

pub returns-in_err-found : goal.returns-in_err-found
returns-in_err-found c =
    let a = c.args in
    let p = err_from_is_err_and c.from_residual.result c.from_residual.ensures.1 in
    rw (p.1, p.2) (refused-surface a.used (lent a.t.now) a.element a.along_u a.along_v (missed true a.used (lent a.t.now) a.element (sym c.in_err-found.ensures)))

there : (c : In_ok-found) → let f = c.in_ok-found.found in Looked true c.args.used (lent c.args.t.now) c.args.element f.element f.body
there c = looked true c.args.used (lent c.args.t.now) c.args.element (sym c.in_ok-found.ensures)

pub surface_at-requires : goal.surface_at-requires
surface_at-requires c = surface-found (there (goal.at.surface_at-requires c).In_ok-found)

pub returns : goal.returns
returns c =
    rw (to_z-of_z c.ranges.along_u, to_z-of_z c.ranges.along_v) at c.surface_at.ensures ∙ surface-answered _ _ _ c.args.along_u c.args.along_v (there (goal.at.returns c).In_ok-found)
