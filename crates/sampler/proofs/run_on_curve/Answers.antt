-- What was looked up is the definition's element and body, or its refusal.
use mathlib.Core.Path.{sym, ◌∙◌}
use mathlib.Core.Bool.{false}
use Rattle.std.proofs.lemmas.Result.{err_from_is_err_and}
use Rattle.tables.specs.Lent.{lent}
use Rattle.sampler.proofs.Refusals.{missed, Looked, looked}
use Rattle.sampler.proofs.Runners.{run-refused, run-answered}
use Rattle.sampler.proofs.Entries.{curve-found}
use Rattle.sampler.proofs.run_on_curve.Goals as goal
use Rattle.sampler.proofs.run_on_curve.Goals.{In_ok-found}

pub returns-in_err-found : goal.returns-in_err-found
returns-in_err-found c =
    let a = c.args in
    let p = err_from_is_err_and c.from_residual.result c.from_residual.ensures.1 in
    rw (p.1, p.2) (run-refused a.used (lent a.t.now) a.element a.steps a.at a.points.now (missed false a.used (lent a.t.now) a.element (sym c.in_err-found.ensures)))

there : (c : In_ok-found) → let f = c.in_ok-found.found in Looked false c.args.used (lent c.args.t.now) c.args.element f.element f.body
there c = looked false c.args.used (lent c.args.t.now) c.args.element (sym c.in_ok-found.ensures)

pub run_at-requires : goal.run_at-requires
run_at-requires c = curve-found (there (goal.at.run_at-requires c).In_ok-found)

pub returns : goal.returns
returns c = c.run_at.ensures ∙ run-answered _ _ _ c.args.steps c.args.at c.args.points.now (there (goal.at.returns c).In_ok-found)
