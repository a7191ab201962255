-- By the arm, and by the kind.
use mathlib.Core.Path.{refl}
use Rattle.statements.proofs.RowLaws.{outside-kind, body-kind, surface-kind, curve-kind}
use Rattle.statements.proofs.rules.allowed.Goals as goal

pub returns-then-kind-eq0 : goal.returns-then-kind-eq0
returns-then-kind-eq0 c = rw (c.in-Parameters.is, c.if-kind-eq0.true) refl

pub returns-then-kind-eq-SURFACE : goal.returns-then-kind-eq-SURFACE
returns-then-kind-eq-SURFACE c = rw (c.in-Parameters.is, c.if-kind-eq-SURFACE.true) refl

pub returns-in-Outside : goal.returns-in-Outside
returns-in-Outside c = rw c.in-Outside.is (outside-kind c.args.kind)

pub returns-in-Body : goal.returns-in-Body
returns-in-Body c = rw c.in-Body.is (body-kind c.args.kind)

pub returns-in-Surface : goal.returns-in-Surface
returns-in-Surface c = rw c.in-Surface.is (surface-kind c.args.kind)

pub returns-else-kind-eq-SURFACE : goal.returns-else-kind-eq-SURFACE
returns-else-kind-eq-SURFACE c = let a = c.args in rw c.in-Parameters.is (curve-kind a.kind a.v c.if-kind-eq0.false c.if-kind-eq-SURFACE.false)
