-- Each coordinate is the definition's; the kind says from which table.
use mathlib.Core.Path.{ap₂, ◌∙◌}
use native.Mathlib.Omega.{arith}
use borrow.Author.Tests.{eq-eqb, ne_eqb}
use Rattle.rounding.proofs.Bits.{read-back-small}
use Rattle.sampler.specs.declared.Point.TheVariants as sampled
use Rattle.sampler.proofs.Entries.{space-eq}
use Rattle.point_cubics.specs.Inner.{step_point_by}
use Rattle.point_cubics.proofs.points.point.Goals as goal

pub coordinates-p-requires : goal.coordinates-p-requires
coordinates-p-requires c = (rw (eq-eqb _ _ c.if-kind-eq-CURVE2.true) at c.requires.0, omega arith, c.requires.1)

pub returns-then-kind-eq-CURVE2 : goal.returns-then-kind-eq-CURVE2
unfolding step_point_by
returns-then-kind-eq-CURVE2 c =
    let p = c.coordinates-p.result in
    let h = c.coordinates-p.ensures in
    rw (eq-eqb _ _ c.if-kind-eq-CURVE2.true) (ap₂ sampled.Plane (read-back-small p.x h.x-small ∙ h.x-is) (read-back-small p.y h.y-small ∙ h.y-is))

pub coordinates-p-requires-2 : goal.coordinates-p-requires-2
coordinates-p-requires-2 c = (rw (ne_eqb _ _ c.if-kind-eq-CURVE2.false) at c.requires.0, omega arith, c.requires.1)

pub returns : goal.returns
unfolding step_point_by
returns c =
    let p = c.coordinates-p-2.result in
    let h = c.coordinates-p-2.ensures in
    rw (ne_eqb _ _ c.if-kind-eq-CURVE2.false)
    (space-eq (read-back-small p.x h.x-small ∙ h.x-is) (read-back-small p.y h.y-small ∙ h.y-is) (read-back-small p.z h.z-small ∙ h.z-is))
