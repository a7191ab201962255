-- Each coordinate is the definition's; the kind says from which table.
use mathlib.Core.Path.{ap₂, ◌∙◌}
use native.Mathlib.Omega.{arith}
use borrow.Author.Tests.{eq-eqb, ne_eqb}
use mir.Facts.{to_z-of_z}
use Rattle.rounding.proofs.Bits.{read-back-small}
use Rattle.point_rows.specs.Controls.{ControlsLent}
use Rattle.sampler.specs.Inner.{point_by}
use Rattle.sampler.specs.declared.Point.TheVariants as sampled
use Rattle.sampler.proofs.Entries.{space-eq}
use Rattle.sampler.proofs.points.curve_point.Goals as goal
use Rattle.sampler.proofs.points.curve_point.Goals.{Else-kind-eq-CURVE2, Then-kind-eq-CURVE2}

from-plane : (c : Then-kind-eq-CURVE2) → ControlsLent c.args.vp.now c.args.corners.now c.args.first 0 c.args.along.controls
from-plane c = rw (eq-eqb _ _ c.if-kind-eq-CURVE2.true) at c.requires.0

pub curve_point-p-requires : goal.curve_point-p-requires
curve_point-p-requires c = (from-plane c, omega arith, c.find-chosen.ensures)

pub returns-then-kind-eq-CURVE2 : goal.returns-then-kind-eq-CURVE2
unfolding point_by
returns-then-kind-eq-CURVE2 c =
    let p = c.curve_point-p.result in
    let h = rw (to_z-of_z c.ranges.t) at c.curve_point-p.ensures in
    rw c.if-kind-eq-CURVE2.true (ap₂ sampled.Plane (read-back-small p.x h.x-small ∙ h.x-is) (read-back-small p.y h.y-small ∙ h.y-is))

from-space : (c : Else-kind-eq-CURVE2) → ControlsLent c.args.v.now c.args.corners.now c.args.first 0 c.args.along.controls
from-space c = rw (ne_eqb _ _ c.if-kind-eq-CURVE2.false) at c.requires.0

pub curve_point-p-requires-2 : goal.curve_point-p-requires-2
curve_point-p-requires-2 c = (from-space c, omega arith, c.find-chosen.ensures)

pub returns : goal.returns
unfolding point_by
returns c =
    let p = c.curve_point-p-2.result in
    let h = rw (to_z-of_z c.ranges.t) at c.curve_point-p-2.ensures in
    rw (ne_eqb _ _ c.if-kind-eq-CURVE2.false)
    (space-eq (read-back-small p.x h.x-small ∙ h.x-is) (read-back-small p.y h.y-small ∙ h.y-is) (read-back-small p.z h.z-small ∙ h.z-is))
