-- Each coordinate is the definition's.
use mathlib.Core.Path.{◌∙◌}
use mir.Facts.{to_z-of_z}
use Rattle.rounding.proofs.Bits.{read-back-small}
use Rattle.sampler.specs.Inner.{surface_by}
use Rattle.sampler.proofs.Entries.{space-eq}
use Rattle.sampler.proofs.points.surface_point.Goals as goal

pub returns : goal.returns
unfolding surface_by
returns c =
    let p = c.across-p.result in
    let h = rw (to_z-of_z c.ranges.s, to_z-of_z c.ranges.t) at c.across-p.ensures in
    space-eq (read-back-small p.x h.x-small ∙ h.x-is) (read-back-small p.y h.y-small ∙ h.y-is) (read-back-small p.z h.z-small ∙ h.z-is)
