-- What the controls come to is the curve's (`span-place`).
use mir.Facts.{to_z-of_z}
use Rattle.point_single.proofs.Making.{gathered-encoded, there, span-place}
use Rattle.point_single.proofs.curve_place.Goals as goal

pub gather_span-row-requires : goal.gather_span-row-requires
gather_span-row-requires c = let p = c.requires in (p.0, p.1, there p.2)

pub descend-requires : goal.descend-requires
descend-requires c =
    let g = c.gather_span-row.ensures in
    rw (to_z-of_z c.ranges.t) (c.requires.2, gathered-encoded g c.requires.2.sound.few, g.count)

pub returns : goal.returns
returns c =
    let a = c.args in
    span-place c.requires.2 a.values.now a.corners.now a.first a.axis a.base c.gather_span-row.ensures (rw (to_z-of_z c.ranges.t) at c.descend.ensures)
