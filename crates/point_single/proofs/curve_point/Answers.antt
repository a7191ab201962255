-- The place's numbers are the point's (`curve-has`).
use native.Mathlib.Omega.{arith}
use mir.Facts.{to_z-of_z}
use Rattle.point_rows.proofs.Grids.{held-part}
use Rattle.point_single.proofs.Making.{curve-has}
use Rattle.point_single.proofs.curve_point.Goals as goal

pub curve_place-requires : goal.curve_place-requires
curve_place-requires c =
    rw (to_z-of_z c.ranges.t) (held-part 0 _ c.requires.0 (omega arith) (omega arith), c.requires.1, c.requires.2)

pub returns : goal.returns
returns c =
    let a = c.args in
    curve-has c.requires.2 a.values.now a.corners.now a.first a.axis (rw (to_z-of_z c.ranges.t) at c.curve_place.ensures) c.point_at.ensures
