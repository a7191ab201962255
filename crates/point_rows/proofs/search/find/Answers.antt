-- The search from the first segment or span that may be chosen.
use borrow.Author.Tests.{eq-eqb, ne_eqb}
use mir.Facts.{to_z-of_z}
use Rattle.point_rows.proofs.Searched.{begun, lead-spline, lead-bezier}
use Rattle.point_rows.proofs.search.find.Goals as goal

pub search-requires : goal.search-requires
search-requires c =
    rw (to_z-of_z c.ranges.t) (c.requires, begun c.requires (lead-spline c.args.along c.args.x.now (eq-eqb _ _ c.if-along-eq-BSPLINE.true)))

pub search-requires-2 : goal.search-requires-2
search-requires-2 c =
    rw (to_z-of_z c.ranges.t) (c.requires, begun c.requires (lead-bezier c.args.along c.args.x.now (ne_eqb _ _ c.if-along-eq-BSPLINE.false)))
