-- The interval is the place's (`next_place`).
use mathlib.Core.Path.{refl}
use mir.Facts.{to_z-of_z}
use Rattle.point_guess.proofs.Levels.{next_place}
use Rattle.point_guess.proofs.exact_at.Goals as goal

pub interval_at-requires : goal.interval_at-requires
interval_at-requires c = rw (to_z-of_z c.ranges.t) (c.requires.2, c.requires.3, c.requires.4)

pub exact_place-requires : goal.exact_place-requires
exact_place-requires c = let p = c.requires in (p.0, p.1, c.interval_at.ensures.fair)

pub returns : goal.returns
returns c = next_place (rw (to_z-of_z c.ranges.t) at c.interval_at.ensures) refl refl (rw (to_z-of_z c.ranges.t) at c.exact_place.ensures)
