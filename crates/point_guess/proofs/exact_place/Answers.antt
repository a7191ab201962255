-- Axis by axis.
use Rattle.point_guess.specs.Steps.{X, Y, Z}
use Rattle.point_guess.proofs.Stepping.{within-back, between-back}
use Rattle.point_guess.proofs.exact_place.Goals as goal

pub exact-requires : goal.exact-requires
exact-requires c = let p = c.requires in (p.0 X, p.1 X, within-back p.2.within)

pub exact-requires-2 : goal.exact-requires-2
exact-requires-2 c = let p = c.requires in (p.0 Y, p.1 Y, within-back p.2.within)

pub exact-requires-3 : goal.exact-requires-3
exact-requires-3 c = let p = c.requires in (p.0 Z, p.1 Z, within-back p.2.within)

pub returns : goal.returns
returns c X = between-back c.requires.2.within c.exact.ensures
returns c Y = between-back c.requires.2.within c.exact-2.ensures
returns c Z = between-back c.requires.2.within c.exact-3.ensures
