-- The two parameters are the definition's, in order (`upto`), so that the weight is that of the part (`parted`).
use mathlib.Core.Path.{◌≡◌}
use mir.Facts.{to_z-of_z}
use Rattle.rounding.proofs.Bits.{read-back-small}
use Rattle.point_exact.specs.Sampled.{low_at, high_at}
use Rattle.point_rows.specs.Places.{direction}
use Rattle.point_guess.proofs.Weights.{upto, parted}
use Rattle.point_guess.proofs.interval_at.Goals as goal
use Rattle.point_guess.proofs.interval_at.Goals.{After-high-to, After-weight}

pub low-from-requires : goal.low-from-requires
low-from-requires c = rw (to_z-of_z c.ranges.t) c.requires

pub high-to-requires : goal.high-to-requires
high-to-requires c = rw (to_z-of_z c.ranges.t) c.requires

low-is : (c : After-high-to) → c.low-from.result ≡ low_at (direction c.args.along c.args.x.now) c.args.t c.args.r c.args.j
low-is c = rw (to_z-of_z c.ranges.t) at c.low-from.ensures.0

high_is : (c : After-high-to) → c.high-to.result ≡ high_at (direction c.args.along c.args.x.now) c.args.t c.args.r c.args.j
high_is c = rw (to_z-of_z c.ranges.t) at c.high-to.ensures.0

pub weight-requires : goal.weight-requires
weight-requires c =
    let l = c.low-from in
    let h = c.high-to in
    let u = upto c.requires.0 c.args.r c.args.j c.requires.1 c.requires.2 c.low-from.result c.high-to.result (low-is c) (high_is c) in
    rw (read-back-small c.low-from.result c.low-from.ensures.1, read-back-small c.high-to.result c.high-to.ensures.1, to_z-of_z c.ranges.t)
    (u.0, u.1, c.low-from.ensures.1, c.high-to.ensures.1, c.requires.0.sound.here)

low-is-at-After-weight : (c : After-weight) → c.low-from.result ≡ low_at (direction c.args.along c.args.x.now) c.args.t c.args.r c.args.j
low-is-at-After-weight c = rw (to_z-of_z c.ranges.t) at c.low-from.ensures.0

high_is-at-After-weight : (c : After-weight) → c.high-to.result ≡ high_at (direction c.args.along c.args.x.now) c.args.t c.args.r c.args.j
high_is-at-After-weight c = rw (to_z-of_z c.ranges.t) at c.high-to.ensures.0

pub returns : goal.returns
returns c =
    let l = c.low-from in
    let h = c.high-to in
    let p = read-back-small c.low-from.result c.low-from.ensures.1 in
    let q = read-back-small c.high-to.result c.high-to.ensures.1 in
    rw (p, q)
    (parted c.requires.0 c.args.r c.args.j c.requires.1 c.requires.2 c.low-from.result c.high-to.result (low-is-at-After-weight c) (high_is-at-After-weight c)
    c.low-from.ensures.1 c.high-to.ensures.1 c.weight.result (rw (p, q, to_z-of_z c.ranges.t) at c.weight.ensures))
