-- What the two doubles keep is read back, and what lies between is kept (`between-kept`).
use mathlib.Core.Path.{◌≡◌}
use native.Mathlib.Omega.{arith}
use lib.IntN.{nat_abs, ◌-ℤ◌}
use Rattle.rounding.proofs.Bits.{read-back-small}
use Rattle.point_guess.proofs.Stepping.{between-encode}
use Rattle.point_guess.proofs.exact.Goals as goal
use Rattle.point_guess.proofs.exact.Goals.{After-distance-2, After-encode}

pub decode-requires : goal.decode-requires
decode-requires c = c.requires.0

pub decode-requires-2 : goal.decode-requires-2
decode-requires-2 c = c.requires.1

pub distance-requires : goal.distance-requires
distance-requires c =
    let w = c.requires.2 in
    rw (read-back-small c.args.low w.low_small, read-back-small c.args.t w.here) (w.low_small, w.here)

pub distance-requires-2 : goal.distance-requires-2
distance-requires-2 c =
    let w = c.requires.2 in
    rw (read-back-small c.args.low w.low_small, read-back-small c.args.high w.high_small) (w.low_small, w.high_small)

part-is : (c : After-distance-2) → c.distance.result ≡ nat_abs (c.args.t -ℤ c.args.low)
part-is c =
    let w = c.requires.2 in
    rw (read-back-small c.args.low w.low_small, read-back-small c.args.t w.here) at c.distance.ensures.0

gap_is : (c : After-distance-2) → c.distance-2.result ≡ nat_abs (c.args.high -ℤ c.args.low)
gap_is c =
    let w = c.requires.2 in
    rw (read-back-small c.args.low w.low_small, read-back-small c.args.high w.high_small) at c.distance-2.ensures.0

pub between-requires : goal.between-requires
between-requires c =
    let w = c.requires.2 in
    let a = c.decode in
    let b = c.decode-2 in
    let p = part-is c in
    let g = gap_is c in
    rw (read-back-small c.decode.result c.decode.ensures.1, read-back-small c.decode-2.result c.decode-2.ensures.1)
    (c.decode.ensures.1, c.decode-2.ensures.1, omega (arith, p, g, w.part), omega (arith, g, w.wide), c.distance-2.ensures.1)

pub encode-requires : goal.encode-requires
encode-requires c = let b = c.between in rw (read-back-small c.between.result c.between.ensures.1) c.between.ensures.1

part-is-at-After-encode : (c : After-encode) → c.distance.result ≡ nat_abs (c.args.t -ℤ c.args.low)
part-is-at-After-encode c =
    let w = c.requires.2 in
    rw (read-back-small c.args.low w.low_small, read-back-small c.args.t w.here) at c.distance.ensures.0

gap_is-at-After-encode : (c : After-encode) → c.distance-2.result ≡ nat_abs (c.args.high -ℤ c.args.low)
gap_is-at-After-encode c =
    let w = c.requires.2 in
    rw (read-back-small c.args.low w.low_small, read-back-small c.args.high w.high_small) at c.distance-2.ensures.0

pub returns : goal.returns
returns c =
    let m = c.between in
    let a = c.decode in
    let b = c.decode-2 in
    between-encode c.between.result
    (rw (read-back-small c.decode.result c.decode.ensures.1, read-back-small c.decode-2.result c.decode-2.ensures.1, part-is-at-After-encode c, gap_is-at-After-encode c, c.decode.ensures.0, c.decode-2.ensures.0) at c.between.ensures.0)
    c.between.ensures.1
    (rw (read-back-small c.between.result c.between.ensures.1) at c.encode.ensures)
