-- An interval that is not halved has its last point written; one that is halved has both halves written, one after the other.
use mathlib.Core.Path.{◌≡◌, ap, ◌∙◌}
use mathlib.Core.List.{◌++◌}
use Prim.Native.Nat.{◌-◌}
use native.Mathlib.Omega.{arith}
use lib.ListN.{length}
use lib.Seq.{length-sets}
use mir.Facts.{to_z-of_z}
use Rattle.tables.specs.Lent.{lent}
use Rattle.point_chords.specs.Chords.{ends, numbers}
use Rattle.polyline.specs.Inner.{coordinates_of}
use Rattle.polyline.proofs.Halves.{interval-read, numbers-chord, numbers-joined, room-first, room-second, both-written, room-read, written}
use Rattle.polyline.proofs.Pieces.{whole, halved, middle-read}
use Rattle.polyline.proofs.+write.Goals as goal

pub split_of-split-requires : goal.split_of-split-requires
split_of-split-requires t c = (c.requires.1.0, interval-read (to_z-of_z c.ranges.a) (to_z-of_z c.ranges.b) c.requires.1.1)

pub store-requires : goal.store-requires
store-requires t c =
    let v = c.args in
    let is-chord = numbers-chord c.requires.1.1 (whole (lent v.t.now) v.element v.body v.depth c.ranges.tolerance c.ranges.a c.ranges.b c.in_default.ensures) in
    rw is-chord at c.requires.0

pub returns-in_default : goal.returns-in_default
returns-in_default t c =
    let v = c.args in
    let is-chord = numbers-chord c.requires.1.1 (whole (lent v.t.now) v.element v.body v.depth c.ranges.tolerance c.ranges.a c.ranges.b c.in_default.ensures) in
    rw is-chord c.store.ensures

pub overflow_sub-depth : goal.overflow_sub-depth
overflow_sub-depth t c =
    let v = c.args in
    let h = halved (lent v.t.now) v.element v.body v.depth c.ranges.tolerance c.ranges.a c.ranges.b c.in-Some.ensures in
    omega (arith, h.deep)

pub write-next-requires : goal.write-next-requires
write-next-requires t c =
    let v = c.args in
    let m = c.in-Some.half.middle in
    let point = coordinates_of (lent v.t.now) v.element v.body in
    let h = halved (lent v.t.now) v.element v.body v.depth c.ranges.tolerance c.ranges.a c.ranges.b c.in-Some.ensures in
    let middle-is = middle-read c.ranges.a c.ranges.b h in
    let first = numbers point (ends point v.tolerance (v.depth - 1) v.a m) in
    let second = numbers point (ends point v.tolerance (v.depth - 1) m v.b) in
    let halves : numbers point (ends point v.tolerance v.depth v.a v.b) ≡ first ++ second
    = ap (numbers point) h.joined ∙ numbers-joined point (ends point v.tolerance (v.depth - 1) v.a m) (ends point v.tolerance (v.depth - 1) m v.b) in (
      omega (arith, h.deep, c.decreases),
      (
        room-read point (v.depth - 1) (to_z-of_z c.ranges.tolerance) (to_z-of_z c.ranges.a) middle-is v.at (length v.points.now)
            (room-first v.at (length v.points.now) first second halves c.requires.0),
        (c.requires.1.0, interval-read (to_z-of_z c.ranges.a) middle-is (record { start_is = c.requires.1.1.start_is; end_is = h.point-is })),
      ),
    )

pub overflow_sub-depth-2 : goal.overflow_sub-depth-2
overflow_sub-depth-2 t c =
    let v = c.args in
    let h = halved (lent v.t.now) v.element v.body v.depth c.ranges.tolerance c.ranges.a c.ranges.b c.in-Some.ensures in
    omega (arith, h.deep)

pub write-requires : goal.write-requires
write-requires t c =
    let v = c.args in
    let m = c.in-Some.half.middle in
    let point = coordinates_of (lent v.t.now) v.element v.body in
    let h = halved (lent v.t.now) v.element v.body v.depth c.ranges.tolerance c.ranges.a c.ranges.b c.in-Some.ensures in
    let middle-is = middle-read c.ranges.a c.ranges.b h in
    let first = numbers point (ends point v.tolerance (v.depth - 1) v.a m) in
    let second = numbers point (ends point v.tolerance (v.depth - 1) m v.b) in
    let halves : numbers point (ends point v.tolerance v.depth v.a v.b) ≡ first ++ second
    = ap (numbers point) h.joined ∙ numbers-joined point (ends point v.tolerance (v.depth - 1) v.a m) (ends point v.tolerance (v.depth - 1) m v.b) in
    let left = c.write-next.new.points in
    let first-written = written point (v.depth - 1) (to_z-of_z c.ranges.tolerance) (to_z-of_z c.ranges.a) middle-is v.at v.points.now c.write-next.ensures in
    let left-long : length left ≡ length v.points.now = ap length first-written.1 ∙ length-sets v.points.now v.at first in (
      omega (arith, h.deep, c.decreases),
      (
        room-read point (v.depth - 1) (to_z-of_z c.ranges.tolerance) middle-is (to_z-of_z c.ranges.b) c.write-next.result (length left)
            (room-second v.at (length v.points.now) first second halves first-written.0 left-long c.requires.0),
        (c.requires.1.0, interval-read middle-is (to_z-of_z c.ranges.b) (record { start_is = h.point-is; end_is = c.requires.1.1.end_is })),
      ),
    )

pub returns : goal.returns
returns t c =
    let v = c.args in
    let m = c.in-Some.half.middle in
    let point = coordinates_of (lent v.t.now) v.element v.body in
    let h = halved (lent v.t.now) v.element v.body v.depth c.ranges.tolerance c.ranges.a c.ranges.b c.in-Some.ensures in
    let middle-is = middle-read c.ranges.a c.ranges.b h in
    let first = numbers point (ends point v.tolerance (v.depth - 1) v.a m) in
    let second = numbers point (ends point v.tolerance (v.depth - 1) m v.b) in
    let halves : numbers point (ends point v.tolerance v.depth v.a v.b) ≡ first ++ second
    = ap (numbers point) h.joined ∙ numbers-joined point (ends point v.tolerance (v.depth - 1) v.a m) (ends point v.tolerance (v.depth - 1) m v.b) in
    let first-written = written point (v.depth - 1) (to_z-of_z c.ranges.tolerance) (to_z-of_z c.ranges.a) middle-is v.at v.points.now c.write-next.ensures in
    let second-written = written point (v.depth - 1) (to_z-of_z c.ranges.tolerance) middle-is (to_z-of_z c.ranges.b) c.write-next.result c.write-next.new.points c.write.ensures in
    both-written v.at 0 first second halves v.points.now first-written.0 first-written.1 second-written.0 second-written.1
