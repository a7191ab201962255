-- An interval that is not halved is one chord; one that is halved has the chords of both halves.
use mathlib.Core.Path.{sym, ap, ap₂, ◌∙◌}
use Prim.Native.Nat.{ℕ, ◌+◌, ◌-◌, ◌≤◌}
use native.Mathlib.Omega.{arith}
use lib.ListN.{length, length-append}
use mir.Facts.{to_z-of_z}
use Rattle.tables.specs.Lent.{lent}
use Rattle.polyline.specs.Inner.{coordinates_of}
use Rattle.polyline.proofs.Halves.{interval-read, counted, ends-few}
use Rattle.polyline.proofs.Pieces.{whole, halved, middle-read}
use Rattle.polyline.proofs.+count.Goals as goal

pub split_of-split-requires : goal.split_of-split-requires
split_of-split-requires t c = (c.requires.1.0, interval-read (to_z-of_z c.ranges.a) (to_z-of_z c.ranges.b) c.requires.1.1)

pub returns-in_default : goal.returns-in_default
returns-in_default t c =
    let v = c.args in
    sym (ap length (whole (lent v.t.now) v.element v.body v.depth c.ranges.tolerance c.ranges.a c.ranges.b c.in_default.ensures))

pub overflow_sub-depth : goal.overflow_sub-depth
overflow_sub-depth t c =
    let v = c.args in
    let h = halved (lent v.t.now) v.element v.body v.depth c.ranges.tolerance c.ranges.a c.ranges.b c.in-Some.ensures in
    omega (arith, h.deep)

pub count-left-requires : goal.count-left-requires
count-left-requires t c =
    let v = c.args in
    let h = halved (lent v.t.now) v.element v.body v.depth c.ranges.tolerance c.ranges.a c.ranges.b c.in-Some.ensures in
    let middle-is = middle-read c.ranges.a c.ranges.b h in
    (omega (arith, h.deep, c.decreases), (omega (arith, c.requires.0), (c.requires.1.0, interval-read (to_z-of_z c.ranges.a) middle-is (record { start_is = c.requires.1.1.start_is; end_is = h.point-is }))))

pub overflow_sub-depth-2 : goal.overflow_sub-depth-2
overflow_sub-depth-2 t c =
    let v = c.args in
    let h = halved (lent v.t.now) v.element v.body v.depth c.ranges.tolerance c.ranges.a c.ranges.b c.in-Some.ensures in
    omega (arith, h.deep)

pub count-right-requires : goal.count-right-requires
count-right-requires t c =
    let v = c.args in
    let h = halved (lent v.t.now) v.element v.body v.depth c.ranges.tolerance c.ranges.a c.ranges.b c.in-Some.ensures in
    let middle-is = middle-read c.ranges.a c.ranges.b h in
    (omega (arith, h.deep, c.decreases), (omega (arith, c.requires.0), (c.requires.1.0, interval-read middle-is (to_z-of_z c.ranges.b) (record { start_is = h.point-is; end_is = c.requires.1.1.end_is }))))

pub overflow_add-result : goal.overflow_add-result
overflow_add-result t c =
    let v = c.args in
    let m = c.in-Some.half.middle in
    let point = coordinates_of (lent v.t.now) v.element v.body in
    let h = halved (lent v.t.now) v.element v.body v.depth c.ranges.tolerance c.ranges.a c.ranges.b c.in-Some.ensures in
    let middle-is = middle-read c.ranges.a c.ranges.b h in
    let left_is = counted point (v.depth - 1) c.count-left.ensures (to_z-of_z c.ranges.tolerance) (to_z-of_z c.ranges.a) middle-is in
    let right_is = counted point (v.depth - 1) c.count-right.ensures (to_z-of_z c.ranges.tolerance) middle-is (to_z-of_z c.ranges.b) in
    let d : v.depth - 1 ≤ 12 = omega (arith, c.requires.0) in
    record { fits = omega (arith, left_is, right_is, ends-few point v.tolerance v.a m d, ends-few point v.tolerance m v.b d) }

pub returns : goal.returns
returns t c =
    let v = c.args in
    let point = coordinates_of (lent v.t.now) v.element v.body in
    let h = halved (lent v.t.now) v.element v.body v.depth c.ranges.tolerance c.ranges.a c.ranges.b c.in-Some.ensures in
    let middle-is = middle-read c.ranges.a c.ranges.b h in
    let left_is = counted point (v.depth - 1) c.count-left.ensures (to_z-of_z c.ranges.tolerance) (to_z-of_z c.ranges.a) middle-is in
    let right_is = counted point (v.depth - 1) c.count-right.ensures (to_z-of_z c.ranges.tolerance) middle-is (to_z-of_z c.ranges.b) in
    ap₂ (λ (x y : ℕ). x + y) left_is right_is ∙ sym (simp length-append at (ap length h.joined))
