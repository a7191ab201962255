-- What is left of the rows comes to what the first row comes to, as long as each place of each level was certain.
use mathlib.Core.Path.{◌≡◌, sym, ap, ◌∙◌}
use Prim.Native.Nat.{◌+◌, ◌-◌}
use native.Mathlib.Numerals.{add-one}
use native.Mathlib.Omega.{arith}
use mir.Syntax.{w32}
use mir.Val.{to_z, of_z}
use mir.Facts.{to_z-of_z}
use Rattle.lists.proofs.Tests.{and_left, and_right}
use Rattle.point_exact.specs.Sampled.{offset_at, gap_at}
use Rattle.point_rows.specs.Places.{direction}
use Rattle.point_guess.specs.Rows.{place_at, axis_number}
use Rattle.point_guess.proofs.Levels.{made_more, left_less, next_place, level-encoded, level-row, pyramid-one}
use Rattle.point_guess.proofs.guess_point.Goals as goal

pub loop-i-preserved : goal.loop-i-preserved
loop-i-preserved c =
    let v = c.loop-i.invariant in
    let i = c.loop-i.i in
    let p = c.guessed-p.result in
    let g = c.interval_of-gap.ensures in
    let next-is : place_at c.loop-i.work.places (i + 1) ≡ place_at c.loop-last.work.places (i + 1) = v.1.rest (i + 1) (omega arith) in (
      next-is,
      left_less p v.1,
      λ e. made_more p (v.2 (and_left c.loop-i.sure c.certain-sure.result e)) (omega (arith, v.1.long, c.loop-last.invariant.0.most))
          (next_place g v.0 (next-is ∙ ap (place_at c.loop-last.work.places) (add-one i)) (c.certain-sure.ensures (and_right c.loop-i.sure c.certain-sure.result e) (to_z w32 (of_z w32 c.args.t)) g.fair)),
    )

pub loop-last-preserved : goal.loop-last-preserved
loop-last-preserved c =
    let d = direction c.args.along c.args.x.now in
    let t = to_z w32 (of_z w32 c.args.t) in
    let v = c.loop-i.invariant in
    let w = c.loop-last.invariant in
    let e : c.loop-i.i ≡ c.loop-last.last - 1 = omega arith in
    let done = rw e at (v.2 c.if-not-sure.false) in (
      level-encoded (offset_at d t) (gap_at d t) c.loop-last.work.places done (omega (arith, v.1.long, w.0.most)),
      omega arith,
      omega arith,
      λ k. level-row (offset_at d t) (gap_at d t) c.loop-last.work.places done (omega arith) k ∙ w.3 k,
    )

pub returns : goal.returns
returns c =
    let d = direction c.args.along c.args.x.now in
    let w = c.loop-last.invariant in
    record {
      whole = w.0.each 0 w.1;
      is = λ k. sym (pyramid-one (offset_at d c.args.t) (gap_at d c.args.t) (c.loop-last.last - 1) (axis_number c.loop-last.work.places k) (omega arith)) ∙ rw (to_z-of_z c.ranges.t) at (w.3 k);
    }
