-- Row by row along u, then v over the rows.
use mathlib.Core.Path.{◌≡◌, refl}
use Prim.Native.Nat.{◌+◌, ◌*◌, ◌≤◌, ◌<◌}
use native.Mathlib.Omega.{arith}
use mir.Facts.{to_z-of_z}
use Rattle.point_exact.specs.Sampled.{curve_sampled}
use Rattle.point_rows.specs.Places.{direction}
use Rattle.point_rows.specs.Controls.{control_at, ControlsLent}
use Rattle.point_rows.proofs.Grids.{first-is, reached, last-there, held-row, some-row, grid-rows}
use Rattle.point_single.specs.Points.{entry_of, Gathered}
use Rattle.point_single.proofs.Making.{gathered_none, gathered-more, gathered-encoded, gathered-down, holds_as, has-as}
use Rattle.point_single.proofs.across.Goals as goal
use Rattle.point_single.proofs.across.Goals.{After-curve_place-p, After-to_nearest}

pub first_control-top-requires : goal.first_control-top-requires
first_control-top-requires c = reached c.requires.2

pub empty-column-requires : goal.empty-column-requires
empty-column-requires c = c.requires.2.sound.few

pub loop-j-init : goal.loop-j-init
loop-j-init c = gathered_none c.empty-column.ensures.0 c.empty-column.ensures.1

pub overflow_add-base : goal.overflow_add-base
overflow_add-base c =
    let row = c.first_control-top.result + c.loop-j.j in
    let here : row < c.args.v.controls = omega (arith, first-is c.requires.2 c.first_control-top.ensures, last-there c.requires.2) in
    let held : ControlsLent c.args.values.now c.args.corners.now c.args.first (row * c.args.u.controls) (row * c.args.u.controls + c.args.u.controls)
    = held-row c.args.u.controls c.args.v.controls row c.requires.0 here in
    omega (arith, held.within, some-row row c.args.u.controls (omega (arith, last-there c.requires.1)))

pub overflow_mul-base : goal.overflow_mul-base
overflow_mul-base c =
    let row = c.first_control-top.result + c.loop-j.j in
    let here : row < c.args.v.controls = omega (arith, first-is c.requires.2 c.first_control-top.ensures, last-there c.requires.2) in
    let held : ControlsLent c.args.values.now c.args.corners.now c.args.first (row * c.args.u.controls) (row * c.args.u.controls + c.args.u.controls)
    = held-row c.args.u.controls c.args.v.controls row c.requires.0 here in
    omega (arith, held.within)

pub curve_place-p-requires : goal.curve_place-p-requires
curve_place-p-requires c =
    let row = c.first_control-top.result + c.loop-j.j in
    let here : row < c.args.v.controls = omega (arith, first-is c.requires.2 c.first_control-top.ensures, last-there c.requires.2) in
    let held : ControlsLent c.args.values.now c.args.corners.now c.args.first (row * c.args.u.controls) (row * c.args.u.controls + c.args.u.controls)
    = held-row c.args.u.controls c.args.v.controls row c.requires.0 here in
    rw (to_z-of_z c.ranges.s) (held, omega arith, c.requires.1)

few : (l : After-curve_place-p) → l.args.v.degree ≤ 20
few l = l.requires.2.sound.few

pub offset_bounds-column-j : goal.offset_bounds-column-j
offset_bounds-column-j c = omega (arith, few c)

pub bounds-column-j : goal.bounds-column-j
bounds-column-j c = omega (arith, few c)

pub loop-j-preserved : goal.loop-j-preserved
loop-j-preserved c = gathered-more c.curve_place-p.result c.loop-j.invariant (omega (arith, few c)) c.curve_place-p.ensures

-- the column, once each of its places is set
column : (l : After-to_nearest) → l.loop-j.j ≡ l.args.v.degree + 1 → let a = l.args in
    Gathered l.loop-j.column a.v.degree (a.v.degree + 1)
    (λ k i. curve_sampled (direction a.u a.x.now) a.s (λ m. control_at a.values.now a.corners.now a.first (entry_of 0 k) ((l.first_control-top.result + i) * a.u.controls + m)))
column l e = rw (to_z-of_z l.ranges.s, e) at l.loop-j.invariant

pub descend-requires : goal.descend-requires
descend-requires c =
    let g = column c (omega arith) in
    rw (to_z-of_z c.ranges.t) (c.requires.2, gathered-encoded g c.requires.2.sound.few, g.count)

pub point_at-requires : goal.point_at-requires
point_at-requires c = c.descend.ensures.whole

pub returns : goal.returns
returns c =
    let a = c.args in
    let du = direction a.u a.x.now in
    let dv = direction a.v a.y.now in
    has-as c.point_at.ensures
    (holds_as (gathered-down (column (goal.at.returns c).After-to_nearest (omega arith)) dv a.t refl (rw (to_z-of_z c.ranges.t) at c.descend.ensures))
    (λ k. grid-rows du dv a.s a.t a.values.now a.corners.now a.first (entry_of 0 k) a.u.controls c.first_control-top.result
    (first-is c.requires.2 c.first_control-top.ensures)))
