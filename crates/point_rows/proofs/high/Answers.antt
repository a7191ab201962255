-- Each side of the test reads the parameter of that kind's definition.
use mathlib.Core.Path.{◌≡◌}
use Prim.Native.Nat.{◌+◌, ◌≤◌, ◌<◌}
use native.Mathlib.Omega.{arith}
use borrow.Author.Tests.{eq-eqb, ne_eqb}
use lib.Dec.{eqb}
use lib.ListN.{length}
use mathlib.Core.Bool.{true, false}
use Rattle.rounding.specs.Range.{InRange}
use Rattle.rounding.proofs.Bits.{read-back-small}
use Rattle.point_exact.specs.Directions.{at}
use Rattle.point_rows.proofs.Places.{deep, inside, spline-high, bezier-high, segment-inside}
use Rattle.point_rows.proofs.high.Goals as goal
use Rattle.point_rows.proofs.high.Goals.{Else-along-eq-BSPLINE, Then-along-eq-BSPLINE}

is-spline : (c : Then-along-eq-BSPLINE) → eqb c.args.along.basis 2 ≡ true
is-spline c = eq-eqb c.args.along.basis 2 c.if-along-eq-BSPLINE.true

within : (c : Then-along-eq-BSPLINE) → (c.args.r ≤ c.args.chosen + c.args.j) × (c.args.chosen + c.args.j + 1 < length c.args.x.now)
within c = (omega (arith, deep c.args.along c.args.x.now c.args.t (is-spline c) c.requires.0), inside c.args.along c.args.x.now c.args.t (is-spline c) c.requires.0 c.args.j (omega arith))

pub overflow_add-result : goal.overflow_add-result
overflow_add-result c = omega (arith, within c)

pub overflow_add-result-then-along-eq-BSPLINE : goal.overflow_add-result-then-along-eq-BSPLINE
overflow_add-result-then-along-eq-BSPLINE c = omega (arith, within c)

pub offset_bounds-x-chosen : goal.offset_bounds-x-chosen
offset_bounds-x-chosen c = omega (arith, within c)

pub bounds-x-chosen : goal.bounds-x-chosen
bounds-x-chosen c = omega (arith, within c)

small : (c : Then-along-eq-BSPLINE) → InRange (at c.args.x.now (c.args.chosen + c.args.j + 1))
small c = c.requires.0.sound.small (c.args.chosen + c.args.j + 1) (omega (arith, (within c)))

pub returns-then-along-eq-BSPLINE : goal.returns-then-along-eq-BSPLINE
returns-then-along-eq-BSPLINE c =
    let b = (goal.at.returns-then-along-eq-BSPLINE c).Then-along-eq-BSPLINE in
    rw (read-back-small _ (small b)) (spline-high c.args.along c.args.x.now c.args.t (is-spline b) c.args.chosen c.args.r c.args.j c.requires.0.is, small b)

is-bezier : (c : Else-along-eq-BSPLINE) → eqb c.args.along.basis 2 ≡ false
is-bezier c = ne_eqb c.args.along.basis 2 c.if-along-eq-BSPLINE.false

there : (c : Else-along-eq-BSPLINE) → c.args.chosen + 1 < length c.args.x.now
there c = segment-inside c.args.along c.args.x.now c.args.t (is-bezier c) c.requires.0

pub overflow_add-result-2 : goal.overflow_add-result-2
overflow_add-result-2 c = omega (arith, there c)

pub offset_bounds-x-chosen-2 : goal.offset_bounds-x-chosen-2
offset_bounds-x-chosen-2 c = omega (arith, there c)

pub bounds-x-chosen-2 : goal.bounds-x-chosen-2
bounds-x-chosen-2 c = omega (arith, there c)

small-too : (c : Else-along-eq-BSPLINE) → InRange (at c.args.x.now (c.args.chosen + 1))
small-too c = c.requires.0.sound.small (c.args.chosen + 1) (omega (arith, (there c)))

pub returns : goal.returns
returns c =
    let b = (goal.at.returns c).Else-along-eq-BSPLINE in
    rw (read-back-small _ (small-too b)) (bezier-high c.args.along c.args.x.now c.args.t (is-bezier b) c.args.chosen c.args.r c.args.j c.requires.0.is, small-too b)
