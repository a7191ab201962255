-- Each test is one of the definition's; 64 times a parameter is held against 64 times start and end.
use mathlib.Core.Path.{◌≡◌, refl, ◌∙◌}
use Prim.Native.Nat.{◌+◌, ◌≤◌}
use native.Mathlib.Numerals.{add-one}
use native.Mathlib.Omega.{arith}
use borrow.Author.Tests.{le-leb, lt-leb}
use lib.ListN.{length}
use lib.IntN.{ℤ, pos, nat_abs, ◌*ℤ◌, *ℤ_comm}
use mir.Syntax.{w64}
use mir.Val.{to_z, of_z}
use mir.Facts.{to_z-of_z}
use Rattle.rounding.proofs.Bits.{read_back, read-back-small}
use Rattle.point_exact.specs.Directions.{at}
use Rattle.point_cubics.specs.Answers.{parameter64, reached}
use Rattle.point_cubics.proofs.steps.is_reached.Goals as goal
use Rattle.point_cubics.proofs.steps.is_reached.Goals.{then-j-gt64-via-then-j-gt64, then-j-gt64-via-else-j-gt64+then-x-g, After-weighted}

pub returns-then-j-gt64 : goal.returns-then-j-gt64
unfolding reached
returns-then-j-gt64 c =
    elim c.then-j-gt64.branch [
      | then-j-gt64-via-then-j-gt64 w ↦ rw (lt-leb c.args.j 64 w.if-j-gt64.true) refl
      | then-j-gt64-via-else-j-gt64+then-x-g w ↦ let step : c.args.j ≤ 64 = omega arith in rw (le-leb c.args.j 64 step, lt-leb (c.args.segment + 2) (length c.args.x.now) w.if-x-g.true) refl
    ]

times_64 : (z r : ℤ) → r ≡ z *ℤ pos 64 → nat_abs r ≤ 128000000000 → to_z w64 (of_z w64 r) ≡ pos 64 *ℤ z
times_64 z r e h = read_back w64 r (omega arith) ∙ e ∙ *ℤ_comm z (pos 64)

-- 64 times the parameter, and 64 times the start of the range
module _ (c : After-weighted) where
  there : c.args.segment + 2 ≤ length c.args.x.now
  there = omega arith

  here-is : to_z w64 (of_z w64 c.parameter64-here.result) ≡ parameter64 c.args.x.now c.args.segment c.args.j
  here-is =
      let a = c.args in
      read_back w64 c.parameter64-here.result (omega (arith, c.parameter64-here.ensures.1))
      ∙ rw (read-back-small (at a.x.now a.segment) (c.requires.0 a.segment (omega (arith, there))), read-back-small (at a.x.now (a.segment + 1)) (c.requires.0 (a.segment + 1) (omega (arith, there))), add-one)
      at c.parameter64-here.ensures.0

  from_is : to_z w64 (of_z w64 c.weighted.result) ≡ pos 64 *ℤ c.args.start
  from_is = times_64 c.args.start c.weighted.result (rw (to_z-of_z c.ranges.start) at c.weighted.ensures.0) c.weighted.ensures.1

pub returns-then-weighted-here : goal.returns-then-weighted-here
unfolding reached
returns-then-weighted-here c =
    let a = c.args in
    let k = (goal.at.returns-then-weighted-here c).After-weighted in
    let upto = times_64 a.end c.weighted-then-weighted-here.result (rw (to_z-of_z c.ranges.end) at c.weighted-then-weighted-here.ensures.0) c.weighted-then-weighted-here.ensures.1 in
    rw (here-is k, upto, le-leb a.j 64 (omega arith), le-leb (a.segment + 2) (length a.x.now) (there k), rw (here-is k, from_is k) at c.if-weighted-here.true) refl

pub returns-else-weighted-here : goal.returns-else-weighted-here
unfolding reached
returns-else-weighted-here c =
    let a = c.args in
    let k = (goal.at.returns-else-weighted-here c).After-weighted in
    rw (here-is k, from_is k, le-leb a.j 64 (omega arith), le-leb (a.segment + 2) (length a.x.now) (there k), rw (here-is k, from_is k) at c.if-weighted-here.false) refl
