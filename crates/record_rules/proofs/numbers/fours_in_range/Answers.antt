-- The invariant: each number passed is in range.
use mathlib.Core.Path.{refl}
use Rattle.tables.proofs.Bits.{fitted}
use Rattle.basis.proofs.Tests.{passed}
use Rattle.record_rules.proofs.Runs.{four-more}
use native.Mathlib.Omega.{arith}
use mathlib.Core.Path.{ap}
use mathlib.Core.Bool.{not}
use Rattle.record_rules.proofs.numbers.fours_in_range.Goals as goal

pub loop-k-init : goal.loop-k-init
loop-k-init c = (omega arith, refl)

pub overflow_sub-count : goal.overflow_sub-count
overflow_sub-count c = omega arith

pub overflow_add-at : goal.overflow_add-at
overflow_add-at c = omega arith

pub offset_bounds-values-at : goal.offset_bounds-values-at
offset_bounds-values-at c = omega arith

pub bounds-values-at : goal.bounds-values-at
bounds-values-at c = omega arith

pub overflow_add-at-in-loop-k : goal.overflow_add-at-in-loop-k
overflow_add-at-in-loop-k c = omega arith

pub offset_bounds-values-at-in-loop-k : goal.offset_bounds-values-at-in-loop-k
offset_bounds-values-at-in-loop-k c = omega arith

pub bounds-values-at-in-loop-k : goal.bounds-values-at-in-loop-k
bounds-values-at-in-loop-k c = omega arith

pub overflow_add-at-in-loop-k-2 : goal.overflow_add-at-in-loop-k-2
overflow_add-at-in-loop-k-2 c = omega arith

pub offset_bounds-values-at-in-loop-k-2 : goal.offset_bounds-values-at-in-loop-k-2
offset_bounds-values-at-in-loop-k-2 c = omega arith

pub bounds-values-at-in-loop-k-2 : goal.bounds-values-at-in-loop-k-2
bounds-values-at-in-loop-k-2 c = omega arith

pub overflow_add-at-in-loop-k-3 : goal.overflow_add-at-in-loop-k-3
overflow_add-at-in-loop-k-3 c = omega arith

pub offset_bounds-values-at-in-loop-k-3 : goal.offset_bounds-values-at-in-loop-k-3
offset_bounds-values-at-in-loop-k-3 c = omega arith

pub bounds-values-at-in-loop-k-3 : goal.bounds-values-at-in-loop-k-3
bounds-values-at-in-loop-k-3 c = omega arith

pub returns-then-not-four_in_range : goal.returns-then-not-four_in_range
returns-then-not-four_in_range c = c.loop-k.invariant

pub overflow_add-k : goal.overflow_add-k
overflow_add-k c = omega arith

pub loop-k-smaller : goal.loop-k-smaller
loop-k-smaller c = omega arith

pub loop-k-preserved : goal.loop-k-preserved
loop-k-preserved c =
    let s = c.args in
    let four = passed (rw (fitted c.four_in_range-arg-1.given, fitted c.four_in_range-arg-in-loop-k-1.given, fitted c.four_in_range-arg-in-loop-k-2-1.given, fitted c.four_in_range-arg-in-loop-k-3-1.given) at c.four_in_range.ensures) (ap not c.if-not-four_in_range.false) in
    (omega arith, four-more s.values.now s.first c.loop-k.k c.loop-k.invariant.1 four)

pub returns : goal.returns
returns c = c.loop-k.invariant
