-- The controls lie where the direction says.
use Prim.Native.Nat.{◌+◌}
use native.Mathlib.Omega.{arith}
use Rattle.point_rows.proofs.Grids.{held-part}
use Rattle.point_single.proofs.gather_span.Goals as goal

pub first_control-from-requires : goal.first_control-from-requires
first_control-from-requires c = c.requires.2.reached

pub overflow_add-base : goal.overflow_add-base
overflow_add-base c = omega (arith, c.requires.0.within, c.first_control-from.ensures, c.requires.2.last)

pub gather-requires : goal.gather-requires
gather-requires c =
    let from = c.args.base + c.first_control-from.result in (
      held-part from (from + c.args.along.degree + 1) c.requires.0 (omega arith) (omega (arith, c.first_control-from.ensures, c.requires.2.last)),
      c.requires.1,
      c.requires.2.few,
    )

pub returns : goal.returns
returns c = rw c.first_control-from.ensures at c.gather.ensures
