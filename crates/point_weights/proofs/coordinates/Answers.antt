-- Each coordinate is four controls' numbers by the weights of row j.
use Prim.Native.Nat.{◌+◌, ◌*◌}
use native.Mathlib.Omega.{arith}
use lib.IntN.{ℤ}
use mir.Syntax.{w32}
use mir.Val.{to_z, of_z}
use Rattle.rounding.specs.Range.{InRange}
use Rattle.rounding.proofs.Bits.{read-back-small}
use Rattle.point_rows.proofs.Grids.{held-part}
use Rattle.point_weights.specs.Weights.{cubic_sampled}
use Rattle.point_weights.proofs.Machine.{by_bits}
use Rattle.point_weights.proofs.coordinates.Goals as goal

pub control-a-requires : goal.control-a-requires
control-a-requires c = (held-part (c.args.segment * 3) (c.args.segment * 3 + 1) c.requires.0 (omega arith) (omega arith), c.requires.1)

pub control-b-requires : goal.control-b-requires
control-b-requires c = (held-part (c.args.segment * 3 + 1) (c.args.segment * 3 + 1 + 1) c.requires.0 (omega arith) (omega arith), c.requires.1)

pub control-c-requires : goal.control-c-requires
control-c-requires c = (held-part (c.args.segment * 3 + 2) (c.args.segment * 3 + 2 + 1) c.requires.0 (omega arith) (omega arith), c.requires.1)

pub control-d-requires : goal.control-d-requires
control-d-requires c = (held-part (c.args.segment * 3 + 3) (c.args.segment * 3 + 3 + 1) c.requires.0 (omega arith) (omega arith), c.requires.1)

by-small : (z : ℤ) → InRange z → InRange (to_z w32 (of_z w32 z))
by-small z h = rw (read-back-small z h) h

pub divided-requires-2 : goal.divided-requires-2
divided-requires-2 c = (
  c.row-w.ensures,
  c.requires.2,
  by-small c.control-a.result.y c.control-a.ensures.y-small,
  by-small c.control-b.result.y c.control-b.ensures.y-small,
  by-small c.control-c.result.y c.control-c.ensures.y-small,
  by-small c.control-d.result.y c.control-d.ensures.y-small,
)

pub divided-requires-3 : goal.divided-requires-3
divided-requires-3 c = (
  c.row-w.ensures,
  c.requires.2,
  by-small c.control-a.result.z c.control-a.ensures.z-small,
  by-small c.control-b.result.z c.control-b.ensures.z-small,
  by-small c.control-c.result.z c.control-c.ensures.z-small,
  by-small c.control-d.result.z c.control-d.ensures.z-small,
)

pub returns : goal.returns
unfolding cubic_sampled
returns c =
    let e = c.control-a.ensures in
    let f = c.control-b.ensures in
    let g = c.control-c.ensures in
    let h = c.control-d.ensures in
    let x = by_bits c.args.j c.divided.ensures (e.x-is, e.x-small) (f.x-is, f.x-small) (g.x-is, g.x-small) (h.x-is, h.x-small) in
    let y = by_bits c.args.j c.divided-2.ensures (e.y-is, e.y-small) (f.y-is, f.y-small) (g.y-is, g.y-small) (h.y-is, h.y-small) in
    let z = by_bits c.args.j c.divided-3.ensures (e.z-is, e.z-small) (f.z-is, f.z-small) (g.z-is, g.z-small) (h.z-is, h.z-small) in
    record { x-is = x.0; y-is = y.0; z-is = z.0; x-small = x.1; y-small = y.1; z-small = z.1 }
