-- The corner names a vertex that is lent whole.
use mathlib.Core.Path.{◌≡◌, ap}
use Prim.Native.Nat.{ℕ}
use native.Mathlib.Omega.{arith}
use Rattle.rounding.specs.Range.{InRange}
use Rattle.tables.specs.declared.Corner.{Corner}
use Rattle.point_rows.specs.Controls.{vertex_of, control_at}
use Rattle.point_rows.proofs.Grids.{control-read}
use Rattle.point_rows.proofs.controls.control.Goals as goal
use Rattle.point_rows.proofs.controls.control.Goals.{After-lent_number, After-struct_known-1}

abbrev v : (s : After-struct_known-1) → ℕ
v s = vertex_of s.args.corners.now s.args.first s.args.i

abbrev v-at-After-lent_number : (s : After-lent_number) → ℕ
v-at-After-lent_number s = vertex_of s.args.corners.now s.args.first s.args.i

vertex-is-at-After-lent_number : (c : After-lent_number) → c.lent_corner_from-vertex.result.v ≡ v-at-After-lent_number c
vertex-is-at-After-lent_number c = ap (λ (x : Corner). x.v) c.lent_corner_from-vertex.ensures

small : (s : After-lent_number) → InRange (control_at s.args.values.now s.args.corners.now s.args.first s.args.axis s.args.i)
small s = s.requires.0.small s.args.i s.args.axis (omega arith) (omega arith) s.requires.1

pub returns : goal.returns
returns c =
    let a = c.args in
    control-read a.values.now a.corners.now a.first a.axis a.i c.lent_corner_from-vertex.result.v c.lent_number.ensures (vertex-is-at-After-lent_number c) (small c)
