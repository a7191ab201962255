-- Both ranges, then the point of the parts that are lent.
use mathlib.Core.Path.{◌≡◌, refl, sym, ap, ◌∙◌}
use mathlib.Core.Bool.{true}
use native.Mathlib.Omega.{arith}
use mir.Facts.{to_z-of_z}
use Rattle.std.specs.Prelude.{Ok}
use Rattle.tables.specs.Lent.{lent}
use Rattle.tables.proofs.Bits.{fitted}
use Rattle.sampler.specs.declared.Point.{Point}
use Rattle.sampler.specs.Answers.{point_answer, inside}
use Rattle.sampler.proofs.Surfaces.{outside-u, outside-v, surface-there, Laid, surface-asked, surface-read}
use Rattle.sampler.proofs.sampling.surface_at.Goals as goal
use Rattle.sampler.proofs.sampling.surface_at.Goals.{Else-not-is_inside, After-body_direction-v}

pub returns-then-not-is_inside : goal.returns-then-not-is_inside
returns-then-not-is_inside c =
    let a = c.args in
    outside-u (lent a.t.now) a.element a.body a.along_u a.along_v
    (sym (rw (fitted {z = c.args.body.start_u} c.struct_told-1.given.1.1.1.1.1.1.1.1.1.0.1, fitted {z = c.args.body.end_u} c.struct_told-2-1.given.1.1.1.1.1.1.1.1.1.1.0.1, to_z-of_z c.ranges.along_u) at c.if-not-is_inside.ensures))

in-u : (c : Else-not-is_inside) → inside c.args.body.start_u c.args.body.end_u c.args.along_u ≡ true
in-u c =
    sym (rw (fitted {z = c.args.body.start_u} c.struct_told-1.given.1.1.1.1.1.1.1.1.1.0.1, fitted {z = c.args.body.end_u} c.struct_told-2-1.given.1.1.1.1.1.1.1.1.1.1.0.1, to_z-of_z c.ranges.along_u) at c.if-not-is_inside.ensures)

pub returns-then-not-is_inside-2 : goal.returns-then-not-is_inside-2
returns-then-not-is_inside-2 c =
    let a = c.args in
    outside-v (lent a.t.now) a.element a.body a.along_u a.along_v (in-u (goal.at.returns-then-not-is_inside-2 c).Else-not-is_inside)
    (sym (rw (fitted {z = c.args.body.start_v} c.struct_told-3-1.given.1.1.1.1.1.1.1.1.1.1.1.0.1, fitted {z = c.args.body.end_v} c.struct_told-4-1.given.1.1.1.1.1.1.1.1.1.1.1.1.0.1, to_z-of_z c.ranges.along_v) at c.if-not-is_inside-2.ensures))

pub body_direction-u-requires : goal.body_direction-u-requires
body_direction-u-requires c = c.requires.along-u.sized

pub body_direction-v-requires : goal.body_direction-v-requires
body_direction-v-requires c = c.requires.along-v.sized

pub slice_bounds-x-end : goal.slice_bounds-x-end
slice_bounds-x-end c = omega (arith, c.requires.run)

pub slice_bounds-y-end : goal.slice_bounds-y-end
slice_bounds-y-end c = omega (arith, c.requires.run)

module _ (c : After-body_direction-v) where
  laid : let a = c.args in
      Laid (lent a.t.now) a.element a.body a.element.corners.first a.body.first_parameter a.body.count_u a.body.count_v c.body_direction-u.result c.body_direction-v.result
  laid = record { first-is = refl; from_is = refl; count-u-is = refl; count-v-is = refl; along-u-is = c.body_direction-u.ensures; along-v-is = c.body_direction-v.ensures }

  in-v : inside c.args.body.start_v c.args.body.end_v c.args.along_v ≡ true
  in-v =
      sym (rw (fitted {z = c.args.body.start_v} c.struct_told-3-1.given.1.1.1.1.1.1.1.1.1.1.1.0.1, fitted {z = c.args.body.end_v} c.struct_told-4-1.given.1.1.1.1.1.1.1.1.1.1.1.1.0.1, to_z-of_z c.ranges.along_v) at c.if-not-is_inside-2.ensures)

pub surface_point-requires : goal.surface_point-requires
surface_point-requires c =
    let g = goal.at.surface_point-requires c in
    surface-asked (laid g.After-body_direction-v) c.args.along_u _ c.args.along_v _ (to_z-of_z c.ranges.along_u) (to_z-of_z c.ranges.along_v) c.requires (in-u g.Else-not-is_inside) (in-v g.After-body_direction-v)

pub returns : goal.returns
returns c =
    let a = c.args in
    let g = goal.at.returns c in
    ap (λ (p : Point). point_answer (Ok p)) (c.surface_point.ensures
    ∙ surface-read (laid g.After-body_direction-v) a.along_u _ a.along_v _ (to_z-of_z c.ranges.along_u) (to_z-of_z c.ranges.along_v))
    ∙ surface-there (lent a.t.now) a.element a.body a.along_u a.along_v (in-u g.Else-not-is_inside) c.requires.kind (in-v g.After-body_direction-v)
