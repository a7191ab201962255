-- The range, then the point of the parts that are lent.
use mathlib.Core.Path.{◌≡◌, refl, sym, ap, ◌∙◌}
use mathlib.Core.Bool.{true}
use native.Mathlib.Omega.{arith}
use mir.Facts.{to_z-of_z}
use Rattle.std.specs.Prelude.{Ok}
use Rattle.tables.specs.Lent.{lent}
use Rattle.tables.proofs.Bits.{fitted}
use Rattle.sampler.specs.declared.Point.{Point}
use Rattle.sampler.specs.Answers.{point_answer, inside}
use Rattle.sampler.proofs.Entries.{curve-outside, curve-there, Read, curve-asked, point-read}
use Rattle.sampler.proofs.sampling.curve_at.Goals as goal
use Rattle.sampler.proofs.sampling.curve_at.Goals.{After-body_direction-along}

pub returns-then-not-is_inside : goal.returns-then-not-is_inside
returns-then-not-is_inside c =
    let a = c.args in
    curve-outside (lent a.t.now) a.element a.body a.at
    (sym (rw (fitted {z = c.args.body.start_u} c.struct_told-1.given.1.1.1.1.1.1.1.1.1.0.1, fitted {z = c.args.body.end_u} c.struct_told-2-1.given.1.1.1.1.1.1.1.1.1.1.0.1, to_z-of_z c.ranges.at) at c.if-not-is_inside.ensures))

pub body_direction-along-requires : goal.body_direction-along-requires
body_direction-along-requires c = c.requires.along.sized

pub slice_bounds-x-end : goal.slice_bounds-x-end
slice_bounds-x-end c = omega (arith, c.requires.run)

module _ (c : After-body_direction-along) where
  read : let a = c.args in Read (lent a.t.now) a.element a.body a.element.kind a.element.corners.first a.body.first_parameter a.body.count_u c.body_direction-along.result
  read = record { kind-is = refl; first-is = refl; from_is = refl; count-is = refl; along-is = c.body_direction-along.ensures }

  within : inside c.args.body.start_u c.args.body.end_u c.args.at ≡ true
  within = sym (rw (fitted {z = c.args.body.start_u} c.struct_told-1.given.1.1.1.1.1.1.1.1.1.0.1, fitted {z = c.args.body.end_u} c.struct_told-2-1.given.1.1.1.1.1.1.1.1.1.1.0.1, to_z-of_z c.ranges.at) at c.if-not-is_inside.ensures)

pub curve_point-requires : goal.curve_point-requires
curve_point-requires c =
    let b = (goal.at.curve_point-requires c).After-body_direction-along in
    curve-asked (read b) c.args.at _ (to_z-of_z c.ranges.at) c.requires (within b)

pub returns : goal.returns
returns c =
    let a = c.args in
    let b = (goal.at.returns c).After-body_direction-along in
    ap (λ (p : Point). point_answer (Ok p)) (c.curve_point.ensures ∙ point-read (read b) a.at _ (to_z-of_z c.ranges.at))
    ∙ curve-there (lent a.t.now) a.element a.body a.at (within b)
