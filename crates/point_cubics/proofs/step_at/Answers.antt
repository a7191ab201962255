-- The type, then the step, then the point of the parts that are lent.
use mathlib.Core.Path.{◌≡◌, sym, ap, ◌∙◌, subst}
use mathlib.Core.Bool.{true}
use mathlib.Core.List.{List}
use Prim.Native.Nat.{ℕ, ◌<◌}
use native.Mathlib.Omega.{arith}
use lib.ListN.{length}
use lib.IntN.{ℤ}
use Rattle.std.specs.Prelude.{Ok}
use Rattle.tables.specs.Records.{parameters_u}
use Rattle.tables.specs.Lent.{lent}
use Rattle.tables.proofs.Bits.{fitted}
use Rattle.rounding.specs.Range.{InRange}
use Rattle.point_exact.specs.Directions.{at}
use Rattle.sampler.specs.declared.Point.{Point}
use Rattle.sampler.specs.Answers.{point_answer}
use Rattle.sampler.proofs.Entries.{part-is}
use Rattle.point_cubics.specs.Answers.{cubic, reached}
use Rattle.point_cubics.proofs.Answers.{point-is, not-cubic, not-reached, handed_out, cubic-type, cubic-degree, step-there, segment-there, controls-held, small-parameters}
use Rattle.point_cubics.proofs.step_at.Goals as goal
use Rattle.point_cubics.proofs.step_at.Goals.{Else-not-is_reached}

same-reached : {x y : List ℤ} {a b d e : ℤ} (g j : ℕ) → x ≡ y → a ≡ b → d ≡ e → reached x a d g j ≡ reached y b e g j
same-reached g j p q r = cc

pub returns-then-not-is_cubic : goal.returns-then-not-is_cubic
returns-then-not-is_cubic c =
    let a = c.args in
    not-cubic (lent a.t.now) a.element a.body a.segment a.j (sym c.if-not-is_cubic.ensures)

pub slice_bounds-x-end : goal.slice_bounds-x-end
slice_bounds-x-end c = omega (arith, c.requires.run)

pub is_reached-requires : goal.is_reached-requires
is_reached-requires c =
    let b = c.args.body in
    let v = c.requires in (
      subst (λ (l : List ℤ). (i : ℕ) → i < length l → InRange (at l i)) (sym (part-is c.args.t.now.parameters.now b.first_parameter b.count_u)) (small-parameters v),
      rw (fitted {z = b.start_u} c.struct_told-1.given.1.1.1.1.1.1.1.1.1.0.1) v.along.ranged.start_small,
      rw (fitted {z = b.end_u} c.type_inv.body.1.1.1.1.1.1.1.1.1.1.0.1) v.along.ranged.end-small,
    )

pub returns-then-not-is_reached : goal.returns-then-not-is_reached
returns-then-not-is_reached c =
    let a = c.args in
    let b = a.body in
    not-reached (lent a.t.now) a.element b a.segment a.j (sym c.if-not-is_cubic.ensures)
    (sym (c.if-not-is_reached.ensures ∙ same-reached a.segment a.j (part-is a.t.now.parameters.now b.first_parameter b.count_u)
    (fitted {z = b.start_u} c.struct_told-1.given.1.1.1.1.1.1.1.1.1.0.1) (fitted {z = b.end_u} c.struct_told-2-1.given.1.1.1.1.1.1.1.1.1.1.0.1)))

-- the body is a cubic, and the step is one of its own
module _ (c : Else-not-is_reached) where
  is_true : cubic c.args.body.basis c.args.body.degree_u ≡ true
  is_true = sym c.if-not-is_cubic.ensures

  holds : reached (parameters_u (lent c.args.t.now) c.args.body) c.args.body.start_u c.args.body.end_u c.args.segment c.args.j ≡ true
  holds =
      let a = c.args in
      let b = a.body in
      sym (c.if-not-is_reached.ensures ∙ same-reached a.segment a.j (part-is a.t.now.parameters.now b.first_parameter b.count_u)
      (fitted {z = b.start_u} c.struct_told-1.given.1.1.1.1.1.1.1.1.1.0.1) (fitted {z = b.end_u} c.struct_told-2-1.given.1.1.1.1.1.1.1.1.1.1.0.1))

pub point-requires : goal.point-requires
point-requires c =
    let a = c.args in
    let b = a.body in
    let x = parameters_u (lent a.t.now) b in
    let o = (goal.at.point-requires c).Else-not-is_reached in (
      controls-held c.requires (cubic-type b.basis b.degree_u (is_true o)) (cubic-degree b.basis b.degree_u (is_true o)) a.segment (segment-there x b.start_u b.end_u a.segment a.j (holds o)),
      step-there x b.start_u b.end_u a.segment a.j (holds o),
    )

pub returns : goal.returns
returns c =
    let a = c.args in
    let o = (goal.at.returns c).Else-not-is_reached in
    ap (λ (p : Point). point_answer (Ok p)) c.point.ensures ∙ point-is (lent a.t.now) a.element a.body a.segment a.j
    ∙ handed_out (lent a.t.now) a.element a.body a.segment a.j (is_true o) (holds o)
