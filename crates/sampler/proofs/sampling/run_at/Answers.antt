-- Each test by its law, and the part from `at` on is what the run fills.
use mathlib.Core.Path.{◌≡◌, refl, sym, ap, ◌∙◌, subst}
use mathlib.Core.List.{List, ◌++◌}
use Prim.Native.Nat.{ℕ, ◌+◌, ◌*◌, ◌-◌, ◌≤◌}
use native.Mathlib.Omega.{arith}
use native.Mathlib.Nat.{mul-le-mul_right}
use borrow.Rule.Slice.PartMut.{put_mid}
use lib.ListN.{length, take, drop, length-take, length-drop}
use lib.IntN.{ℤ}
use Rattle.std.specs.Prelude.{Ok}
use Rattle.tables.specs.Lent.{lent}
use Rattle.tables.proofs.Bits.{fitted}
use Rattle.point_runs.specs.Inner.{axes_by}
use Rattle.sampler.specs.Points.{axes_of}
use Rattle.sampler.proofs.Entries.{Read}
use Rattle.sampler.proofs.Runners.{Same, run_none, run-many, run_room, run-filled, run-asked, run-read}
use Rattle.sampler.proofs.sampling.run_at.Goals as goal
use Rattle.sampler.proofs.sampling.run_at.Goals.{then-steps-lt1-via-then-steps-lt1, then-steps-lt1-via-else-steps-lt1+then-steps-gt65536, After-axes_of, After-body_direction-along}

pub returns-then-steps-lt1 : goal.returns-then-steps-lt1
returns-then-steps-lt1 c =
    let a = c.args in
    elim c.then-steps-lt1.branch [
      | then-steps-lt1-via-then-steps-lt1 w ↦ run_none (lent a.t.now) a.element a.body a.steps a.at a.points.now w.if-steps-lt1.true
      | then-steps-lt1-via-else-steps-lt1+then-steps-gt65536 w ↦ run-many (lent a.t.now) a.element a.body a.steps a.at a.points.now w.if-steps-gt65536.true
    ]

pub overflow_mul-numbers : goal.overflow_mul-numbers
overflow_mul-numbers c = record { fits = omega (arith, c.if-steps-gt65536.false, mul-le-mul_right (c.args.steps + 1) c.axes_of.ensures.1) }

numbers-are : (c : After-axes_of) → c.axes_of.result * (c.args.steps + 1) ≡ axes_of c.args.element * (c.args.steps + 1)
numbers-are c = ap (λ (q : ℕ). q * (c.args.steps + 1)) c.axes_of.ensures.0

pub returns-then-points-numbers : goal.returns-then-points-numbers
returns-then-points-numbers c =
    let a = c.args in
    run_room (lent a.t.now) a.element a.body a.steps a.at a.points.now (omega arith) (omega arith) (omega (arith, numbers-are (goal.at.returns-then-points-numbers c).After-axes_of, c.if-points-numbers.true))

pub returns-then-points-numbers-2 : goal.returns-then-points-numbers-2
returns-then-points-numbers-2 c =
    let a = c.args in
    run_room (lent a.t.now) a.element a.body a.steps a.at a.points.now (omega arith) (omega arith)
    (omega (arith, numbers-are (goal.at.returns-then-points-numbers-2 c).After-axes_of, c.if-points-numbers.false, c.if-points-numbers-2.true))

pub body_direction-along-requires : goal.body_direction-along-requires
body_direction-along-requires c = c.requires.along.sized

pub slice_bounds-x-end : goal.slice_bounds-x-end
slice_bounds-x-end c = omega (arith, c.requires.run)

read : (c : After-body_direction-along) → let a = c.args in
    Read (lent a.t.now) a.element a.body a.element.kind a.element.corners.first a.body.first_parameter a.body.count_u c.body_direction-along.result
read c = record { kind-is = refl; first-is = refl; from_is = refl; count-is = refl; along-is = c.body_direction-along.ensures }

pub write_run-requires : goal.write_run-requires
write_run-requires c =
    let a = c.args in
    let g = goal.at.write_run-requires c in
    let r = run-asked (read g.After-body_direction-along) _ _ (fitted {z = a.body.start_u} c.struct_told-1.given.1.1.1.1.1.1.1.1.1.0.1) (fitted {z = a.body.end_u} c.type_inv.body.1.1.1.1.1.1.1.1.1.1.0.1) c.requires in
    let n : axes_by a.element.kind * (a.steps + 1) ≡ c.axes_of.result * (a.steps + 1) = sym (numbers-are g.After-axes_of) in
    (r.0, r.1, omega arith, omega arith, simp (length-take, length-drop) (omega (arith, n, c.if-points-numbers-2.false, c.if-points-numbers.false)))

pub returns : goal.returns
returns c =
    let a = c.args in
    let g = goal.at.returns c in
    let y = take (length a.points.now - a.at) (drop a.at a.points.now) in
    let e = c.write_run.ensures
    ∙ ap (λ (q : List ℤ). q ++ drop (axes_by a.element.kind * (a.steps + 1)) y)
    (run-read (read g.After-body_direction-along) _ _ a.steps (fitted {z = a.body.start_u} c.struct_told-1.given.1.1.1.1.1.1.1.1.1.0.1) (fitted {z = a.body.end_u} c.struct_told-2-1.given.1.1.1.1.1.1.1.1.1.1.0.1)) in
    let room : a.at + axes_of a.element * (a.steps + 1) ≤ length a.points.now = omega (arith, numbers-are g.After-axes_of, c.if-points-numbers-2.false, c.if-points-numbers.false) in
    let r = run-filled (lent a.t.now) a.element a.body a.steps a.at a.points.now (omega arith) (omega arith) room e in
    subst (λ (q : ℕ). Same (lent a.t.now) a.element a.body a.steps a.at a.points.now (Ok (q * (a.steps + 1))) (put_mid a.at (length a.points.now - a.at) a.points.now c.write_run.new.points)) (sym c.axes_of.ensures.0) r
