-- What is left of the rows comes to what the first row comes to.
use mathlib.Core.Path.{◌≡◌, sym, ap, subst, ◌∙◌}
use Prim.Native.Nat.{suc, ◌+◌, ◌-◌}
use native.Mathlib.Numerals.{add-one}
use native.Mathlib.Omega.{arith}
use mir.Syntax.{w32}
use mir.Val.{to_z, of_z}
use mir.Facts.{to_z-of_z}
use Rattle.point_exact.specs.Sampled.{offset_at, gap_at}
use Rattle.point_rows.specs.Places.{direction}
use Rattle.point_guess.specs.Steps.{Encodes, Next}
use Rattle.point_guess.specs.Rows.{place_at, axis_number}
use Rattle.point_guess.proofs.Levels.{made_more, left_less, next_place, next_of, level-encoded, level-row, pyramid-one}
use Rattle.point_guess.proofs.descend.Goals as goal
use Rattle.point_guess.proofs.descend.Goals.{then-not-certain, else-not-certain, After-guessed-p}

-- the two neighbours
module _ (c : After-guessed-p) where
  next-is : place_at c.loop-i.rest.places (c.loop-i.i + 1) ≡ place_at c.loop-rest.rest.places (c.loop-i.i + 1)
  next-is = c.loop-i.invariant.1.rest (c.loop-i.i + 1) (omega arith)

  both : Encodes c.loop-i.a × Encodes (place_at c.loop-i.rest.places (c.loop-i.i + 1))
  both =
      let e = c.loop-rest.invariant.0 in
      (subst Encodes (sym c.loop-i.invariant.0) (e.each c.loop-i.i (omega arith)), subst Encodes (sym next-is) (e.each (c.loop-i.i + 1) (omega arith)))

pub certain-requires : goal.certain-requires
certain-requires c = let e = both (goal.at.certain-requires c).After-guessed-p in (e.0, e.1, c.guessed-p.ensures)

pub exact_at-p-requires : goal.exact_at-p-requires
exact_at-p-requires c =
    let e = both (goal.at.exact_at-p-requires c).After-guessed-p in
    rw (to_z-of_z c.ranges.t) (e.0, e.1, c.requires.0, omega arith, omega arith)

pub loop-i-preserved : goal.loop-i-preserved
loop-i-preserved c =
    let k = (goal.at.loop-i-preserved c).After-guessed-p in
    let v = c.loop-i.invariant in
    let d = direction c.args.along c.args.x.now in
    let t = to_z w32 (of_z w32 c.args.t) in
    let r = c.loop-rest.rest.count - 1 - 1 in
    let i = c.loop-i.i in
    let old = c.loop-rest.rest.places in
    let f = next-is k ∙ ap (place_at old) (add-one i) in
    let g = c.interval_of-gap.ensures in
    let N = Next (offset_at d t r i) (gap_at d t r i) (place_at old i) (place_at old (suc i)) in
    let p = c.if-not-certain.p in
    let new : N p = elim c.if-not-certain.branch [
      | then-not-certain w ↦ subst N (sym w.p-is) (next_of v.0 f w.exact_at-p.ensures)
      | else-not-certain w ↦ subst N (sym w.p-is) (next_place g v.0 f (c.certain.ensures w.if-not-certain.false t g.fair))
    ] in
    (next-is k, left_less p v.1, made_more p v.2 (omega (arith, v.1.long, c.loop-rest.invariant.0.most)) new)

pub loop-rest-preserved : goal.loop-rest-preserved
loop-rest-preserved c =
    let d = direction c.args.along c.args.x.now in
    let t = to_z w32 (of_z w32 c.args.t) in
    let v = c.loop-i.invariant in
    let w = c.loop-rest.invariant in
    let e : c.loop-i.i ≡ c.loop-rest.rest.count - 1 = omega arith in
    let done = rw e at v.2 in (
      level-encoded (offset_at d t) (gap_at d t) c.loop-rest.rest.places done (omega (arith, v.1.long, w.0.most)),
      omega arith,
      omega arith,
      λ k. level-row (offset_at d t) (gap_at d t) c.loop-rest.rest.places done (omega arith) k ∙ w.3 k,
    )

pub returns : goal.returns
returns c =
    let d = direction c.args.along c.args.x.now in
    let w = c.loop-rest.invariant in
    record {
      whole = w.0.each 0 w.1;
      is = λ k. sym (pyramid-one (offset_at d c.args.t) (gap_at d c.args.t) (c.loop-rest.rest.count - 1) (axis_number c.loop-rest.rest.places k) (omega arith)) ∙ rw (to_z-of_z c.ranges.t) at (w.3 k);
    }
