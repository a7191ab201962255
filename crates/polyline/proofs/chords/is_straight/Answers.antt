-- The three axes, one after the other.
use mathlib.Core.Path.{◌≡◌, refl, sym, ap, ◌∙◌}
use mathlib.Core.Bool.{Bool}
use Prim.Native.Nat.{ℕ}
use mathlib.Core.List.{List}
use lib.IntN.{ℤ, pos}
use lib.ListN.{get_or}
use Rattle.polyline.specs.Inner.{space_of}
use mir.Syntax.{w32}
use mir.Val.{to_z, of_z}
use mir.Facts.{to_z-of_z}
use Rattle.tables.proofs.Bits.{fitted}
use Rattle.sampler.specs.Answers.{point_outcome}
use Rattle.point_rows.specs.declared.Coordinates.{Coordinates}
use Rattle.point_chords.specs.Chords.{near, near_at, straight}
use Rattle.polyline.proofs.chords.is_straight.Goals as goal
use Rattle.polyline.proofs.chords.is_straight.Goals.{then-is_near, else-is_near, After-is_near}

-- one axis: the numbers as they are handed on are the point's
read : {r : Bool} {t t' p p' m m' q q' : ℤ} → r ≡ near t' p' m' q' → t' ≡ t → p' ≡ p → m' ≡ m → q' ≡ q → r ≡ near t p m q
read e f g h k = rw (f, g, h, k) at e

module _ (c : After-is_near) where
  abbrev at : ℕ → Bool
  at k = near_at c.args.tolerance (point_outcome c.args.p).coordinates (point_outcome c.args.m).coordinates (point_outcome c.args.q).coordinates k

  abbrev machine : ℤ → ℤ
  machine z = to_z w32 (of_z w32 z)

  -- one axis of the three points
  number : {r : Bool} (k : ℕ) (of : Coordinates → ℤ) → machine (of c.space_of-a.result) ≡ of c.space_of-a.result → machine (of c.space_of-b.result) ≡ of c.space_of-b.result
      → machine (of c.space_of-c.result) ≡ of c.space_of-c.result
      → ((p : List ℤ) → of (space_of p) ≡ get_or p k (pos 0))
      → r ≡ near (machine c.args.tolerance) (machine (of c.space_of-a.result)) (machine (of c.space_of-b.result)) (machine (of c.space_of-c.result)) → r ≡ at k
  number k of f g h n e =
      read e (to_z-of_z c.ranges.tolerance) (f ∙ ap of c.space_of-a.ensures ∙ n _) (g ∙ ap of c.space_of-b.ensures ∙ n _) (h ∙ ap of c.space_of-c.ensures ∙ n _)

  x-is : c.is_near.result ≡ at 0
  x-is = number 0 (λ s. s.x) (fitted c.struct_told-1.given.0.1) (fitted c.struct_told-2-1.given.0.1) (fitted c.struct_told-3-1.given.0.1) (λ p. refl) c.is_near.ensures

pub returns-then-is_near-2 : goal.returns-then-is_near-2
unfolding straight
returns-then-is_near-2 c =
    let k = (goal.at.returns-then-is_near-2 c).After-is_near in
    elim c.if-is_near.branch [
      | then-is_near w ↦ let y = number k 1 (λ s. s.y) (fitted w.struct_told-then-is_near-1.given.1.0.1) (fitted w.struct_told-then-is_near-2-1.given.1.0.1) (fitted w.struct_told-then-is_near-3-1.given.1.0.1) (λ p. refl) w.is_near-then-is_near.ensures in
          let z = number k 2 (λ s. s.z) (fitted c.struct_told-then-is_near-2-2-1.given.1.1.0.1) (fitted c.struct_told-then-is_near-2-3-1.given.1.1.0.1) (fitted c.struct_told-then-is_near-2-4-1.given.1.1.0.1) (λ p. refl) c.is_near-then-is_near-2.ensures in
          rw (sym (x-is k) ∙ w.if-is_near.true, sym y ∙ sym w.value-is ∙ c.if-is_near-2.true) z
      | else-is_near w ↦ cc
    ]

pub returns-else-is_near-2 : goal.returns-else-is_near-2
unfolding straight
returns-else-is_near-2 c =
    let k = (goal.at.returns-else-is_near-2 c).After-is_near in
    elim c.if-is_near.branch [
      | then-is_near w ↦ let y = number k 1 (λ s. s.y) (fitted w.struct_told-then-is_near-1.given.1.0.1) (fitted w.struct_told-then-is_near-2-1.given.1.0.1) (fitted w.struct_told-then-is_near-3-1.given.1.0.1) (λ p. refl) w.is_near-then-is_near.ensures in
          rw (sym (x-is k) ∙ w.if-is_near.true, sym y ∙ sym w.value-is ∙ c.if-is_near-2.false) c.if-is_near-2.false
      | else-is_near w ↦ rw (sym (x-is k) ∙ w.if-is_near.false) c.if-is_near-2.false
    ]
