-- The weights sum to 262,144, so each sum fits; the last is rounded once.
use mathlib.Core.Path.{◌≡◌, ap, ◌∙◌}
use mathlib.Core.List.{List, [], ◌∷◌}
use Prim.Native.Nat.{ℕ, ◌+◌, ◌*◌, ◌≤◌}
use native.Mathlib.Omega.{arith}
use lib.ListN.{get_or}
use lib.IntN.{ℤ, pos, nat_abs, ◌+ℤ◌, ◌*ℤ◌}
use mir.Syntax.{w32, w64}
use mir.Val.{SFits, to_z, of_z}
use mir.Facts.{to_z-of_z}
use Rattle.rounding.specs.Round.{rounded}
use Rattle.rounding.proofs.Bits.{read_back}
use Rattle.point_weights.specs.Weights.{weight, weighed}
use Rattle.point_weights.specs.Inner.{weight_row}
use Rattle.point_weights.proofs.Machine.{Added, one, plus, plus-fits}
use Rattle.point_weights.proofs.Sums.{row-sums}
use Rattle.point_weights.proofs.divided.Goals as goal

-- a number as the machine has it
abbrev bits : ℤ → ℤ
bits z = to_z w64 (of_z w64 z)

-- the weights that were handed in
module _ {j : ℕ} {w : List ℕ} (e : w ≡ weight_row j) (h : j ≤ 64) where
  entry : (i : ℕ) → get_or w i 0 ≡ get_or (weight j 0 ∷ weight j 1 ∷ weight j 2 ∷ weight j 3 ∷ []) i 0
  entry i = ap (λ (l : List ℕ). get_or l i 0) e

  whole_is : get_or w 0 0 + get_or w 1 0 + get_or w 2 0 + get_or w 3 0 ≡ 262144
  whole_is = omega (arith, row-sums j h, entry 0, entry 1, entry 2, entry 3)

  -- the products, each at most 2,000,000,000 times its weight
  few : 2000000000 * get_or w 0 0 + 2000000000 * get_or w 1 0 + 2000000000 * get_or w 2 0 + 2000000000 * get_or w 3 0 ≤ 600000000000000
  few = omega (arith, whole_is)

  one_of : (i : ℕ) (a : ℤ) → nat_abs a ≤ 2000000000 * get_or w i 0 → 2000000000 * get_or w i 0 ≤ 600000000000000 → Added a a (2000000000 * get_or w i 0)
  one_of i a p l = one a (2000000000 * get_or w i 0) p l

  two : (a b : ℤ) → nat_abs a ≤ 2000000000 * get_or w 0 0 → nat_abs b ≤ 2000000000 * get_or w 1 0
      → SFits w64 (bits a +ℤ bits b) × Added (bits a +ℤ bits b) (a +ℤ b) (2000000000 * get_or w 0 0 + 2000000000 * get_or w 1 0)
  two a b p q =
      let l = few in
      let l₂ : 2000000000 * get_or w 0 0 + 2000000000 * get_or w 1 0 ≤ 600000000000000 = omega arith in
      let f = one_of 0 a p (omega arith) in
      let g = one_of 1 b q (omega arith) in
      (plus-fits f g l₂, plus f g l₂)

  three : (a b c : ℤ) → nat_abs a ≤ 2000000000 * get_or w 0 0 → nat_abs b ≤ 2000000000 * get_or w 1 0 → nat_abs c ≤ 2000000000 * get_or w 2 0
      → SFits w64 (bits (bits a +ℤ bits b) +ℤ bits c) × Added (bits (bits a +ℤ bits b) +ℤ bits c) (a +ℤ b +ℤ c) (2000000000 * get_or w 0 0 + 2000000000 * get_or w 1 0 + 2000000000 * get_or w 2 0)
  three a b c p q r =
      let l = few in
      let f = (two a b p q).1 in
      let l₃ : 2000000000 * get_or w 0 0 + 2000000000 * get_or w 1 0 + 2000000000 * get_or w 2 0 ≤ 600000000000000 = omega arith in
      let g = one_of 2 c r (omega arith) in
      (plus-fits f g l₃, plus f g l₃)

  all : (a b c d : ℤ) → nat_abs a ≤ 2000000000 * get_or w 0 0 → nat_abs b ≤ 2000000000 * get_or w 1 0 → nat_abs c ≤ 2000000000 * get_or w 2 0 → nat_abs d ≤ 2000000000 * get_or w 3 0
      → SFits w64 (bits (bits (bits a +ℤ bits b) +ℤ bits c) +ℤ bits d) × Added (bits (bits (bits a +ℤ bits b) +ℤ bits c) +ℤ bits d) (a +ℤ b +ℤ c +ℤ d) (2000000000 * get_or w 0 0 + 2000000000 * get_or w 1 0 + 2000000000 * get_or w 2 0 + 2000000000 * get_or w 3 0)
  all a b c d p q r s =
      let l = few in
      let f = (three a b c p q r).1 in
      let g = one_of 3 d s (omega arith) in
      (plus-fits f g l, plus f g l)

four : {a b c d e f g h : ℤ} → a ≡ e → b ≡ f → c ≡ g → d ≡ h → a +ℤ b +ℤ c +ℤ d ≡ e +ℤ f +ℤ g +ℤ h
four p q r s = cc

pub weighted-requires : goal.weighted-requires
weighted-requires c = (rw (to_z-of_z c.ranges.a) c.requires.2, omega (arith, whole_is c.requires.0 c.requires.1))

pub weighted-requires-2 : goal.weighted-requires-2
weighted-requires-2 c = (rw (to_z-of_z c.ranges.b) c.requires.3, omega (arith, whole_is c.requires.0 c.requires.1))

pub overflow_add-n : goal.overflow_add-n
overflow_add-n c = (two c.requires.0 c.requires.1 c.weighted.result c.weighted-2.result c.weighted.ensures.1 c.weighted-2.ensures.1).0

pub weighted-requires-3 : goal.weighted-requires-3
weighted-requires-3 c = (rw (to_z-of_z c.ranges.c) c.requires.4, omega (arith, whole_is c.requires.0 c.requires.1))

pub overflow_add-n-2 : goal.overflow_add-n-2
overflow_add-n-2 c = (three c.requires.0 c.requires.1 c.weighted.result c.weighted-2.result c.weighted-3.result c.weighted.ensures.1 c.weighted-2.ensures.1 c.weighted-3.ensures.1).0

pub weighted-requires-4 : goal.weighted-requires-4
weighted-requires-4 c = (rw (to_z-of_z c.ranges.d) c.requires.5, omega (arith, whole_is c.requires.0 c.requires.1))

pub overflow_add-n-3 : goal.overflow_add-n-3
overflow_add-n-3 c = (all c.requires.0 c.requires.1 c.weighted.result c.weighted-2.result c.weighted-3.result c.weighted-4.result c.weighted.ensures.1 c.weighted-2.ensures.1 c.weighted-3.ensures.1 c.weighted-4.ensures.1).0

pub rounded-requires : goal.rounded-requires
rounded-requires c =
    let a = (all c.requires.0 c.requires.1 c.weighted.result c.weighted-2.result c.weighted-3.result c.weighted-4.result c.weighted.ensures.1 c.weighted-2.ensures.1 c.weighted-3.ensures.1 c.weighted-4.ensures.1).1 in
    (omega arith, omega arith, rw a.back (omega (arith, a.size, whole_is c.requires.0 c.requires.1)))

pub returns : goal.returns
unfolding weighed
returns c =
    let g = c.args in
    let e = entry c.requires.0 c.requires.1 in
    let a = (all c.requires.0 c.requires.1 c.weighted.result c.weighted-2.result c.weighted-3.result c.weighted-4.result c.weighted.ensures.1 c.weighted-2.ensures.1 c.weighted-3.ensures.1 c.weighted-4.ensures.1).1 in
    let sum_is = four (rw (to_z-of_z c.ranges.a) at c.weighted.ensures.0 ∙ ap (λ (n : ℕ). g.a *ℤ pos n) (e 0))
    (rw (to_z-of_z c.ranges.b) at c.weighted-2.ensures.0 ∙ ap (λ (n : ℕ). g.b *ℤ pos n) (e 1))
    (rw (to_z-of_z c.ranges.c) at c.weighted-3.ensures.0 ∙ ap (λ (n : ℕ). g.c *ℤ pos n) (e 2))
    (rw (to_z-of_z c.ranges.d) at c.weighted-4.ensures.0 ∙ ap (λ (n : ℕ). g.d *ℤ pos n) (e 3)) in
    rw (read_back w32 c.rounded.result (omega arith))
    (c.rounded.ensures.0 ∙ ap (λ z. rounded z 262144) (a.back ∙ sum_is), c.rounded.ensures.1)
