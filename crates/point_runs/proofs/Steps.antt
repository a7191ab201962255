-- The parameters of a run: the part is at most the whole way, and never less at a later step.
use mathlib.Core.Path.{◌≡◌, refl, sym, ap, ◌∙◌}
use mathlib.Core.List.{List, [], ◌∷◌}
use Prim.Native.Nat.{ℕ, ◌+◌, ◌*◌, ◌-◌, ◌/◌, ◌≤◌, ◌<◌}
use native.Mathlib.Nat.{mul-le-mul, mul-le-mul_left, mul-le-mul_right, div-le_of_le-mul, div-mul-le_self, le-div_iff_mul-le, le_trans}
use native.Mathlib.Omega.{arith}
use lib.Dec.{T, leb→le}
use lib.IntN.{ℤ, pos, negsuc, nat_abs, ◌+ℤ◌, ◌-ℤ◌, +ℤ_idr}
use lib.Signed.{◌≤ℤ◌, le_z}
use Rattle.rounding.specs.Range.{InRange}
use Rattle.rounding.proofs.Order.{up, up_le, up-abs}
use Rattle.rounding.proofs.Ring.{ring, ◌⊕◌, ◌⊝◌, ◌≐◌}
use Rattle.point_rows.specs.Finding.{Sound, On, Hint}
use Rattle.point_rows.specs.declared.BodyDirection.{BodyDirection}
use Rattle.point_rows.proofs.Searched.{followed}
use Rattle.point_runs.specs.Runs.{parameter_at}
use Rattle.point_runs.specs.Inner.{Ranged}

pub part-within : (j w n : ℕ) → j ≤ n → j * w / n ≤ w
part-within j w n h = div-le_of_le-mul n (mul-le-mul_right w h)

pub product_small : (j w : ℕ) → j ≤ 65536 → w ≤ 4000000000 → j * w ≤ 65536 * 4000000000
product_small j w h k = mul-le-mul h k

small_of : (a t b : ℤ) → T (le_z a t) → T (le_z t b) → InRange a → InRange b → InRange t
small_of a (pos n) (pos m) h k x y = omega (arith, leb→le n m k)
small_of a (pos n) (negsuc m) h k x y = absurd k
small_of (pos l) (negsuc n) b h k x y = absurd h
small_of (negsuc l) (negsuc n) b h k x y = omega (arith, leb→le n l h)

pub small-between : {a t b : ℤ} → a ≤ℤ t → t ≤ℤ b → InRange a → InRange b → InRange t
small-between {a} {t} {b} h k x y = small_of a t b h.le k.le x y

module _ (start end : ℤ) (o : start ≤ℤ end) (steps : ℕ) where
  abbrev way : ℕ
  way = nat_abs (end -ℤ start)

  abbrev part : ℕ → ℕ
  part j = j * way / steps

  further : (p q : ℕ) → p ≤ q → (start +ℤ pos p) ≤ℤ (start +ℤ pos q)
  further p q h = up_le (record { by = q - p; same = ap (λ (k : ℕ). start +ℤ pos k) (let e : q ≡ p + (q - p) = omega arith in e) ∙ ring (start ∷ pos p ∷ pos (q - p) ∷ []) (λ a x y. a ⊕ (x ⊕ y) ≐ a ⊕ x ⊕ y) tt })

  all_the_way : start +ℤ pos way ≡ end
  all_the_way = ap (λ (z : ℤ). start +ℤ z) (sym (up-abs (up o))) ∙ ring (start ∷ end ∷ []) (λ a b. a ⊕ (b ⊝ a) ≐ b) tt

  pub parameter-first : parameter_at start end steps 0 ≡ start
  unfolding parameter_at
  parameter-first = ap (λ (k : ℕ). start +ℤ pos k) none ∙ +ℤ_idr start
    where
      none : 0 * way / steps ≡ 0
      none = let h : 0 * way / steps ≤ 0 = div-le_of_le-mul steps (omega arith) in omega arith

  pub parameter-from : (j : ℕ) → start ≤ℤ parameter_at start end steps j
  unfolding parameter_at
  parameter-from j = up_le (record { by = part j; same = refl })

  pub parameter-upto : (j : ℕ) → j ≤ steps → parameter_at start end steps j ≤ℤ end
  unfolding parameter_at
  parameter-upto j h = rw all_the_way at (further (part j) way (part-within j way steps h))

  pub parameter-rises : 0 < steps → (i j : ℕ) → i ≤ j → parameter_at start end steps i ≤ℤ parameter_at start end steps j
  unfolding parameter_at
  parameter-rises some i j h = further (part i) (part j) ((le-div_iff_mul-le some).1 (le_trans (div-mul-le_self (i * way) steps) (mul-le-mul_right way h)))

-- at each parameter of a run there is a segment or span, and the search for it goes on from any before
module _ {a : BodyDirection} {x : List ℤ} {start end : ℤ} (r : Ranged a x start end) (steps : ℕ) where
  pub run_sound : (j : ℕ) → j ≤ steps → Sound a x (parameter_at start end steps j)
  run_sound j h = r.sound (parameter_at start end steps j) (parameter-from start end r.ordered steps j) (parameter-upto start end r.ordered steps j h)

  pub run-hint : 0 < steps → {i j g : ℕ} → i ≤ j → On a x (parameter_at start end steps i) g → Hint a x (parameter_at start end steps j) g (g + 1)
  run-hint some {i} {j} h o = followed o (parameter-rises start end r.ordered steps some i j h)

-- the point j of a run of n steps has its place
pub room : (w j n : ℕ) → j ≤ n → w * j + w ≤ w * (n + 1)
room w j n h = omega (arith, mul-le-mul_left w h)
