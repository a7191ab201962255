-- How many of the numbers 1 to n pass a test: over any test, by n.
use Prim.Native.Nat.{ℕ, zero, suc, ◌+◌, ◌≤◌, ◌<◌}
use mathlib.Core.Path.{◌≡◌, refl, ap₂}
use mathlib.Core.Bool.{Bool, true, false, cond, ◌||◌}
use native.Mathlib.Omega.{arith}
use Rattle.sweep_marks.specs.Counting.{any_below, kept_upto, dropped_upto}

pub any_same : (f g : ℕ → Bool) (n : ℕ) → ((i : ℕ) → f i ≡ g i) → any_below n f ≡ any_below n g
any_same f g zero h = refl
any_same f g (suc n) h = ap₂ (λ (x y : Bool). x || y) (any_same f g n h) (h n)

pub any_none : (f : ℕ → Bool) (n : ℕ) → ((i : ℕ) → f i ≡ false) → any_below n f ≡ false
any_none f zero h = refl
any_none f (suc n) h = rw (any_none f n h) (h n)

-- it looks at 1 to n alone
pub kept_same : (f g : ℕ → Bool) (n : ℕ) → ((i : ℕ) → i < n → f (suc i) ≡ g (suc i)) → kept_upto f n ≡ kept_upto g n
kept_same f g zero h = refl
kept_same f g (suc n) h = ap₂ (λ (x : ℕ) (y : Bool). x + cond y 1 0) (kept_same f g n (λ i l. h i (omega arith))) (h n (omega arith))

module _ (f : ℕ → Bool) where
  pub kept-dropped : (n : ℕ) → kept_upto f n + dropped_upto f n ≡ n
  kept-dropped zero = refl
  kept-dropped (suc n) = let i = kept-dropped n in go (f (suc n)) i
    where
      go : (b : Bool) → kept_upto f n + dropped_upto f n ≡ n → (kept_upto f n + cond b 1 0) + (dropped_upto f n + cond b 0 1) ≡ suc n
      go true i = omega arith
      go false i = omega arith

  pub kept-most : (n : ℕ) → kept_upto f n ≤ n
  kept-most n = let i = kept-dropped n in omega arith
