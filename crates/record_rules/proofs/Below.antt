-- A test at each index below a bound: by the bound.
use Prim.Native.Nat.{ℕ, zero, suc, ◌+◌, ◌<◌, ◌≤◌}
use native.Mathlib.Numerals.{add-one}
use native.Mathlib.Decide.{dec_le}
use native.Mathlib.Omega.{arith}
use mathlib.Core.Path.{◌≡◌, refl}
use mathlib.Core.Bool.{Bool, true, false, ◌&&◌}
use Rattle.lists.proofs.Tests.{and_left, and_right, and_both, and_first, and_second}
use Rattle.record_rules.specs.Numbers.{all_below}

pub below_more : (f : ℕ → Bool) (i : ℕ) → all_below i f ≡ true → f i ≡ true → all_below (i + 1) f ≡ true
below_more f i h k = rw add-one (and_both h k)

pub below_fails : (f : ℕ → Bool) (n i : ℕ) → i < n → f i ≡ false → all_below n f ≡ false
below_fails f zero i l h = absurd (omega arith)
below_fails f (suc n) i l h = go (dec_le (suc i) n) (λ m. below_fails f n i m h)
  where
    go : Dec (suc i ≤ n) → (suc i ≤ n → all_below n f ≡ false) → (all_below n f && f n) ≡ false
    go (yes m) r = and_first (f n) (r m)
    go (no m) r = let e : i ≡ n = omega arith in and_second (all_below n f) (rw e at h)

pub below_at : (f : ℕ → Bool) (n i : ℕ) → all_below n f ≡ true → i < n → f i ≡ true
below_at f zero i h l = absurd (omega arith)
below_at f (suc n) i h l = go (dec_le (suc i) n) (λ m. below_at f n i (and_left (all_below n f) (f n) h) m)
  where
    go : Dec (suc i ≤ n) → (suc i ≤ n → f i ≡ true) → f i ≡ true
    go (yes m) r = r m
    go (no m) r = let e : i ≡ n = omega arith in rw e (and_right (all_below n f) (f n) h)

pub below_all : (f : ℕ → Bool) (n : ℕ) → ((i : ℕ) → i < n → f i ≡ true) → all_below n f ≡ true
below_all f zero h = refl
below_all f (suc n) h = and_both (below_all f n (λ i l. h i (omega arith))) (h n (omega arith))

pub below-same : (f g : ℕ → Bool) → ((i : ℕ) → f i ≡ g i) → (n : ℕ) → all_below n f ≡ all_below n g
below-same f g h zero = refl
below-same f g h (suc n) = rw (below-same f g h n, h n)

-- a loop that has passed every index
pub below-ends : (f : ℕ → Bool) {n i : ℕ} → all_below i f ≡ true → i ≤ n → n ≤ i → all_below n f ≡ true
below-ends f {n} {i} h a b = let e : n ≡ i = omega arith in rw e h
