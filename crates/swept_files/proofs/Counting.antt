-- How many of the numbers 1 to n pass a test, and that one below n does: over any test, by n.
use Prim.Native.Nat.{ℕ, zero, suc, ◌+◌, ◌≤◌, ◌<◌}
use mathlib.Core.Path.{◌≡◌, refl}
use mathlib.Core.Bool.{Bool, true, false, cond, ◌||◌, or-true}
use mathlib.Core.Logic.{◌⊎◌, inl, inr}
use native.Mathlib.Decide.{dec_le}
use native.Mathlib.Omega.{arith}
use Rattle.lists.proofs.Tests.{test, never}
use Rattle.sweep_marks.specs.Counting.{any_below, kept_upto, new_number}

-- ---- one below n
pub any_at : (f : ℕ → Bool) (n i : ℕ) → i < n → f i ≡ true → any_below n f ≡ true
any_at f zero i l h = absurd (omega arith)
any_at f (suc n) i l h = go (dec_le (suc i) n) (λ m. any_at f n i m h)
  where
    go : Dec (suc i ≤ n) → (suc i ≤ n → any_below n f ≡ true) → (any_below n f || f n) ≡ true
    go (yes m) r = rw (r m)
    go (no m) r = let e : i ≡ n = omega arith in rw (rw e at h) (or-true (any_below n f))

pub record Below (f : ℕ → Bool) (n : ℕ) : Type 0 where
  pub at : ℕ
  pub less : at < n
  pub holds : f at ≡ true

pub any_found : (f : ℕ → Bool) (n : ℕ) → any_below n f ≡ true → Below f n
any_found f zero h = never h
any_found f (suc n) h = go (test (any_below n f)) (any_found f n)
  where
    go : (any_below n f ≡ true) ⊎ (any_below n f ≡ false) → (any_below n f ≡ true → Below f n) → Below f (suc n)
    go (inl e) r = let b = r e in record { at = b.at; less = (let l = b.less in omega arith); holds = b.holds }
    go (inr e) r = record { at = n; less = omega arith; holds = rw e at h }

-- ---- how many
module _ (f : ℕ → Bool) where
  pub kept-named : (n : ℕ) → f (suc n) ≡ true → kept_upto f (suc n) ≡ suc (kept_upto f n)
  kept-named n h = rw h (omega arith)

  pub kept-unnamed : (n : ℕ) → f (suc n) ≡ false → kept_upto f (suc n) ≡ kept_upto f n
  kept-unnamed n h = rw h (omega arith)

  pub kept_more : (m n : ℕ) → m ≤ n → kept_upto f m ≤ kept_upto f n
  kept_more m zero h = let e : m ≡ 0 = omega arith in rw e (omega arith)
  kept_more m (suc n) h = go (dec_le m n) (kept_more m n)
    where
      go : Dec (m ≤ n) → (m ≤ n → kept_upto f m ≤ kept_upto f n) → kept_upto f m ≤ kept_upto f n + cond (f (suc n)) 1 0
      go (yes l) r = let k = r l in omega arith
      go (no l) r = let e : m ≡ suc n = omega arith in rw e (omega arith)

  pub kept-order : (j k : ℕ) → j < k → f k ≡ true → kept_upto f j < kept_upto f k
  kept-order j zero h e = absurd (omega arith)
  kept-order j (suc n) h e = let k = kept_more j n (omega arith) in let m = kept-named n e in omega arith

  -- the number 0 names no record, whether a corner holds it or not
  pub new-zero : new_number f 0 ≡ 0
  new-zero = go (f 0)
    where
      go : (b : Bool) → ◌≡◌ {A = ℕ} (cond b 0 0) 0
      go true = refl
      go false = refl

  pub new-named : (k : ℕ) → f k ≡ true → new_number f k ≡ kept_upto f k
  new-named k h = rw h

  -- each new number is that of one old record
  pub record Old (n m : ℕ) : Type 0 where
    pub index : ℕ
    pub less : index < n
    pub passes : f (suc index) ≡ true
    pub counted : suc (kept_upto f index) ≡ m

  pub kept-old : (n m : ℕ) → 1 ≤ m → m ≤ kept_upto f n → Old n m
  kept-old zero m a b = absurd (omega arith)
  kept-old (suc n) m a b = go (dec_le m (kept_upto f n)) (test (f (suc n))) (kept-old n m a)
    where
      go : Dec (m ≤ kept_upto f n) → (f (suc n) ≡ true) ⊎ (f (suc n) ≡ false) → (m ≤ kept_upto f n → Old n m) → Old (suc n) m
      go (yes l) e r = let o = r l in record { index = o.index; less = (let q = o.less in omega arith); passes = o.passes; counted = o.counted }
      go (no l) (inl e) r = let q = kept-named n e in record { index = n; less = omega arith; passes = e; counted = omega arith }
      go (no l) (inr e) r = let q = kept-unnamed n e in absurd (omega arith)

  -- where every one passes
  pub kept-all : (n : ℕ) → ((k : ℕ) → 1 ≤ k → k ≤ n → f k ≡ true) → kept_upto f n ≡ n
  kept-all zero h = refl
  kept-all (suc n) h =
      let i = kept-all n (λ k a b. h k a (omega arith)) in
      let e = kept-named n (h (suc n) (omega arith) (omega arith)) in
      omega arith
