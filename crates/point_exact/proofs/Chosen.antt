-- The chosen segment or span exists, lies in bounds, is not empty and holds t: where the test fails everywhere the parameters never pass t.
use mathlib.Core.Path.{◌≡◌, refl, sym, ap, ◌∙◌, subst}
use mathlib.Core.Bool.{Bool, true, false, cond, ◌&&◌}
use mathlib.Core.Logic.{◌⊎◌, inl, inr, ⊎_elim}
use mathlib.Core.List.{List}
use Prim.Native.Nat.{ℕ, zero, suc, ◌+◌, ◌-◌, ◌≤◌, ◌<◌}
use native.Mathlib.Nat.{not-suc-le-zero, le_refl, le_of_suc-le-suc, eq-or-lt_of_le, add-zero, add-suc}
use native.Mathlib.Omega.{arith}
use borrow.Author.Tests.{leb-true, le-leb}
use lib.Dec.{leb}
use lib.ListN.{length}
use lib.IntN.{ℤ}
use lib.Signed.{◌≤ℤ◌, ◌<ℤ◌, le_z, lt_z, ≤ℤ_refl, clash_ℤ}
use Rattle.rounding.proofs.Order.{yes_le, yes_lt, le_yes, lt_yes, lt-or-le, ≤ℤ-trans, ≤ℤ-<ℤ-trans, <ℤ→≤ℤ, not-upto}
use Rattle.lists.proofs.Tests.{and_left, and_right, and_both, test, never}
use Rattle.point_exact.specs.Directions.{at, last_where, segment, starts, span}
use Rattle.point_exact.specs.Rules.{BezierRules, SplineRules}

-- ---- the last that passes a test
pub record Last (f : ℕ → Bool) (m g : ℕ) : Type 0 where
  pub below : g < m
  pub passes : f g ≡ true
  pub last : (j : ℕ) → g < j → j < m → f j ≡ false

pub last_found : (f : ℕ → Bool) (m i : ℕ) → i < m → f i ≡ true → Last f m (last_where f m)
unfolding last_where
last_found f zero i h p = absurd (not-suc-le-zero h)
last_found f (suc m) i h p = go (f m) refl (λ l. last_found f m i l p)
  where
    more : f m ≡ false → (i < m → Last f m (last_where f m)) → (i ≡ m) ⊎ (i < m) → Last f (suc m) (last_where f m)
    more e k (inl s) = never (sym e ∙ sym (ap f s) ∙ p)
    more e k (inr l) =
        let r = k l in
        record { below = omega (arith, r.below); passes = r.passes; last = λ j a b. ⊎_elim (λ s. ap f s ∙ e) (λ k. r.last j a k) (eq-or-lt_of_le (le_of_suc-le-suc b)) }

    go : (q : Bool) → f m ≡ q → (i < m → Last f m (last_where f m)) → Last f (suc m) (cond q m (last_where f m))
    go true e k = record { below = le_refl (suc m); passes = e; last = λ j a b. absurd (omega arith) }
    go false e k = more e k (eq-or-lt_of_le (le_of_suc-le-suc h))

-- some number passes, or none does
some_or_none : (f : ℕ → Bool) (m : ℕ) → Last f m (last_where f m) ⊎ ((j : ℕ) → j < m → f j ≡ false)
some_or_none f zero = inr (λ j h. absurd (not-suc-le-zero h))
some_or_none f (suc m) = ⊎_elim (λ e. inl (last_found f (suc m) m (le_refl (suc m)) e)) (λ e. go e (some_or_none f m)) (test (f m))
  where
    go : f m ≡ false → Last f m (last_where f m) ⊎ ((j : ℕ) → j < m → f j ≡ false)
        → Last f (suc m) (last_where f (suc m)) ⊎ ((j : ℕ) → j < suc m → f j ≡ false)
    go e (inl r) = inl (last_found f (suc m) (last_where f m) (omega (arith, r.below)) r.passes)
    go e (inr n) = inr (λ j h. ⊎_elim (λ s. ap f s ∙ e) (λ k. n j k) (eq-or-lt_of_le (le_of_suc-le-suc h)))

-- ---- what is chosen: t lies from x g to x (g + 1), and these differ
pub record Holds (x : ℕ → ℤ) (t : ℤ) (g : ℕ) : Type 0 where
  pub low : x g ≤ℤ t
  pub high : t ≤ℤ x (suc g)
  pub wide : x g <ℤ x (suc g)

module _ {n k : ℕ} {x : List ℤ} {t : ℤ} (d : BezierRules n k x t) where
  segment-last : Last (λ g. le_z (at x g) t) (length x - 1) (segment (at x) (length x) t)
  unfolding segment
  segment-last = last_found (λ g. le_z (at x g) t) (length x - 1) 0 (omega (arith, d.many)) (le_yes (at x 0) t d.low)

  pub segment-below : suc (segment (at x) (length x) t) < length x
  segment-below = omega (arith, segment-last.below)

  pub segment-holds : Holds (at x) t (segment (at x) (length x) t)
  segment-holds = record {
    low = yes_le (at x g) t segment-last.passes;
    high = go (eq-or-lt_of_le segment-last.below);
    wide = d.rising g segment-below;
  }
    where
      g : ℕ
      g = segment (at x) (length x) t

      go : (suc g ≡ length x - 1) ⊎ (suc g < length x - 1) → t ≤ℤ at x (suc g)
      go (inl e) = subst (λ (q : ℕ). t ≤ℤ at x q) (sym e) d.high
      go (inr l) = <ℤ→≤ℤ (not-upto (at x (suc g)) t (segment-last.last (suc g) (le_refl (suc g)) l))

starts-yes : (x : ℕ → ℤ) (n : ℕ) (t : ℤ) (i : ℕ) → n ≤ i → x i <ℤ x (suc i) → x i ≤ℤ t → starts x n t i ≡ true
starts-yes x n t i a b c = and_both (and_both (le-leb n i a) (lt_yes (x i) (x (suc i)) b)) (le_yes (x i) t c)

module _ {n k : ℕ} {x : List ℤ} {t : ℤ} (d : SplineRules n k x t) where
  -- no span from n to k starts at t or before: the knots stay at knot n
  flat : ((j : ℕ) → j < k → starts (at x) n t j ≡ false) → (i : ℕ) → n + i ≤ k → at x (n + i) ≤ℤ at x n
  flat h zero l = rw add-zero (≤ℤ_refl (at x n))
  flat h (suc i) l =
      let so_far = flat h i (omega arith) in
      rw add-suc (⊎_elim (λ w. never (sym (h (n + i) (omega arith)) ∙ starts-yes (at x) n t (n + i) (omega arith) w (≤ℤ-trans so_far d.low)))
      (λ w. ≤ℤ-trans w so_far) (lt-or-le (at x (n + i)) (at x (suc (n + i)))))

  pub span_last : Last (starts (at x) n t) k (span (at x) n k t)
  unfolding span
  span_last = ⊎_elim (λ r. r) (λ h. clash_ℤ d.wide (none h)) (some_or_none (starts (at x) n t) k)
    where
      none : ((j : ℕ) → j < k → starts (at x) n t j ≡ false) → at x k ≤ℤ at x n
      none h =
          let a : n + 1 ≤ k = d.enough in
          let e : n + (k - n) ≡ k = omega arith in
          subst (λ (q : ℕ). at x q ≤ℤ at x n) e (flat h (k - n) (omega arith))

  abbrev s : ℕ
  s = span (at x) n k t

  pub span_below : s < k
  span_below = span_last.below

  pub span-from : n ≤ s
  span-from = leb-true n s (and_left (leb n s) (lt_z (at x s) (at x (suc s))) (and_left (leb n s && lt_z (at x s) (at x (suc s))) (le_z (at x s) t) span_last.passes))

  span-low : at x s ≤ℤ t
  span-low = yes_le (at x s) t (and_right (leb n s && lt_z (at x s) (at x (suc s))) (le_z (at x s) t) span_last.passes)

  span-wide : at x s <ℤ at x (suc s)
  span-wide = yes_lt (at x s) (at x (suc s)) (and_right (leb n s) (lt_z (at x s) (at x (suc s))) (and_left (leb n s && lt_z (at x s) (at x (suc s))) (le_z (at x s) t) span_last.passes))

  -- past a last span that ends before t every knot is below t
  under : at x (suc s) <ℤ t → (i : ℕ) → suc s + i ≤ k → at x (suc s + i) <ℤ t
  under h zero l = rw add-zero h
  under h (suc i) l =
      let so_far = under h i (omega arith) in
      let from : n ≤ s = span-from in
      rw add-suc (⊎_elim (λ w. never (sym (span_last.last (suc s + i) (omega arith) (omega arith)) ∙ starts-yes (at x) n t (suc s + i) (omega arith) w (<ℤ→≤ℤ so_far)))
      (λ w. ≤ℤ-<ℤ-trans w so_far) (lt-or-le (at x (suc s + i)) (at x (suc (suc s + i)))))

  pub span-holds : Holds (at x) t s
  span-holds = record { low = span-low; high = ⊎_elim (λ l. clash_ℤ (past l) d.high) (λ l. l) (lt-or-le (at x (suc s)) t); wide = span-wide }
    where
      past : at x (suc s) <ℤ t → at x k <ℤ t
      past l =
          let b : s < k = span_below in
          let e : suc s + (k - suc s) ≡ k = omega arith in
          subst (λ (q : ℕ). at x q <ℤ t) e (under l (k - suc s) (omega arith))
