-- 1 to k digits at the front of a word, and what follows them.
use Prim.Native.Nat.{ℕ, ◌≤◌}
use mathlib.Core.Path.{◌≡◌, refl, ap, ◌∙◌}
use mathlib.Core.List.{List}
use mathlib.Core.Bool.{Bool, true, false, ◌&&◌}
use mathlib.Core.Logic.{⊎_elim}
use lib.ListN.{length}
use lib.Dec.{leb}
use native.Mathlib.Omega.{arith}
use Rattle.lists.proofs.Tests.{test}
use Rattle.digits.specs.Digits.{is_digit, digits, nat_of, is_whole}
use Rattle.digits.specs.Straight.{is_empty, run, past, cap, front}
use Rattle.digits.proofs.Rows.{run-digits, nat_of-below}
use Rattle.digits.proofs.Fronts.{front-all, front-not}

-- up to ten digits stay below the cap
pub ten-digits : (l : List ℕ) → length (run l) ≤ 10 → cap (nat_of 0 (run l)) ≡ nat_of 0 (run l)
ten-digits l k = omega (arith, nat_of-below 10 0 (run l) (run-digits l) k)

-- 1 to k digits, when only digits are left out of account
whole_run : (k : ℕ) (l : List ℕ) → is_whole k (run l) ≡ (leb 1 (length (run l)) && leb (length (run l)) k)
unfolding is_whole
whole_run k l = rw (run-digits l) refl

whole-no : (k : ℕ) (l : List ℕ) → digits l ≡ false → is_whole k l ≡ false
unfolding is_whole
whole-no k l h = rw h refl

module _ (f : ℕ → Bool) (fd : (b : ℕ) → is_digit b ≡ true → f b ≡ true) where
  pub whole-yes : (k : ℕ) (l : List ℕ) → is_empty (front f (past l)) ≡ true → is_whole k (front f l) ≡ (leb 1 (length (run l)) && leb (length (run l)) k)
  whole-yes k l o = ap (is_whole k) (front-all f fd l o) ∙ whole_run k l

  pub whole-not : (k : ℕ) (l : List ℕ) → is_empty (front f (past l)) ≡ false → is_whole k (front f l) ≡ false
  whole-not k l o = whole-no k (front f l) (front-not f fd l o)

  -- too few digits or too many, whatever follows
  pub whole-bad : (k : ℕ) (l : List ℕ) → (leb 1 (length (run l)) && leb (length (run l)) k) ≡ false → is_whole k (front f l) ≡ false
  whole-bad k l h =
      ⊎_elim
      (λ (o : is_empty (front f (past l)) ≡ true). whole-yes k l o ∙ h)
      (λ (o : is_empty (front f (past l)) ≡ false). whole-not k l o)
      (test (is_empty (front f (past l))))
