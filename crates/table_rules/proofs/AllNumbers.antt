-- The records of one table, each in range, are one run of numbers in range.
use Prim.Native.Nat.{ℕ, zero, suc, ◌+◌, ◌*◌, ◌-◌, ◌≤◌}
use native.Mathlib.Nat.{add-zero, zero-add, add-suc, mul-zero, mul-suc, add_assoc}
use native.Mathlib.Omega.{arith}
use mathlib.Core.Path.{◌≡◌, refl, sym}
use mathlib.Core.List.{List}
use mathlib.Core.Bool.{Bool, true, false, ◌&&◌, and-true, and-false, and_assoc}
use borrow.Author.Tests.{leb-true, le-leb}
use lib.Dec.{leb}
use lib.ListN.{length, get_or}
use lib.IntN.{ℤ, pos}
use Rattle.record_rules.specs.Numbers.{in_range, all_below, run_in_range}
use Rattle.record_rules.specs.Vertices.{vertex_obeys}
use Rattle.record_rules.proofs.Below.{below-same}

below-append : (f : ℕ → Bool) (a b : ℕ) → all_below (a + b) f ≡ (all_below a f && all_below b (λ k. f (a + k)))
below-append f a zero = rw add-zero (sym (and-true (all_below a f)))
below-append f a (suc b) = rw (add-suc, below-append f a b) (and_assoc (all_below a f) _ _)

module _ (l : List ℤ) where
  run-append : (first a b : ℕ) → run_in_range l first (a + b) ≡ (run_in_range l first a && run_in_range l (first + a) b)
  unfolding run_in_range
  run-append first a b = go (leb (first + a + b) (length l)) refl
    where
      f : ℕ → Bool
      f k = in_range (get_or l (first + k) (pos 0))

      g : ℕ → Bool
      g k = in_range (get_or l (first + a + k) (pos 0))

      go : (q : Bool) → leb (first + a + b) (length l) ≡ q
          → (leb (first + (a + b)) (length l) && all_below (a + b) f) ≡ (leb (first + a) (length l) && all_below a f && (leb (first + a + b) (length l) && all_below b g))
      go true h =
          let less : leb (first + a) (length l) ≡ true = le-leb (first + a) (length l) (omega (arith, leb-true (first + a + b) (length l) h)) in
          rw (← add_assoc first a b, h, less, below-append f a b, below-same (λ k. f (a + k)) g (λ k. rw add_assoc) b)
      go false h = rw (← add_assoc first a b, h) (sym (and-false (leb (first + a) (length l) && all_below a f)))

  numbers-upto : (w n m : ℕ) → m ≤ n → run_in_range l 0 (w * m) ≡ all_below m (λ k. vertex_obeys w l n (suc k))
  unfolding run_in_range vertex_obeys
  numbers-upto w n zero h = rw (mul-zero, le-leb (0 + 0) (length l) (omega arith))
  numbers-upto w n (suc m) h =
      let at : suc m - 1 ≡ m = omega arith in
      rw (mul-suc, run-append 0 (w * m) w, numbers-upto w n m (omega arith), le-leb 1 (suc m) (omega arith), le-leb (suc m) n h, zero-add, at)

  pub numbers-are : (w n : ℕ) → run_in_range l 0 (w * n) ≡ all_below n (λ k. vertex_obeys w l n (suc k))
  numbers-are w n = numbers-upto w n n (omega arith)
