-- A run of numbers, as its loop finds it: by the run's first number out of range, or by their number.
use Prim.Native.Nat.{ℕ, ◌+◌, ◌<◌, ◌≤◌}
use mathlib.Core.Path.{◌≡◌}
use mathlib.Core.List.{List}
use mathlib.Core.Bool.{Bool, true, false, ◌&&◌}
use lib.ListN.{length, get_or}
use lib.Dec.{leb}
use lib.IntN.{ℤ, pos}
use borrow.Author.Tests.{le-leb, lt-leb, leb-true}
use Rattle.lists.proofs.Tests.{and_both, and_left, and_right, and_second}
use Rattle.record_rules.specs.Numbers.{in_range, all_below, run_in_range}
use native.Mathlib.Omega.{arith}
use Rattle.record_rules.proofs.Below.{below_more, below_fails, below-ends, below_at}

module _ (l : List ℤ) (first count : ℕ) where
  pub run_short : length l < first + count → run_in_range l first count ≡ false
  unfolding run_in_range
  run_short h = rw (lt-leb (first + count) (length l) h)

  pub run-fails : (k : ℕ) → k < count → in_range (get_or l (first + k) (pos 0)) ≡ false → run_in_range l first count ≡ false
  unfolding run_in_range
  run-fails k h e = and_second (leb (first + count) (length l)) (below_fails (λ j. in_range (get_or l (first + j) (pos 0))) count k h e)

  pub run_holds : (k : ℕ) → first + count ≤ length l → all_below k (λ j. in_range (get_or l (first + j) (pos 0))) ≡ true → k ≤ count → count ≤ k → run_in_range l first count ≡ true
  unfolding run_in_range
  run_holds k h e a b = and_both (le-leb (first + count) (length l) h) (below-ends (λ j. in_range (get_or l (first + j) (pos 0))) e a b)

  pub run_lent : run_in_range l first count ≡ true → first + count ≤ length l
  unfolding run_in_range
  run_lent h = leb-true (first + count) (length l) (and_left (leb (first + count) (length l)) (all_below count (λ j. in_range (get_or l (first + j) (pos 0)))) h)

  pub run_small : run_in_range l first count ≡ true → (k : ℕ) → k < count → in_range (get_or l (first + k) (pos 0)) ≡ true
  unfolding run_in_range
  run_small h k a = below_at (λ j. in_range (get_or l (first + j) (pos 0))) count k (and_right (leb (first + count) (length l)) (all_below count (λ j. in_range (get_or l (first + j) (pos 0)))) h) a

-- four numbers more
pub four-more : (l : List ℤ) (first k : ℕ) → all_below k (λ j. in_range (get_or l (first + j) (pos 0))) ≡ true
    → (in_range (get_or l (first + k) (pos 0)) && in_range (get_or l (first + k + 1) (pos 0)) && in_range (get_or l (first + k + 2) (pos 0)) && in_range (get_or l (first + k + 3) (pos 0))) ≡ true
    → all_below (k + 4) (λ j. in_range (get_or l (first + j) (pos 0))) ≡ true
four-more l first k h four =
    let f : ℕ → Bool = λ j. in_range (get_or l (first + j) (pos 0)) in
    let at : ℕ → Bool = λ j. in_range (get_or l (first + k + j) (pos 0)) in
    let a = in_range (get_or l (first + k) (pos 0)) in
    let three = and_left (a && at 1 && at 2) (at 3) four in
    let two = and_left (a && at 1) (at 2) three in
    let e : k + 4 ≡ k + 1 + 1 + 1 + 1 = omega arith in
    let e1 : first + k + 1 ≡ first + (k + 1) = omega arith in
    let e2 : first + k + 2 ≡ first + (k + 1 + 1) = omega arith in
    let e3 : first + k + 3 ≡ first + (k + 1 + 1 + 1) = omega arith in
    rw e
    (below_more f (k + 1 + 1 + 1)
    (below_more f (k + 1 + 1)
    (below_more f (k + 1) (below_more f k h (and_left a (at 1) two)) (rw e1 at (and_right a (at 1) two)))
    (rw e2 at (and_right (a && at 1) (at 2) three)))
    (rw e3 at (and_right (a && at 1 && at 2) (at 3) four)))
