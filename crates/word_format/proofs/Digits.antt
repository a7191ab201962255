-- A whole number's last digit apart; as many digits as it has, from the back.
use Prim.Native.Nat.{ℕ, zero, suc, ◌+◌, ◌-◌, ◌/◌, ◌%◌, ◌^◌, ◌≤◌, ◌<◌}
use mathlib.Core.Path.{◌≡◌, refl, sym, ap, ◌∙◌}
use mathlib.Core.List.{List, [], ◌∷◌, ◌++◌}
use mathlib.Core.Bool.{true, false}
use mathlib.Core.Logic.{⊎_elim}
use native.Mathlib.Omega.{arith}
use borrow.Author.Tests.{ltb-true, lt-ltb, le-ltb}
use lib.Dec.{ltb}
use lib.ListN.{length, set, length-append, length-set}
use lib.Seq.{sets}
use Rattle.lists.proofs.Tests.{test}
use Rattle.references.specs.Written.{short, full, written_whole}
use Rattle.references.proofs.Numerals.{full-length, smaller}
use Rattle.lists.proofs.Laws.{sets-append}
use Rattle.word_format.proofs.Stores.{sets_behind}

-- room for one digit more than it needs changes nothing
short-more : (k n : ℕ) → n < 10 ^ suc k → short (suc k) n ≡ short (suc (suc k)) n
short-more zero n h = let l : n < 10 = omega arith in rw (lt-ltb n 10 l) refl
short-more (suc k) n h =
    ⊎_elim
    (λ (t : ltb n 10 ≡ true). rw t refl)
    (λ (t : ltb n 10 ≡ false). rw t (ap (λ (s : List ℕ). s ++ (n % 10 + 48) ∷ []) (short-more k (n / 10) (smaller (suc k) n h))))
    (test (ltb n 10))

short-full : (k n : ℕ) → n < 10 ^ suc k → short (suc k) n ≡ full (length (short (suc k) n)) n
short-full zero n h =
    let l : n < 10 = omega arith in
    let e : n ≡ n % 10 = omega arith in
    rw (lt-ltb n 10 l) (ap (λ (d : ℕ). (d + 48) ∷ []) e)
short-full (suc k) n h =
    ⊎_elim
    (λ (t : ltb n 10 ≡ true).
    let l = ltb-true n 10 t in
    let e : n ≡ n % 10 = omega arith in
    rw t (ap (λ (d : ℕ). (d + 48) ∷ []) e))
    (λ (t : ltb n 10 ≡ false).
    let s : List ℕ = short (suc k) (n / 10) in
    let e : length (s ++ (n % 10 + 48) ∷ []) ≡ suc (length s) = length-append s ((n % 10 + 48) ∷ []) ∙ (omega arith) in
    rw t (ap (λ (r : List ℕ). r ++ (n % 10 + 48) ∷ []) (short-full k (n / 10) (smaller (suc k) n h)) ∙ ap (λ (j : ℕ). full j n) (sym e)))
    (test (ltb n 10))

pub whole-full : (n : ℕ) → n < 2 ^ 32 → full (length (written_whole n)) n ≡ written_whole n
unfolding written_whole
whole-full n h = sym (short-full 9 n (omega arith))

pub whole-one : (n : ℕ) → n < 10 → length (written_whole n) ≡ 1
unfolding written_whole
whole-one n h = rw (lt-ltb n 10 h) refl

pub whole-more : (n : ℕ) → 10 ≤ n → n < 2 ^ 32 → length (written_whole n) ≡ length (written_whole (n / 10)) + 1
unfolding written_whole
whole-more n l h =
    let e = short-more 8 (n / 10) (omega arith) in
    rw (le-ltb n 10 l) (length-append (short 9 (n / 10)) ((n % 10 + 48) ∷ []) ∙ ap (λ (s : List ℕ). length s + 1) e)

-- what is left of the digits comes to what all of them come to
pub record Digits (o : List ℕ) (at count n : ℕ) (l : List ℕ) (left m : ℕ) : Type 0 where
  pub rest : sets l at (full left m) ≡ sets o at (full count n)
  pub within : left ≤ count
  pub size : length l ≡ length o

last : (l : List ℕ) (at j m : ℕ) → sets (set l (at + j) (m % 10 + 48)) at (full j (m / 10)) ≡ sets l at (full (suc j) m)
last l at j m =
    let q : List ℕ = full j (m / 10) in
    let z : length q ≡ j = full-length j (m / 10) in
    sets_behind l at q (at + j) (m % 10 + 48) (omega arith)
    ∙ ap (λ (k : ℕ). set (sets l at q) (at + k) (m % 10 + 48)) (sym z)
    ∙ sym (sets-append l at q ((m % 10 + 48) ∷ []))

module _ (o : List ℕ) (at count n : ℕ) (l : List ℕ) (left m : ℕ) (c : Digits o at count n l left m) where
  pub next-digit : 0 < left → (d : ℕ) → d ≡ m % 10 + 48 → Digits o at count n (set l (at + (left - 1)) d) (left - 1) (m / 10)
  next-digit h d e =
      let j : ℕ = left - 1 in
      let s : suc j ≡ left = omega arith in
      let f : sets l at (full (suc j) m) ≡ sets l at (full left m) = ap (λ (k : ℕ). sets l at (full k m)) s in
      record {
        rest = ap (λ (x : ℕ). sets (set l (at + j) x) at (full j (m / 10))) e ∙ last l at j m ∙ f ∙ c.rest;
        within = omega (arith, c.within);
        size = length-set l (at + j) d ∙ c.size;
      }

  pub all_digits : left ≤ 0 → l ≡ sets o at (full count n)
  all_digits h =
      let z : left ≡ 0 = omega arith in
      rw z at c.rest
