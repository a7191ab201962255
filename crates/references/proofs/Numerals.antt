-- Rows of digits as they are written: by the number of digits, the last one apart.
use Prim.Native.Nat.{ℕ, zero, suc, ◌+◌, ◌-◌, ◌*◌, ◌/◌, ◌%◌, ◌^◌, ◌≤◌, ◌<◌}
use mathlib.Core.Path.{◌≡◌, refl, sym, ap, ◌∙◌}
use mathlib.Core.List.{List, [], ◌∷◌, ◌++◌}
use mathlib.Core.Bool.{true, false}
use mathlib.Core.Logic.{⊎_elim}
use lib.ListN.{length, length-append}
use lib.Dec.{ltb}
use borrow.Author.Tests.{ltb-true, lt-ltb}
use native.Mathlib.Omega.{arith}
use native.Mathlib.Nat.{pow-suc, mul_comm, mul_assoc}
use Rattle.lists.proofs.Tests.{and_left, and_right, test}
use Rattle.digits.specs.Digits.{is_digit, digits, nat_of}
use Rattle.references.specs.Written.{short, full}
use Rattle.digits.proofs.Rows.{mid-digit, nat_of-append}

pub digits_append : (s t : List ℕ) → digits s ≡ true → digits t ≡ true → digits (s ++ t) ≡ true
digits_append [] t h k = k
digits_append (b ∷ bs) t h k = rw (and_left (is_digit b) (digits bs) h) (digits_append bs t (and_right (is_digit b) (digits bs) h) k)

digit-is : (d : ℕ) → d < 10 → digits ((d + 48) ∷ []) ≡ true
digit-is d h = rw (mid-digit (d + 48) (omega arith) (omega arith)) refl

-- ---- k digits
pub full-digits : (k n : ℕ) → digits (full k n) ≡ true
full-digits zero n = refl
full-digits (suc k) n = digits_append (full k (n / 10)) ((n % 10 + 48) ∷ []) (full-digits k (n / 10)) (digit-is (n % 10) (omega arith))

pub full-length : (k n : ℕ) → length (full k n) ≡ k
full-length zero n = refl
full-length (suc k) n = let z = full-length k (n / 10) in let y = length-append (full k (n / 10)) ((n % 10 + 48) ∷ []) in omega arith

pub smaller : (k n : ℕ) → n < 10 ^ suc k → n / 10 < 10 ^ k
smaller k n h = let e = pow-suc 10 k in omega arith

pub full-value : (k a n : ℕ) → n < 10 ^ k → nat_of a (full k n) ≡ a * 10 ^ k + n
full-value zero a n h = omega arith
full-value (suc k) a n h =
    let e : nat_of a (full (suc k) n) ≡ nat_of a (full k (n / 10)) * 10 + (n % 10 + 48 - 48) = nat_of-append a (full k (n / 10)) ((n % 10 + 48) ∷ []) in
    let q = full-value k a (n / 10) (smaller k n h) in
    let x : a * 10 ^ suc k ≡ 10 * (a * 10 ^ k) = ap (λ (y : ℕ). a * y) (pow-suc 10 k) ∙ sym (mul_assoc a (10 ^ k) 10) ∙ mul_comm (a * 10 ^ k) 10 in
    omega arith

-- ---- up to k digits
pub short-digits : (k n : ℕ) → digits (short k n) ≡ true
short-digits zero n = refl
short-digits (suc k) n =
    ⊎_elim
    (λ (t : ltb n 10 ≡ true). rw t (digit-is n (ltb-true n 10 t)))
    (λ (t : ltb n 10 ≡ false). rw t (digits_append (short k (n / 10)) ((n % 10 + 48) ∷ []) (short-digits k (n / 10)) (digit-is (n % 10) (omega arith))))
    (test (ltb n 10))

pub short-length : (k n : ℕ) → length (short k n) ≤ k
short-length zero n = omega arith
short-length (suc k) n =
    ⊎_elim
    (λ (t : ltb n 10 ≡ true). rw t (omega arith))
    (λ (t : ltb n 10 ≡ false). rw t (let z = short-length k (n / 10) in let y = length-append (short k (n / 10)) ((n % 10 + 48) ∷ []) in omega arith))
    (test (ltb n 10))

pub short-value : (k n : ℕ) → n < 10 ^ k → nat_of 0 (short k n) ≡ n
short-value zero n h = omega arith
short-value (suc k) n h =
    ⊎_elim
    (λ (t : ltb n 10 ≡ true). rw t (omega arith))
    (λ (t : ltb n 10 ≡ false).
    rw t (nat_of-append 0 (short k (n / 10)) ((n % 10 + 48) ∷ []) ∙ (let q = short-value k (n / 10) (smaller k n h) in omega arith)))
    (test (ltb n 10))

-- a number below 10 ^ (k + 1) has no more than k + 1 digits, and never none
pub short-few : (m k n : ℕ) → n < 10 ^ suc k → length (short m n) ≤ suc k
short-few zero k n h = omega arith
short-few (suc m) zero n h = let l : n < 10 = omega arith in rw (lt-ltb n 10 l) (omega arith)
short-few (suc m) (suc k) n h =
    ⊎_elim
    (λ (t : ltb n 10 ≡ true). rw t (omega arith))
    (λ (t : ltb n 10 ≡ false).
    rw t
    (let y = length-append (short m (n / 10)) ((n % 10 + 48) ∷ []) in
    let z = short-few m k (n / 10) (smaller (suc k) n h) in
    omega arith))
    (test (ltb n 10))

pub short-some : (k n : ℕ) → 1 ≤ length (short (suc k) n)
short-some k n =
    ⊎_elim
    (λ (t : ltb n 10 ≡ true). rw t (omega arith))
    (λ (t : ltb n 10 ≡ false). rw t (let z = length-append (short k (n / 10)) ((n % 10 + 48) ∷ []) in omega arith))
    (test (ltb n 10))
