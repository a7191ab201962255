-- Rows of digits: by the list, a digit at a time.
use Prim.Native.Nat.{ℕ, zero, suc, ◌+◌, ◌-◌, ◌*◌, ◌/◌, ◌^◌, ◌≤◌, ◌<◌}
use mathlib.Core.Path.{◌≡◌, refl, sym, ap, ◌∙◌}
use mathlib.Core.List.{List, [], ◌∷◌, ◌++◌}
use mathlib.Core.Bool.{true, false}
use mathlib.Core.Logic.{⊎_elim}
use lib.ListN.{length, take, drop, length-take, length-append}
use lib.Dec.{leb}
use borrow.Author.Tests.{leb-true, lt-leb, le-leb}
use native.Mathlib.Omega.{arith}
use native.Mathlib.Nat.{mul-le-mul_right, mul-le-mul_left, mul_assoc, mul_comm, add-mul, mul-one, pow-suc, pow-zero, pow-le-pow_right, mul-lt-mul_of_pos_right, div-eq_of_lt-le}
use lib.Pow.{pow-add}
use Rattle.lists.proofs.Tests.{and_left, and_right, and_both, test}
use Rattle.digits.specs.Digits.{is_digit, digits, nat_of}
use Rattle.digits.specs.Straight.{cap, run}

pub digit-le : (b : ℕ) → is_digit b ≡ true → b - 48 ≤ 9
digit-le b h = omega (arith, leb-true b 57 (and_right (leb 48 b) (leb b 57) h))

pub low_digit : (b : ℕ) → b < 48 → is_digit b ≡ false
low_digit b h = rw (lt-leb 48 b h)

pub high_digit : (b : ℕ) → 57 < b → is_digit b ≡ false
high_digit b h = let k : 48 ≤ b = omega arith in rw (le-leb 48 b k, lt-leb b 57 h)

pub mid-digit : (b : ℕ) → 48 ≤ b → b ≤ 57 → is_digit b ≡ true
mid-digit b h k = rw (le-leb 48 b h, le-leb b 57 k)

pub cap-step : (a d : ℕ) → cap (cap a * 10 + d) ≡ cap (a * 10 + d)
cap-step a d = omega arith

pub cap-nat_of : (a : ℕ) (t : List ℕ) → cap (nat_of (cap a) t) ≡ cap (nat_of a t)
cap-nat_of a [] = omega arith
cap-nat_of a (b ∷ bs) =
    sym (cap-nat_of (cap a * 10 + (b - 48)) bs)
    ∙ ap (λ (n : ℕ). cap (nat_of n bs)) (cap-step a (b - 48))
    ∙ cap-nat_of (a * 10 + (b - 48)) bs

pub nat_of-append : (a : ℕ) (s t : List ℕ) → nat_of a (s ++ t) ≡ nat_of (nat_of a s) t
nat_of-append a [] t = refl
nat_of-append a (b ∷ bs) t = nat_of-append (a * 10 + (b - 48)) bs t

pub ten-pos : (k : ℕ) → 0 < 10 ^ k
ten-pos zero = rw pow-zero (omega arith)
ten-pos (suc k) = let h = ten-pos k in rw pow-suc (omega arith)

shift : (a p : ℕ) → a * (p * 10) ≡ 10 * (a * p)
shift a p = sym (mul_assoc a p 10) ∙ mul_comm (a * p) 10

spread : (a d p : ℕ) → (a * 10 + d) * p ≡ 10 * (a * p) + d * p
spread a d p =
    add-mul (a * 10) d p ∙ ap (λ (n : ℕ). n + d * p) (ap (λ (n : ℕ). n * p) (mul_comm a 10) ∙ mul_assoc 10 a p)

pub nat_of-low : (a : ℕ) (t : List ℕ) → a * 10 ^ length t ≤ nat_of a t
nat_of-low a [] = simp (pow-zero, mul-one) (omega arith)
nat_of-low a (b ∷ bs) =
    let p : ℕ = 10 ^ length bs in
    rw (pow-suc, shift) (omega (arith, nat_of-low (a * 10 + (b - 48)) bs, spread a (b - 48) p))

pub nat_of-high : (a : ℕ) (t : List ℕ) → digits t ≡ true → nat_of a t < (a + 1) * 10 ^ length t
nat_of-high a [] h = simp (pow-zero, mul-one) (omega arith)
nat_of-high a (b ∷ bs) h =
    let p : ℕ = 10 ^ length bs in
    let d : ℕ = b - 48 in
    let k : d * p ≤ 9 * p = mul-le-mul_right p (digit-le b (and_left (is_digit b) (digits bs) h)) in
    rw (pow-suc, shift)
    (omega (arith, nat_of-high (a * 10 + d) bs (and_right (is_digit b) (digits bs) h), spread a d p, add-mul (a * 10 + d) 1 p, add-mul a 1 p))

-- the digits after the first add less than one to the quotient
pub nat_of-div : (a : ℕ) (t : List ℕ) → digits t ≡ true → nat_of a t / 10 ^ length t ≡ a
nat_of-div a t h = div-eq_of_lt-le (10 ^ length t) (nat_of-low a t) (nat_of-high a t h)

pub digits-drop : (k : ℕ) (t : List ℕ) → digits t ≡ true → digits (drop k t) ≡ true
digits-drop zero t h = h
digits-drop (suc k) [] h = refl
digits-drop (suc k) (b ∷ bs) h = digits-drop k bs (and_right (is_digit b) (digits bs) h)

-- the digits at the front
pub run-digits : (l : List ℕ) → digits (run l) ≡ true
run-digits [] = refl
run-digits (b ∷ bs) =
    ⊎_elim (λ t. rw t (rw t (run-digits bs))) (λ t. rw t refl) (test (is_digit b))

pub run-all : (l : List ℕ) → digits l ≡ true → run l ≡ l
run-all [] h = refl
run-all (b ∷ bs) h = rw (and_left (is_digit b) (digits bs) h, run-all bs (and_right (is_digit b) (digits bs) h))

pub run-split : (l : List ℕ) → run l ++ drop (length (run l)) l ≡ l
run-split [] = refl
run-split (b ∷ bs) =
    ⊎_elim (λ t. rw t (ap (λ (r : List ℕ). b ∷ r) (run-split bs))) (λ t. rw t refl) (test (is_digit b))

-- more digits make no less
pub nat_of-ge : (a : ℕ) (t : List ℕ) → a ≤ nat_of a t
nat_of-ge a [] = omega arith
nat_of-ge a (b ∷ bs) = let h = nat_of-ge (a * 10 + (b - 48)) bs in omega arith

digits-take : (k : ℕ) (t : List ℕ) → digits t ≡ true → digits (take k t) ≡ true
digits-take zero t h = refl
digits-take (suc k) [] h = refl
digits-take (suc k) (b ∷ bs) h = and_both (and_left (is_digit b) (digits bs) h) (digits-take k bs (and_right (is_digit b) (digits bs) h))

pub run_short : (l : List ℕ) → length (run l) ≤ length l
run_short l = let x = ap length (run-split l) in let y = length-append (run l) (drop (length (run l)) l) in omega arith

-- at most k digits after those of a, the last j of them zeros
pub nat_of-padded : (k j a : ℕ) (t : List ℕ) → digits t ≡ true → length t + j ≤ k → nat_of a t * 10 ^ j < (a + 1) * 10 ^ k
nat_of-padded k j a t h n =
    let p : nat_of a t * 10 ^ j < (a + 1) * 10 ^ length t * 10 ^ j = mul-lt-mul_of_pos_right (nat_of-high a t h) (ten-pos j) in
    let e : (a + 1) * 10 ^ length t * 10 ^ j ≡ (a + 1) * 10 ^ (length t + j) = mul_assoc (a + 1) (10 ^ length t) (10 ^ j) ∙ ap (λ (x : ℕ). (a + 1) * x) (sym (pow-add 10 (length t) j)) in
    let b : 10 ^ (length t + j) ≤ 10 ^ k = pow-le-pow_right {n = 10} (omega arith) n in
    let c : (a + 1) * 10 ^ (length t + j) ≤ (a + 1) * 10 ^ k = mul-le-mul_left (a + 1) b in
    omega arith

pub nat_of-below : (k a : ℕ) (t : List ℕ) → digits t ≡ true → length t ≤ k → nat_of a t < (a + 1) * 10 ^ k
nat_of-below k a t h n = let p = nat_of-padded k 0 a t h (omega arith) in simp (pow-zero, mul-one) at p

-- a few digits after a small number are far from 64 bits
pub few-small : (most w : ℕ) (l : List ℕ) → (w + 1) * 10 ^ most ≤ 2 ^ 60 → nat_of w (take most (run l)) < 2 ^ 60
few-small most w l h =
    let n : length (take most (run l)) ≤ most = (let z = length-take most (run l) in omega arith) in
    omega (arith, nat_of-below most w (take most (run l)) (digits-take most (run l) (run-digits l)) n)

-- nor are they where those that lack are zeros
pub scaled_small : (w : ℕ) (l : List ℕ) → w ≤ 20000000005 → nat_of w (take 7 (run l)) * 10 ^ (7 - length (take 7 (run l))) < 2 ^ 60
scaled_small w l h =
    let t : List ℕ = take 7 (run l) in
    let k : length t + (7 - length t) ≤ 7 = (let z = length-take 7 (run l) in omega arith) in
    omega (arith, nat_of-padded 7 (7 - length t) w t (digits-take 7 (run l) (run-digits l)) k)

-- the first k digits and those after them are all
pub run-rest : (k : ℕ) (l : List ℕ) → length (run l) ≡ length (take k (run l)) + length (run (drop (length (take k (run l))) l))
run-rest zero l = omega arith
run-rest (suc k) [] = refl
run-rest (suc k) (b ∷ bs) =
    ⊎_elim
    (λ (t : is_digit b ≡ true). rw t (let h = run-rest k bs in omega arith))
    (λ (t : is_digit b ≡ false). rw t (rw t refl))
    (test (is_digit b))
