-- The code's way to the rounded value: seven decimals decide, since ten-millionths rounded down round to the same millionth.
use Prim.Native.Nat.{ℕ, ◌+◌, ◌-◌, ◌*◌, ◌/◌, ◌%◌, ◌^◌, ◌≤◌, ◌<◌}
use mathlib.Core.Path.{◌≡◌, refl, sym, ap, ◌∙◌}
use mathlib.Core.List.{List}
use mathlib.Core.Bool.{Bool, true, false}
use mathlib.Core.Logic.{⊎_elim}
use lib.ListN.{length, take, drop, take-append-drop, length-drop}
use lib.Seq.{take_all}
use lib.Dec.{leb}
use lib.Pow.{pow-add}
use borrow.Author.Tests.{leb-true, leb-false, lt-leb}
use native.Mathlib.Omega.{arith}
use native.Mathlib.Nat.{mul-le-mul_right, mul-le-mul_left, mul_assoc, mul_comm, add-mul, mul-one, div-add-mod', mod-lt, div-eq_of_lt-le, div-eq_of_eq-mul_left, mul-div-mul_left}
use Rattle.lists.proofs.Tests.{test}
use Rattle.digits.specs.Digits.{digits, nat_of}
use Rattle.decimals.specs.Number.{nearest, limited}
use Rattle.decimals.specs.Straight.{settle_of}
use Rattle.digits.specs.Straight.{cap}
use Rattle.digits.specs.Said.{wrong}
use Rattle.digits.proofs.Rows.{ten-pos, nat_of-append, nat_of-div, nat_of-ge, digits-drop}

-- ten-millionths, rounded down, from the first seven digits after the point
module _ (a : ℕ) (f : List ℕ) (h : digits f ≡ true) where
  few : length f ≤ 7 → 10000000 * nat_of a f / 10 ^ length f ≡ nat_of a (take 7 f) * 10 ^ (7 - length f)
  few k =
      let x : ℕ = 10 ^ (7 - length f) in
      let d : ℕ = 10 ^ length f in
      let n : ℕ = nat_of a f in
      let s : 7 ≡ 7 - length f + length f = omega arith in
      let e : 10000000 ≡ x * d = ap (λ (n : ℕ). 10 ^ n) s ∙ pow-add 10 (7 - length f) (length f) in
      rw (take_all 7 f)
      (div-eq_of_eq-mul_left (ten-pos (length f))
      (ap (λ (z : ℕ). z * n) e ∙ mul_comm (x * d) n ∙ sym (mul_assoc n x d)))

  many : 7 < length f → 10000000 * nat_of a f / 10 ^ length f ≡ nat_of a (take 7 f) * 10 ^ (7 - length f)
  many k =
      let g : List ℕ = drop 7 f in
      let s : length f ≡ 7 + length g = omega (arith, length-drop 7 f) in
      let z : 7 - length f ≡ 0 = omega arith in
      let e : 10 ^ length f ≡ 10000000 * 10 ^ length g = ap (λ (n : ℕ). 10 ^ n) s ∙ pow-add 10 7 (length g) in
      let n : nat_of a f ≡ nat_of (nat_of a (take 7 f)) g =
      ap (nat_of a) (sym (take-append-drop 7 f)) ∙ nat_of-append a (take 7 f) g in
      rw (e, z, n, mul-div-mul_left {m = 10000000} (nat_of (nat_of a (take 7 f)) g) (10 ^ length g) (ten-pos 7))
      (nat_of-div (nat_of a (take 7 f)) g (digits-drop 7 f h) ∙ sym (mul-one (nat_of a (take 7 f))))

  pub ten-millionths : 10000000 * nat_of a f / 10 ^ length f ≡ nat_of a (take 7 f) * 10 ^ (7 - length f)
  ten-millionths =
      ⊎_elim (λ t. few (leb-true (length f) 7 t)) (λ t. many (leb-false (length f) 7 t)) (test (leb (length f) 7))

pub rounding : (n d : ℕ) → 0 < d → nearest n d ≡ (10000000 * n / d + 5) / 10
unfolding nearest
rounding n d h =
    let q : ℕ = 10000000 * n / d in
    let r : ℕ = 10000000 * n % d in
    let m : ℕ = (q + 5) / 10 in
    let s : ℕ = (q + 5) % 10 in
    let e₁ : q * d + r ≡ 10000000 * n = div-add-mod' (10000000 * n) d in
    let l₁ : r < d = mod-lt (10000000 * n) h in
    let e₂ : (q + 5) * d ≡ (10 * m + s) * d = ap (λ (k : ℕ). k * d) (omega arith) in
    let e₃ : (q + 5) * d ≡ q * d + 5 * d = add-mul q 5 d in
    let e₄ : (10 * m + s) * d ≡ 10 * (m * d) + s * d = add-mul (10 * m) s d ∙ ap (λ (k : ℕ). k + s * d) (mul_assoc 10 m d) in
    let l₂ : s * d ≤ 9 * d = mul-le-mul_right d (omega arith) in
    let e₅ : m * (2 * d) ≡ 2 * (m * d) = sym (mul_assoc m 2 d) ∙ ap (λ (k : ℕ). k * d) (mul_comm m 2) ∙ mul_assoc 2 m d in
    let e₆ : (m + 1) * (2 * d) ≡ m * (2 * d) + 1 * (2 * d) = add-mul m 1 (2 * d) in
    div-eq_of_lt-le (2 * d) (omega arith) (omega arith)

-- a whole part past the cap is out of range either way
out : (minus : Bool) (t : ℕ) → 20000000005 ≤ t → settle_of minus t ≡ wrong 7
out minus t h = let l : 2000000000 < (t + 5) / 10 = omega arith in rw (lt-leb ((t + 5) / 10) 2000000000 l) refl

-- so is what is past it
pub cap-settles : (minus : Bool) (t : ℕ) → settle_of minus (cap t) ≡ settle_of minus t
cap-settles minus t =
    ⊎_elim
    (λ (q : leb t 20000000005 ≡ true). let l = leb-true t 20000000005 q in ap (settle_of minus) (let e : cap t ≡ t = omega arith in e))
    (λ (q : leb t 20000000005 ≡ false).
    let l = leb-false t 20000000005 q in
    out minus (cap t) (omega arith) ∙ sym (out minus t (omega arith)))
    (test (leb t 20000000005))

pub grows : (x k : ℕ) → x ≤ x * 10 ^ k
grows x k = let h : x * 1 ≤ x * 10 ^ k = mul-le-mul_left x (ten-pos k) in omega arith

pub settles : (minus : Bool) (a : ℕ) (f : List ℕ) → digits f ≡ true
    → settle_of minus (nat_of (cap a) (take 7 f) * 10 ^ (7 - length f)) ≡ limited minus (nearest (nat_of a f) (10 ^ length f))
settles minus a f h =
    let q : limited minus (nearest (nat_of a f) (10 ^ length f)) ≡ settle_of minus (nat_of a (take 7 f) * 10 ^ (7 - length f)) =
    ap (limited minus) (rounding (nat_of a f) (10 ^ length f) (ten-pos (length f)))
    ∙ ap (settle_of minus) (ten-millionths a f h) in
    ⊎_elim
    (λ (t : leb a 20000000005 ≡ true).
    let l = leb-true a 20000000005 t in
    let e : cap a ≡ a = omega arith in
    ap (λ (n : ℕ). settle_of minus (nat_of n (take 7 f) * 10 ^ (7 - length f))) e ∙ sym q)
    (λ (t : leb a 20000000005 ≡ false).
    let l = leb-false a 20000000005 t in
    let x = nat_of-ge (cap a) (take 7 f) in
    let y = nat_of-ge a (take 7 f) in
    let u = grows (nat_of (cap a) (take 7 f)) (7 - length f) in
    let v = grows (nat_of a (take 7 f)) (7 - length f) in
    out minus (nat_of (cap a) (take 7 f) * 10 ^ (7 - length f)) (omega arith)
    ∙ sym (q ∙ out minus (nat_of a (take 7 f) * 10 ^ (7 - length f)) (omega arith)))
    (test (leb a 20000000005))
