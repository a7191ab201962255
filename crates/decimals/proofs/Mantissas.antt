-- Digits and a point are no exponent: by the list, a byte at a time.
use Prim.Native.Nat.{ℕ, ◌+◌}
use mathlib.Core.Path.{◌≡◌, refl, sym, ap, ◌∙◌}
use mathlib.Core.List.{List, [], ◌∷◌, ◌++◌, append-nil}
use mathlib.Core.Bool.{true, false, ◌&&◌}
use mathlib.Core.Logic.{⊎_elim}
use lib.ListN.{length}
use lib.Dec.{leb, eqb}
use borrow.Author.Tests.{leb-true, ne_eqb, eqb-true}
use native.Mathlib.Omega.{arith}
use Rattle.lists.proofs.Tests.{and_left, and_right, test}
use Rattle.text.specs.Bytes.{is_word}
use Rattle.digits.specs.Digits.{is_digit, digits}
use Rattle.decimals.specs.Number.{is_e, mantissa, exponent, is_exponent, before, after, decimal}
use Rattle.decimals.specs.Straight.{has_exponent}

digit-no-e : (b : ℕ) → is_digit b ≡ true → is_e b ≡ false
digit-no-e b h =
    let l = leb-true b 57 (and_right (leb 48 b) (leb b 57) h) in
    rw (ne_eqb b 101 (omega arith), ne_eqb b 69 (omega arith)) refl

pub mantissa-digits : (d t : List ℕ) → digits d ≡ true → mantissa (d ++ t) ≡ d ++ mantissa t
mantissa-digits [] t h = refl
mantissa-digits (b ∷ bs) t h =
    rw (digit-no-e b (and_left (is_digit b) (digits bs) h))
    (ap (λ (r : List ℕ). b ∷ r) (mantissa-digits bs t (and_right (is_digit b) (digits bs) h)))

pub exponent-digits : (d t : List ℕ) → digits d ≡ true → exponent (d ++ t) ≡ exponent t
exponent-digits [] t h = refl
exponent-digits (b ∷ bs) t h =
    rw (digit-no-e b (and_left (is_digit b) (digits bs) h))
    (exponent-digits bs t (and_right (is_digit b) (digits bs) h))

digits-plain : (d : List ℕ) → digits d ≡ true → (mantissa d ≡ d) × (exponent d ≡ [])
digits-plain d h = (
  sym (ap mantissa (append-nil d)) ∙ mantissa-digits d [] h ∙ append-nil d,
  sym (ap exponent (append-nil d)) ∙ exponent-digits d [] h,
)

plain : (u : List ℕ) → digits (before u) ≡ true → digits (after u) ≡ true → (mantissa u ≡ u) × (exponent u ≡ [])
plain [] h k = (refl, refl)
plain (b ∷ bs) h k =
    ⊎_elim
    (λ (t : eqb b 46 ≡ true).
    let n : is_e b ≡ false = ap is_e (eqb-true b 46 t) in
    let l : digits bs ≡ true = rw t at k in
    let m = digits-plain bs l in
    (rw n (ap (λ (r : List ℕ). b ∷ r) m.0), rw n m.1))
    (λ (t : eqb b 46 ≡ false).
    let g : (is_digit b && digits (before bs)) ≡ true = rw t at h in
    let l : digits (after bs) ≡ true = rw t at k in
    let n = digit-no-e b (and_left (is_digit b) (digits (before bs)) g) in
    let m = plain bs (and_right (is_digit b) (digits (before bs)) g) l in
    (rw n (ap (λ (r : List ℕ). b ∷ r) m.0), rw n m.1))
    (test (eqb b 46))

-- digits with at most one point have no exponent
pub decimal-plain : (u : List ℕ) → decimal u ≡ true → (mantissa u ≡ u) × (exponent u ≡ [])
unfolding decimal
decimal-plain u h =
    let k = and_left (digits (before u) && digits (after u)) (leb 1 (length (before u) + length (after u))) h in
    plain u (and_left (digits (before u)) (digits (after u)) k) (and_right (digits (before u)) (digits (after u)) k)

no-exponent : (u : List ℕ) → exponent u ≡ [] → mantissa u ≡ u
no-exponent [] h = refl
no-exponent (b ∷ bs) h =
    ⊎_elim
    (λ (t : is_e b ≡ true). let k : b ∷ bs ≡ [] = rw t at h in absurd (let z = ap length k in omega arith))
    (λ (t : is_e b ≡ false). let k : exponent bs ≡ [] = rw t at h in rw t (ap (λ (r : List ℕ). b ∷ r) (no-exponent bs k)))
    (test (is_e b))

-- what is no decimal is a number only with an exponent
pub must-have : (u : List ℕ) → decimal u ≡ false → (decimal (mantissa u) && is_exponent (exponent u)) ≡ (decimal (mantissa u) && has_exponent (exponent u))
must-have u h = go (exponent u) refl
  where
    go : (x : List ℕ) → exponent u ≡ x → (decimal (mantissa u) && is_exponent (exponent u)) ≡ (decimal (mantissa u) && has_exponent (exponent u))
    go [] e = rw (ap decimal (no-exponent u e) ∙ h) refl
    go (c ∷ x) e = rw e refl

-- e and E are bytes of words, and no digits
pub e-word : (c : ℕ) → is_e c ≡ true → (is_word c ≡ true) × (eqb c 10 ≡ false)
e-word c h =
    ⊎_elim
    (λ (t : eqb c 101 ≡ true). let e = eqb-true c 101 t in (ap is_word e, ap (λ (n : ℕ). eqb n 10) e))
    (λ (t : eqb c 101 ≡ false). let e = eqb-true c 69 (let y : eqb c 69 ≡ true = rw t at h in y) in (ap is_word e, ap (λ (n : ℕ). eqb n 10) e))
    (test (eqb c 101))

pub e-no-digit : (c : ℕ) → is_e c ≡ true → is_digit c ≡ false
e-no-digit c h =
    ⊎_elim
    (λ (t : eqb c 101 ≡ true). ap is_digit (eqb-true c 101 t))
    (λ (t : eqb c 101 ≡ false). ap is_digit (eqb-true c 69 (let y : eqb c 69 ≡ true = rw t at h in y)))
    (test (eqb c 101))
