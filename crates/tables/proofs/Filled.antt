-- A record stored at the end of what a table holds appends to it: `sets` at the seam of `filled`, over the element type.
use Prim.Native.Nat.{ℕ, zero, suc, ◌+◌, ◌-◌, ◌≤◌}
use mathlib.Core.Path.{◌≡◌, refl, sym, ap, ◌∙◌}
use mathlib.Core.List.{List, [], ◌∷◌, ◌++◌}
use native.Mathlib.Nat.{sub-zero}
use native.Mathlib.Omega.{arith}
use lib.ListN.{length, get_or, take, drop, replicate, length-append, length-replicate}
use lib.Seq.{sets, sets-eq, take_at, take-append-le, drop-append-add}
use Rattle.lists.specs.Lists.{filled}

module _ {A : Type 0} where
  pub replicate-filled : (n : ℕ) (z : A) → replicate n z ≡ filled n z []
  replicate-filled n z = ap (λ (k : ℕ). replicate k z) (sym (sub-zero n))

  pub length-filled : (n : ℕ) (z : A) (xs : List A) → length xs ≤ n → length (filled n z xs) ≡ n
  length-filled n z xs h = simp (length-append, length-replicate) (omega arith)

  drop-replicate : (k m : ℕ) (z : A) → drop k (replicate m z) ≡ replicate (m - k) z
  drop-replicate zero m z = ap (λ (n : ℕ). replicate n z) (let e : m ≡ m - 0 = omega arith in e)
  drop-replicate (suc k) zero z = ap (λ (n : ℕ). replicate n z) (let e : 0 ≡ 0 - suc k = omega arith in e)
  drop-replicate (suc k) (suc m) z = drop-replicate k m z ∙ ap (λ (n : ℕ). replicate n z) (let e : m - k ≡ suc m - suc k = omega arith in e)

  -- the law by which a stored record appends
  pub sets-filled : (n : ℕ) (z : A) (xs vs : List A) → length xs + length vs ≤ n → sets (filled n z xs) (length xs) vs ≡ filled n z (xs ++ vs)
  sets-filled n z xs vs h =
      let rest = replicate (n - length xs) z in
      let l : length (filled n z xs) ≡ n = length-filled n z xs (omega arith) in
      let k : length xs + length vs ≤ length (filled n z xs) = omega arith in
      sets-eq vs (filled n z xs) (length xs) k
      ∙ rw (take_at xs rest (length xs) refl, drop-append-add xs rest (length vs), drop-replicate (length vs) (n - length xs) z, length-append)
      (ap (λ (m : ℕ). xs ++ vs ++ replicate m z) (let e : n - length xs - length vs ≡ n - (length xs + length vs) = omega arith in e))

  get_d-zeros : (n i : ℕ) (z : A) → get_or (replicate n z) i z ≡ z
  get_d-zeros zero i z = refl
  get_d-zeros (suc n) zero z = refl
  get_d-zeros (suc n) (suc i) z = get_d-zeros n i z

  -- reading a table is reading what it holds, inside and past it
  get_d_after : (xs : List A) (m i : ℕ) (z : A) → get_or (xs ++ replicate m z) i z ≡ get_or xs i z
  get_d_after [] m i z = get_d-zeros m i z
  get_d_after (x ∷ xs) m zero z = refl
  get_d_after (x ∷ xs) m (suc i) z = get_d_after xs m i z

  pub get_d-filled : (n : ℕ) (z : A) (xs : List A) (i : ℕ) → get_or (filled n z xs) i z ≡ get_or xs i z
  get_d-filled n z xs i = get_d_after xs (n - length xs) i z

  -- a part that lies in what the table holds
  pub take-drop-append : (k m : ℕ) (xs ys : List A) → k + m ≤ length xs → take m (drop k (xs ++ ys)) ≡ take m (drop k xs)
  take-drop-append zero m xs ys h = take-append-le m xs ys (omega arith)
  take-drop-append (suc k) m [] ys h = absurd (omega arith)
  take-drop-append (suc k) m (x ∷ xs) ys h = take-drop-append k m xs ys (omega arith)
