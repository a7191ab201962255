-- Runs of stores: a store behind a run may come before it, and two runs that are one.
use Prim.Native.Nat.{ℕ, suc, ◌+◌, ◌≤◌}
use mathlib.Core.Path.{◌≡◌, refl, sym, ap, ap₂, ◌∙◌}
use mathlib.Core.List.{List, [], ◌∷◌, ◌++◌}
use native.Mathlib.Omega.{arith}
use lib.ListN.{length, set, length-append}
use lib.Seq.{sets, set_comm, length-sets}
use Rattle.lists.proofs.Laws.{sets-append}

pub sets_behind : {A : Type 0} (l : List A) (i : ℕ) (xs : List A) (j : ℕ) (a : A) → i + length xs ≤ j → sets (set l j a) i xs ≡ set (sets l i xs) j a
sets_behind l i [] j a h = refl
sets_behind {A = A} l i (x ∷ xs) j a h =
    let n : j ≡ i → ⊥ = λ (e : j ≡ i). omega arith in
    ap (λ (t : List A). sets t (suc i) xs) (set_comm l j i a x n) ∙ sets_behind (set l i x) (suc i) xs j a (omega arith)

-- xs at i of l, which gives m, and the place after it
abbrev pub Stored : List ℕ → ℕ → List ℕ → ℕ → List ℕ → Type 0
Stored l i xs r m = (r ≡ i + length xs) × (m ≡ sets l i xs)

module _ (l : List ℕ) (i : ℕ) (w xs ys : List ℕ) (e : w ≡ xs ++ ys) where
  pub both-length : length w ≡ length xs + length ys
  both-length = ap length e ∙ length-append xs ys

  pub first-room : i + length w ≤ length l → i + length xs ≤ length l
  first-room h = let k = both-length in omega arith

  pub rest-room : (p : ℕ) (m : List ℕ) → Stored l i xs p m → i + length w ≤ length l → p + length ys ≤ length m
  rest-room p m a h =
      let k = both-length in
      let s : length m ≡ length l = ap length a.1 ∙ length-sets l i xs in
      omega (arith, a.0)

  pub both_stored : (p : ℕ) (m : List ℕ) (q : ℕ) (n : List ℕ) → Stored l i xs p m → Stored m p ys q n → Stored l i w q n
  both_stored p m q n a b =
      let k = both-length in
      let s : sets m p ys ≡ sets (sets l i xs) (i + length xs) ys = ap₂ (λ (t : List ℕ) (j : ℕ). sets t j ys) a.1 a.0 in
      (omega (arith, a.0, b.0), b.1 ∙ s ∙ sym (sets-append l i xs ys) ∙ ap (sets l i) (sym e))
