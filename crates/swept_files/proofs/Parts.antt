-- Tables that hold a front part of what they held, and their rest 0; runs of numbers that are the same. Over the element type.
use Prim.Native.Nat.{ℕ, ◌+◌, ◌*◌, ◌≤◌, ◌<◌}
use mathlib.Core.Path.{◌≡◌, sym, ap, ap₂, ◌∙◌}
use mathlib.Core.List.{List}
use native.Mathlib.Nat.{mul-suc, mul-le-mul_left}
use native.Mathlib.Omega.{arith}
use lib.ListN.{length, get_or, take, drop, length-drop, take-append-drop}
use lib.Seq.{length-take-le, take_at, get_or-take, get_or-drop}
use Rattle.lists.specs.Lists.{filled}
use Rattle.tables.proofs.Filled.{length-filled, get_d-filled, take-drop-append}

-- row i of n rows of w numbers ends where they do, or before
pub row_within : (w i n : ℕ) → i < n → w * i + w ≤ w * n
row_within w i n h = let e = mul-suc w i in let k = mul-le-mul_left w h in omega arith

module _ {A : Type 0} where
  pub part_length : (l : List A) (at w : ℕ) → at + w ≤ length l → length (take w (drop at l)) ≡ w
  part_length l at w h = length-take-le w (drop at l) (let e = length-drop at l in omega arith)

  -- equal parts have equal numbers
  pub part-values : (l m : List A) (a b w j : ℕ) (z : A) → take w (drop a l) ≡ take w (drop b m) → j < w → get_or l (a + j) z ≡ get_or m (b + j) z
  part-values l m a b w j z e h =
      sym (get_or-drop a l j z) ∙ sym (get_or-take w (drop a l) j z h) ∙ ap (λ (x : List A). get_or x j z) e ∙ get_or-take w (drop b m) j z h ∙ get_or-drop b m j z

  -- a table of which the first k numbers stay and the rest is z
  abbrev pub front : A → ℕ → List A → List A
  front z k l = filled (length l) z (take k l)

  module _ (z : A) (k : ℕ) (l : List A) (lent : k ≤ length l) where
    front_long : length (take k l) ≡ k
    front_long = length-take-le k l lent

    pub front_length : length (front z k l) ≡ length l
    front_length = length-filled (length l) z (take k l) (let e = front_long in omega arith)

    pub front_at : (i : ℕ) → i < k → get_or (front z k l) i z ≡ get_or l i z
    front_at i h = get_d-filled (length l) z (take k l) i ∙ get_or-take k l i z h

    pub front-part : (a m : ℕ) → a + m ≤ k → take m (drop a (front z k l)) ≡ take m (drop a l)
    front-part a m h =
        let e = front_long in
        take-drop-append a m (take k l) _ (omega arith)
        ∙ sym (take-drop-append a m (take k l) (drop k l) (omega arith))
        ∙ ap (λ (x : List A). take m (drop a x)) (take-append-drop k l)

  -- to clear the rest again changes nothing
  pub front-filled : (n : ℕ) (z : A) (xs : List A) (k : ℕ) → length xs ≡ k → k ≤ n → front z k (filled n z xs) ≡ filled n z xs
  front-filled n z xs k e h =
      ap₂ (λ (m : ℕ) (x : List A). filled m z x) (length-filled n z xs (omega arith)) (take_at xs _ k e)

  pub front-again : (z : A) (k : ℕ) (l : List A) → k ≤ length l → front z k (front z k l) ≡ front z k l
  front-again z k l h = front-filled (length l) z (take k l) k (length-take-le k l h) h
