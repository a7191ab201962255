-- Laws of `all` and `same`, and of runs of stores: by the lists.
use Prim.Native.Nat.{ℕ, suc, ◌+◌}
use mathlib.Core.Path.{◌≡◌, refl, sym, ap, ap₂, ◌∙◌}
use mathlib.Core.List.{List, [], ◌∷◌, ◌++◌}
use mathlib.Core.Bool.{Bool, true}
use lib.Dec.{eqb}
use lib.ListN.{length, set}
use lib.Seq.{sets}
use native.Mathlib.Nat.{add-zero}
use native.Mathlib.Omega.{arith}
use borrow.Author.Tests.{eqb-true, eq-eqb}
use Rattle.lists.specs.Lists.{all, same}
use Rattle.lists.proofs.Tests.{and_left, and_right, and_both, never}

pub all_append : {A : Type 0} (f : A → Bool) (s t : List A) → all f s ≡ true → all f t ≡ true → all f (s ++ t) ≡ true
all_append f [] t h k = k
all_append f (a ∷ xs) t h k = and_both (and_left (f a) (all f xs) h) (all_append f xs t (and_right (f a) (all f xs) h) k)

pub all-imp : {A : Type 0} (f g : A → Bool) → ((a : A) → f a ≡ true → g a ≡ true) → (s : List A) → all f s ≡ true → all g s ≡ true
all-imp f g i [] h = refl
all-imp f g i (a ∷ xs) h = and_both (i a (and_left (f a) (all f xs) h)) (all-imp f g i xs (and_right (f a) (all f xs) h))

pub same-eq : (a b : List ℕ) → same a b ≡ true → a ≡ b
same-eq [] [] h = refl
same-eq [] (c ∷ cs) h = never h
same-eq (b ∷ bs) [] h = never h
same-eq (b ∷ bs) (c ∷ cs) h =
    ap₂ (λ (x : ℕ) (y : List ℕ). x ∷ y) (eqb-true b c (and_left (eqb b c) (same bs cs) h)) (same-eq bs cs (and_right (eqb b c) (same bs cs) h))

pub same_refl : (a : List ℕ) → same a a ≡ true
same_refl [] = refl
same_refl (b ∷ bs) = and_both (eq-eqb b b refl) (same_refl bs)

-- one run of stores after the other is one run
pub sets-append : {A : Type 0} (l : List A) (i : ℕ) (xs ys : List A) → sets l i (xs ++ ys) ≡ sets (sets l i xs) (i + length xs) ys
sets-append l i [] ys = ap (λ (k : ℕ). sets l k ys) (sym (add-zero i))
sets-append l i (x ∷ xs) ys =
    let e : suc i + length xs ≡ i + suc (length xs) = omega arith in
    sets-append (set l i x) (suc i) xs ys ∙ ap (λ (k : ℕ). sets (sets (set l i x) (suc i) xs) k ys) e
