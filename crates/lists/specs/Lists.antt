-- Must be believed: a promise reaches every definition of this file.
-- Words on lists that the rules of every crate use.
use Rattle.std.specs.Prelude.{ℕ, ◌-◌, List, [], ◌∷◌, ◌++◌, Bool, true, false, ◌&&◌, length, replicate, eqb}

-- every element passes the test
abbrev pub all : {A : Type 0} → (A → Bool) → List A → Bool
all f [] = true
all f (a ∷ xs) = f a && all f xs

-- the same bytes
abbrev pub same : List ℕ → List ℕ → Bool
same [] [] = true
same [] (c ∷ cs) = false
same (b ∷ bs) [] = false
same (b ∷ bs) (c ∷ cs) = eqb b c && same bs cs

-- the records one after the other, each as its numbers
abbrev pub flat : {A R : Type 0} → (R → List A) → List R → List A
flat f [] = []
flat f (r ∷ rs) = f r ++ flat f rs

-- a lent table of n entries that holds xs from its front on: the rest is z
abbrev pub filled : {A : Type 0} → ℕ → A → List A → List A
filled n z xs = xs ++ replicate (n - length xs) z
