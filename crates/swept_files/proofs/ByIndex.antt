-- Tests and lists by index, against the same by a list's elements: by the first of them.
use Prim.Native.Nat.{ℕ, zero, suc, ◌+◌, ◌<◌}
use mathlib.Core.Path.{◌≡◌, refl, sym, ap, ap₂, ◌∙◌}
use mathlib.Core.Bool.{Bool, true, false, cond, ◌||◌}
use mathlib.Core.List.{List, [], ◌∷◌, ◌++◌, append_assoc, append-nil}
use native.Mathlib.Omega.{arith}
use lib.ListN.{length, get_or}
use Rattle.lists.specs.Lists.{flat}
use Rattle.model.specs.Layout.{itself}
use Rattle.model.proofs.Placed.{Each}
use Rattle.sweep_marks.specs.Counting.{any_below, kept_upto, flat_below}
use Rattle.swept_files.specs.Files.{any_of, kept_of}
use Rattle.sweep_marks.proofs.FlatBelow.{flat_below-same}

-- ---- some index passes
or-none : (b : Bool) → (b || false) ≡ b
or-none true = refl
or-none false = refl

or_assoc : (a b c : Bool) → ((a || b) || c) ≡ (a || (b || c))
or_assoc true b c = refl
or_assoc false b c = refl

any-first : (n : ℕ) (f : ℕ → Bool) → any_below (suc n) f ≡ (f 0 || any_below n (λ i. f (suc i)))
any-first zero f = sym (or-none (f 0))
any-first (suc n) f = ap (λ (b : Bool). b || f (suc n)) (any-first n f) ∙ or_assoc (f 0) (any_below n (λ i. f (suc i))) (f (suc n))

any_same : (n : ℕ) (f g : ℕ → Bool) → ((i : ℕ) → i < n → f i ≡ g i) → any_below n f ≡ any_below n g
any_same zero f g h = refl
any_same (suc n) f g h = ap₂ (λ (a b : Bool). a || b) (any_same n f g (λ i l. h i (omega arith))) (h n (omega arith))

any-listed : {A : Type 0} (g : A → Bool) (z : A) (xs : List A) → any_below (length xs) (λ i. g (get_or xs i z)) ≡ any_of g xs
any-listed g z [] = refl
any-listed g z (x ∷ xs) = any-first (length xs) (λ i. g (get_or (x ∷ xs) i z)) ∙ ap (λ (b : Bool). g x || b) (any-listed g z xs)

-- a test by index that is one of the elements
pub any-by : {A : Type 0} (f : ℕ → Bool) (g : A → Bool) (z : A) (xs : List A) → ((i : ℕ) → i < length xs → f i ≡ g (get_or xs i z)) → any_below (length xs) f ≡ any_of g xs
any-by f g z xs h = any_same (length xs) f (λ i. g (get_or xs i z)) h ∙ any-listed g z xs

-- ---- what each index gives, one after the other
module _ {A : Type 0} where
  flat-first : (n : ℕ) (f : ℕ → List A) → flat_below (suc n) f ≡ f 0 ++ flat_below n (λ i. f (suc i))
  flat-first zero f = sym (append-nil (f 0))
  flat-first (suc n) f = ap (λ (l : List A). l ++ f (suc n)) (flat-first n f) ∙ append_assoc (f 0) (flat_below n (λ i. f (suc i))) (f (suc n))

  flat-listed : {R : Type 0} (g : R → List A) (z : R) (xs : List R) → flat_below (length xs) (λ i. g (get_or xs i z)) ≡ flat g xs
  flat-listed g z [] = refl
  flat-listed g z (x ∷ xs) = flat-first (length xs) (λ i. g (get_or (x ∷ xs) i z)) ∙ ap (λ (l : List A). g x ++ l) (flat-listed g z xs)

  pub flat-by : {R : Type 0} (f : ℕ → List A) (g : R → List A) (z : R) (xs : List R) → ((i : ℕ) → i < length xs → f i ≡ g (get_or xs i z)) → flat_below (length xs) f ≡ flat g xs
  flat-by f g z xs h = flat_below-same f (λ i. g (get_or xs i z)) (length xs) h ∙ flat-listed g z xs

  -- ---- records that pass
  kept_cons : (q : Bool) (a : List A) (xs : List (List A)) → cond q a [] ++ flat itself xs ≡ flat itself (cond q (a ∷ xs) xs)
  kept_cons true a xs = refl
  kept_cons false a xs = refl

  pub kept-flat : (f : ℕ → Bool) (xs : List (List A)) → flat_below (length xs) (λ i. cond (f (suc i)) (get_or xs i []) []) ≡ flat itself (kept_of f xs)
  kept-flat f [] = refl
  kept-flat f (x ∷ xs) =
      flat-first (length xs) (λ i. cond (f (suc i)) (get_or (x ∷ xs) i []) [])
      ∙ ap (λ (l : List A). cond (f 1) x [] ++ l) (kept-flat (λ k. f (suc k)) xs)
      ∙ kept_cons (f 1) x (kept_of (λ k. f (suc k)) xs)

pub upto-first : (f : ℕ → Bool) (n : ℕ) → kept_upto f (suc n) ≡ cond (f 1) 1 0 + kept_upto (λ k. f (suc k)) n
upto-first f zero = omega arith
upto-first f (suc n) = let e = upto-first f n in omega arith

kept_more : {A : Type 0} (q : Bool) (a : A) (xs : List A) → cond q 1 0 + length xs ≡ length (cond q (a ∷ xs) xs)
kept_more true a xs = omega arith
kept_more false a xs = omega arith

pub kept-length : {A : Type 0} (f : ℕ → Bool) (xs : List A) → kept_upto f (length xs) ≡ length (kept_of f xs)
kept-length f [] = refl
kept-length f (x ∷ xs) =
    upto-first f (length xs) ∙ ap (λ (n : ℕ). cond (f 1) 1 0 + n) (kept-length (λ k. f (suc k)) xs) ∙ kept_more (f 1) x (kept_of (λ k. f (suc k)) xs)

-- what holds of a list when it holds of each element, and of the rest, holds of those that are kept
module _ {A : Type 0} (P : A → Type 0) (Q : List A → Type 0) (split : (a : A) (xs : List A) → Q (a ∷ xs) → P a × Q xs)
    (join : (a : A) (xs : List A) → P a → Q xs → Q (a ∷ xs)) where
  pub kept-keeps : (f : ℕ → Bool) (xs : List A) → Q xs → Q (kept_of f xs)
  kept-keeps f [] h = h
  kept-keeps f (a ∷ xs) h = let s = split a xs h in go (f 1) s.0 (kept-keeps (λ k. f (suc k)) xs s.1)
    where
      go : (q : Bool) → P a → Q (kept_of (λ k. f (suc k)) xs) → Q (cond q (a ∷ kept_of (λ k. f (suc k)) xs) (kept_of (λ k. f (suc k)) xs))
      go true p r = join a (kept_of (λ k. f (suc k)) xs) p r
      go false p r = r

-- ---- each element of a list
pub each-by : {A : Type 0} (P : A → Type 0) (z : A) (xs : List A) → ((i : ℕ) → i < length xs → P (get_or xs i z)) → Each P xs
each-by P z [] h = tt
each-by P z (x ∷ xs) h = (h 0 (omega arith), each-by P z xs (λ i l. h (suc i) (omega arith)))

pub any-of-at : {A : Type 0} (f : A → Bool) (z : A) (xs : List A) (i : ℕ) → i < length xs → f (get_or xs i z) ≡ true → any_of f xs ≡ true
any-of-at f z [] i l h = absurd (omega arith)
any-of-at f z (x ∷ xs) zero l h = rw h
any-of-at f z (x ∷ xs) (suc i) l h = go (f x) (any-of-at f z xs i (omega arith) h)
  where
    go : (q : Bool) → any_of f xs ≡ true → (q || any_of f xs) ≡ true
    go true r = refl
    go false r = r
