-- A run of a lent table: what stands there from one entry on, and reading it back. By `take` and `drop`.
use Prim.Native.Nat.{ℕ, zero, suc, ◌+◌, ◌*◌, ◌-◌, ◌≤◌, ◌<◌}
use mathlib.Core.Path.{◌≡◌, refl, sym, ap, ap₂, ◌∙◌, subst}
use mathlib.Core.List.{List, [], ◌∷◌, ◌++◌, append_assoc}
use native.Mathlib.Nat.{zero-add}
use native.Mathlib.Omega.{arith}
use lib.ListN.{length, get_or, take, drop, replicate, length-append, take-append-drop}
use lib.Seq.{get_or-take, get_or-drop, get_or_at, drop-drop, take-append_seam, drop-append_seam}
use Rattle.lists.specs.Lists.{flat, filled}
use Rattle.tables.proofs.Flat.{flat_append, length-flat}
use Rattle.model.specs.In.{each}

pub record Stands {A : Type 0} (l : List A) (first : ℕ) (xs : List A) : Type 0 where
  pub lent : first + length xs ≤ length l
  pub run : take (length xs) (drop first l) ≡ xs

module _ {A : Type 0} where
  pub stands_at : (l : List A) (first : ℕ) (xs : List A) (k : ℕ) (z : A) → Stands l first xs → k < length xs → get_or l (first + k) z ≡ get_or xs k z
  stands_at l first xs k z s h =
      sym (get_or-drop first l k z) ∙ sym (get_or-take (length xs) (drop first l) k z h) ∙ ap (λ (q : List A). get_or q k z) s.run

  -- a lent table holds what it is filled with
  pub stands-filled : (n : ℕ) (z : A) (xs : List A) → Stands (filled n z xs) 0 xs
  stands-filled n z xs =
      let rest = replicate (n - length xs) z in
      record { lent = (let e = length-append xs rest in omega arith); run = take-append_seam xs rest }

  -- the used entries of a table
  pub stands-used : (l xs : List A) (n : ℕ) → length xs ≡ n → Stands l 0 xs → take n l ≡ xs
  stands-used l xs n e s = ap (λ (k : ℕ). take k l) (sym e) ∙ s.run

  pub stands-is : (l : List A) (i j : ℕ) (xs : List A) → i ≡ j → Stands l i xs → Stands l j xs
  stands-is l i j xs e s = subst (λ (k : ℕ). Stands l k xs) e s

  -- a part of what stands
  pub stands-part : (l : List A) (first : ℕ) (a b c : List A) → Stands l first (a ++ (b ++ c)) → Stands l (first + length a) b
  stands-part l first a b c s =
      let n = length (a ++ (b ++ c)) in
      let rest = drop n (drop first l) in
      let e : drop first l ≡ a ++ (b ++ (c ++ rest)) =
      sym (take-append-drop n (drop first l)) ∙ ap (λ (q : List A). q ++ rest) s.run ∙ append_assoc a (b ++ c) rest ∙ ap (λ (q : List A). a ++ q) (append_assoc b c rest) in
      record {
        lent = (let k = s.lent in let i = length-append a (b ++ c) in let j = length-append b c in omega arith);
        run = ap (take (length b)) (sym (drop-drop (length a) first l) ∙ ap (drop (length a)) e ∙ drop-append_seam a (b ++ (c ++ rest))) ∙ take-append_seam b (c ++ rest);
      }

-- ---- one element of a list, those before it and those after it
pub record Among {A : Type 0} (xs : List A) (i : ℕ) : Type 0 where
  pub before : List A
  pub one : A
  pub after : List A
  pub is : xs ≡ before ++ one ∷ after
  pub many : length before ≡ i

pub among : {A : Type 0} (xs : List A) (i : ℕ) → i < length xs → Among xs i
among [] i h = absurd (omega arith)
among (x ∷ xs) zero h = record { before = []; one = x; after = xs; is = refl; many = refl }
among {A} (x ∷ xs) (suc i) h =
    let r = among xs i (omega arith) in
    record { before = x ∷ r.before; one = r.one; after = r.after; is = ap (λ (q : List A). x ∷ q) r.is; many = ap suc r.many }

pub among-at : {A : Type 0} (xs : List A) (i : ℕ) (a : Among xs i) (z : A) → get_or xs i z ≡ a.one
among-at {A} xs i a z = ap (λ (q : List A). get_or q i z) a.is ∙ get_or_at a.before a.one a.after z i a.many

-- ---- one of the records laid one after the other
pub stands-flat : {A R : Type 0} (f : R → List A) (l : List A) (first : ℕ) (rs : List R) (k : ℕ) (a : Among rs k) → Stands l first (flat f rs) → Stands l (first + length (flat f a.before)) (f a.one)
stands-flat {A} {R} f l first rs k a s =
    stands-part l first (flat f a.before) (f a.one) (flat f a.after) (subst (Stands l first) (ap (flat f) a.is ∙ flat_append f a.before (a.one ∷ a.after)) s)

-- each of w numbers
pub stands-record : {A R : Type 0} (f : R → List A) (w : ℕ) → ((r : R) → length (f r) ≡ w) → (l : List A) (first : ℕ) (rs : List R) (k : ℕ) (a : Among rs k)
    → Stands l first (flat f rs) → Stands l (first + w * k) (f a.one)
stands-record f w wide l first rs k a s =
    let e : length (flat f a.before) ≡ w * k = length-flat f w wide a.before ∙ ap (λ (n : ℕ). w * n) a.many in
    stands-is l (first + length (flat f a.before)) (first + w * k) (f a.one) (ap (λ (n : ℕ). first + n) e) (stands-flat f l first rs k a s)

-- ---- a list read back by index
pub each-is : {A : Type 0} (f : ℕ → A) (xs : List A) (i : ℕ) → ((k : ℕ) (a : Among xs k) → f (i + k) ≡ a.one) → each f (length xs) i ≡ xs
each-is f [] i h = refl
each-is {A} f (x ∷ xs) i h =
    let here : f i ≡ x = ap f (let e : i ≡ i + 0 = omega arith in e) ∙ h 0 (record { before = []; one = x; after = xs; is = refl; many = refl }) in
    ap₂ (λ (y : A) (ys : List A). y ∷ ys) here
    (each-is f xs (suc i)
    (λ k a.
    ap f (let e : suc i + k ≡ i + suc k = omega arith in e)
    ∙ h (suc k) (record { before = x ∷ a.before; one = a.one; after = a.after; is = ap (λ (q : List A). x ∷ q) a.is; many = ap suc a.many })))

pub each_all : {A : Type 0} (f : ℕ → A) (n : ℕ) (xs : List A) → n ≡ length xs → ((k : ℕ) (a : Among xs k) → f k ≡ a.one) → each f n 0 ≡ xs
each_all f n xs e h = ap (λ (k : ℕ). each f k 0) e ∙ each-is f xs 0 (λ k a. ap f (zero-add k) ∙ h k a)
