-- A reference at the front of a word or of a part of it: an optional minus, digits, and the end or another byte.
use Prim.Native.Nat.{ℕ, ◌+◌, ◌≤◌}
use mathlib.Core.Path.{◌≡◌, refl, sym, ap, ap₂, ◌∙◌}
use mathlib.Core.List.{List, [], ◌∷◌}
use mathlib.Core.Bool.{Bool, true, false, cond, ◌&&◌}
use mathlib.Core.Logic.{⊎_elim}
use lib.ListN.{length, drop}
use lib.Seq.{drop-drop}
use lib.Dec.{leb, eqb}
use borrow.Author.Tests.{le-leb, ne_eqb, eqb-true}
use native.Mathlib.Omega.{arith}
use Rattle.lists.proofs.Tests.{and_both, test, never}
use Rattle.digits.specs.Digits.{is_digit, nat_of, is_whole, negative, unminus}
use Rattle.references.specs.Reference.{is_reference, item, refer}
use Rattle.digits.specs.Straight.{first, is_empty, past, front}
use Rattle.references.specs.Straight.{places}
use Rattle.digits.proofs.Fronts.{front-all}
use Rattle.digits.proofs.Lengths.{whole-yes, whole-not, whole-bad}

pub negative-first : (l : List ℕ) → eqb (first l) 45 ≡ negative l
negative-first [] = refl
negative-first (b ∷ bs) = refl

pub minus-drop : (l : List ℕ) → unminus l ≡ drop (cond (negative l) 1 0) l
minus-drop [] = refl
minus-drop (b ∷ bs) =
    ⊎_elim (λ (t : eqb b 45 ≡ true). rw t refl) (λ (t : eqb b 45 ≡ false). rw t refl) (test (eqb b 45))

module _ (f : ℕ → Bool) (fd : (b : ℕ) → is_digit b ≡ true → f b ≡ true) where
  -- ---- after an optional minus
  module _ (fm : f 45 ≡ true) where
    pub front-minus : (l : List ℕ) → unminus (front f l) ≡ front f (unminus l)
    front-minus [] = refl
    front-minus (b ∷ bs) =
        ⊎_elim
        (λ (t : eqb b 45 ≡ true). let p : f b ≡ true = ap f (eqb-true b 45 t) ∙ fm in rw (p, t) refl)
        (λ (t : eqb b 45 ≡ false).
        ⊎_elim (λ (u : f b ≡ true). rw (u, t) (rw u refl)) (λ (u : f b ≡ false). rw (u, t) (rw u refl)) (test (f b)))
        (test (eqb b 45))

    pub front-negative : (l : List ℕ) → negative (front f l) ≡ negative l
    front-negative [] = refl
    front-negative (b ∷ bs) =
        ⊎_elim
        (λ (t : f b ≡ true). rw t refl)
        (λ (t : f b ≡ false). rw t (sym (ne_eqb b 45 (λ h. never (sym t ∙ ap f h ∙ fm)))))
        (test (f b))

    pub refer-yes : (l : List ℕ) → is_empty (front f (past (unminus l))) ≡ true → 1 ≤ length (places l) → length (places l) ≤ 10 → is_reference (front f l) ≡ true
    unfolding is_reference
    refer-yes l o a b =
        ap (is_whole 10) (front-minus l)
        ∙ whole-yes f fd 10 (unminus l) o
        ∙ and_both (le-leb 1 (length (places l)) a) (le-leb (length (places l)) 10 b)

    pub refer-not : (l : List ℕ) → is_empty (front f (past (unminus l))) ≡ false → is_reference (front f l) ≡ false
    unfolding is_reference
    refer-not l o = ap (is_whole 10) (front-minus l) ∙ whole-not f fd 10 (unminus l) o

    pub refer-bad : (l : List ℕ) → (leb 1 (length (places l)) && leb (length (places l)) 10) ≡ false → is_reference (front f l) ≡ false
    unfolding is_reference
    refer-bad l h = ap (is_whole 10) (front-minus l) ∙ whole-bad f fd 10 (unminus l) h

    pub refer-is : (count : ℕ) (l : List ℕ) → is_empty (front f (past (unminus l))) ≡ true → refer count (front f l) ≡ item (negative l) count (nat_of 0 (places l))
    unfolding refer
    refer-is count l o =
        ap₂ (λ (s : Bool) (u : List ℕ). item s count (nat_of 0 u)) (front-negative l) (front-minus l ∙ front-all f fd (unminus l) o)

    -- how far it goes
    pub refer-length : (l : List ℕ) → is_empty (front f (past (unminus l))) ≡ true → length (front f l) ≡ cond (negative l) 1 0 + length (places l)
    refer-length [] o = refl
    refer-length (b ∷ bs) o =
        ⊎_elim
        (λ (t : eqb b 45 ≡ true).
        let p : f b ≡ true = ap f (eqb-true b 45 t) ∙ fm in
        let q = rw t at o in
        rw (p, t) (let z = ap length (front-all f fd bs q) in omega arith))
        (λ (t : eqb b 45 ≡ false). let q = rw t at o in rw t (ap length (front-all f fd (b ∷ bs) q) ∙ (omega arith)))
        (test (eqb b 45))

-- where a reference stops
pub beyond : (l : List ℕ) → drop (cond (negative l) 1 0 + length (places l)) l ≡ past (unminus l)
beyond l =
    sym (drop-drop (length (places l)) (cond (negative l) 1 0) l)
    ∙ ap (λ (x : List ℕ). drop (length (places l)) x) (sym (minus-drop l))
