-- What stands before the first point and after it, of digits with a point among them, with none, or with another byte.
use Prim.Native.Nat.{ℕ}
use mathlib.Core.Path.{◌≡◌, refl, ap}
use mathlib.Core.List.{List, [], ◌∷◌, ◌++◌}
use mathlib.Core.Bool.{true, false}
use lib.Dec.{leb, eqb}
use borrow.Author.Tests.{leb-true, ne_eqb}
use native.Mathlib.Omega.{arith}
use Rattle.lists.proofs.Tests.{and_left, and_right}
use Rattle.digits.specs.Digits.{is_digit, digits}
use Rattle.decimals.specs.Number.{before, after}

-- a digit is no point
digit-no-point : (b : ℕ) → is_digit b ≡ true → eqb b 46 ≡ false
digit-no-point b h = ne_eqb b 46 (omega (arith, leb-true 48 b (and_left (leb 48 b) (leb b 57) h)))

pub before-point : (s t : List ℕ) → digits s ≡ true → before (s ++ 46 ∷ t) ≡ s
before-point [] t h = refl
before-point (b ∷ bs) t h =
    rw (digit-no-point b (and_left (is_digit b) (digits bs) h))
    (ap (λ (r : List ℕ). b ∷ r) (before-point bs t (and_right (is_digit b) (digits bs) h)))

pub after-point : (s t : List ℕ) → digits s ≡ true → after (s ++ 46 ∷ t) ≡ t
after-point [] t h = refl
after-point (b ∷ bs) t h =
    rw (digit-no-point b (and_left (is_digit b) (digits bs) h))
    (after-point bs t (and_right (is_digit b) (digits bs) h))

pub before-none : (s : List ℕ) → digits s ≡ true → before s ≡ s
before-none [] h = refl
before-none (b ∷ bs) h =
    rw (digit-no-point b (and_left (is_digit b) (digits bs) h))
    (ap (λ (r : List ℕ). b ∷ r) (before-none bs (and_right (is_digit b) (digits bs) h)))

pub after_none : (s : List ℕ) → digits s ≡ true → after s ≡ []
after_none [] h = refl
after_none (b ∷ bs) h =
    rw (digit-no-point b (and_left (is_digit b) (digits bs) h))
    (after_none bs (and_right (is_digit b) (digits bs) h))

-- another byte than a digit or a point, after digits
pub before-other : (s : List ℕ) (c : ℕ) (t : List ℕ) → digits s ≡ true → is_digit c ≡ false → eqb c 46 ≡ false → digits (before (s ++ c ∷ t)) ≡ false
before-other [] c t h e₁ e₂ = rw e₂ (rw e₁)
before-other (b ∷ bs) c t h e₁ e₂ =
    rw (digit-no-point b (and_left (is_digit b) (digits bs) h))
    (rw (and_left (is_digit b) (digits bs) h) (before-other bs c t (and_right (is_digit b) (digits bs) h) e₁ e₂))
