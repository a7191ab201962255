-- Order tests of whole numbers against each other: by the signs.
use Prim.Native.Nat.{ℕ, ◌≤◌}
use native.Mathlib.Omega.{arith}
use mathlib.Core.Path.{◌≡◌, refl, sym, ap, ◌∙◌}
use mathlib.Core.Bool.{Bool, true, false, not}
use mathlib.Core.Logic.{⊎_elim}
use borrow.Author.Tests.{leb-true, leb-false, le-leb, ltb-true, lt-ltb, le-ltb}
use lib.Dec.{leb, ltb}
use lib.IntN.{ℤ, pos, negsuc}
use lib.Signed.{lt_z, le_z}
use Rattle.lists.proofs.Tests.{test, never}

ltb-not : (a b : ℕ) → ltb a b ≡ not (leb b a)
ltb-not a b =
    ⊎_elim
    (λ h. le-ltb a b (leb-true b a h) ∙ ap not (sym h))
    (λ h. lt-ltb a b (leb-false b a h) ∙ ap not (sym h))
    (test (leb b a))

lt_not_le : (a b : ℤ) → lt_z a b ≡ not (le_z b a)
lt_not_le (pos a) (pos b) = ltb-not a b
lt_not_le (pos a) (negsuc b) = refl
lt_not_le (negsuc a) (pos b) = refl
lt_not_le (negsuc a) (negsuc b) = ltb-not b a

not-not : (t : Bool) → not (not t) ≡ t
not-not true = refl
not-not false = refl

-- a test of one order decides the other
pub lt-no-le : (a b : ℤ) → lt_z a b ≡ true → le_z b a ≡ false
lt-no-le a b h = sym (not-not (le_z b a)) ∙ ap not (sym (lt_not_le a b) ∙ h)

pub no-lt-le : (a b : ℤ) → lt_z a b ≡ false → le_z b a ≡ true
no-lt-le a b h = sym (not-not (le_z b a)) ∙ ap not (sym (lt_not_le a b) ∙ h)

pub le-no-lt : (a b : ℤ) → le_z a b ≡ true → lt_z b a ≡ false
le-no-lt a b h = lt_not_le b a ∙ ap not h

pub lt-le : (a b : ℤ) → lt_z a b ≡ true → le_z a b ≡ true
lt-le (pos a) (pos b) h = le-leb a b (omega (arith, ltb-true a b h))
lt-le (pos a) (negsuc b) h = h
lt-le (negsuc a) (pos b) h = h
lt-le (negsuc a) (negsuc b) h = le-leb b a (omega (arith, ltb-true b a h))

pub least : (m n : ℕ) (g : ℤ) → m ≤ n → le_z (pos n) g ≡ true → le_z (pos m) g ≡ true
least m n (pos a) l h = le-leb m a (omega (arith, leb-true n a h))
least m n (negsuc a) l h = h

pub le_refl : (a : ℤ) → le_z a a ≡ true
le_refl (pos a) = le-leb a a (omega arith)
le_refl (negsuc a) = le-leb a a (omega arith)

pub le_trans : (a b c : ℤ) → le_z a b ≡ true → le_z b c ≡ true → le_z a c ≡ true
le_trans (pos a) (pos b) (pos c) h k = le-leb a c (omega (arith, leb-true a b h, leb-true b c k))
le_trans (pos a) (pos b) (negsuc c) h k = k
le_trans (pos a) (negsuc b) c h k = never h
le_trans (negsuc a) (pos b) (pos c) h k = refl
le_trans (negsuc a) (pos b) (negsuc c) h k = never k
le_trans (negsuc a) (negsuc b) (pos c) h k = refl
le_trans (negsuc a) (negsuc b) (negsuc c) h k = le-leb c a (omega (arith, leb-true b a h, leb-true c b k))

pub le_same : (a b : ℤ) → le_z a b ≡ true → le_z b a ≡ true → a ≡ b
le_same (pos a) (pos b) h k = let e : a ≡ b = omega (arith, leb-true a b h, leb-true b a k) in ap pos e
le_same (pos a) (negsuc b) h k = never h
le_same (negsuc a) (pos b) h k = never k
le_same (negsuc a) (negsuc b) h k = let e : a ≡ b = omega (arith, leb-true b a h, leb-true a b k) in ap negsuc e

pub lt-le-lt : (a b c : ℤ) → lt_z a b ≡ true → le_z b c ≡ true → lt_z a c ≡ true
lt-le-lt a b c h k =
    ⊎_elim
    (λ (e : lt_z a c ≡ true). e)
    (λ (e : lt_z a c ≡ false). never (sym (lt-no-le a b h) ∙ le_trans b c a k (no-lt-le a c e)))
    (test (lt_z a c))

pub not-either : (a b : ℤ) → le_z a b ≡ false → lt_z a b ≡ false
not-either a b h =
    ⊎_elim
    (λ (e : lt_z a b ≡ true). never (sym h ∙ lt-le a b e))
    (λ (e : lt_z a b ≡ false). e)
    (test (lt_z a b))
