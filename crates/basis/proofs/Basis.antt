-- The four types along one direction: a bspline by its own rule, the other three by one.
use Prim.Native.Nat.{ℕ, ◌+◌, ◌*◌, ◌-◌, ◌≤◌}
use native.Mathlib.Omega.{arith}
use mathlib.Core.Path.{◌≡◌, refl}
use mathlib.Core.List.{List}
use mathlib.Core.Bool.{Bool, true, false, cond, ◌&&◌}
use borrow.Author.Tests.{leb-true, ne_eqb}
use lib.Dec.{leb, eqb}
use lib.ListN.{length, get_or}
use lib.IntN.{ℤ, pos}
use Rattle.lists.proofs.Tests.{and_left, and_right}
use Rattle.tables.specs.Bodies.{Basis, bezier, cardinal, taylor, enough, controls, low, high, curve_count, surface_count, basis_of}

-- what holds of the other three holds of a type that is no bspline
pub not-bspline : (P : Basis → Type 0) → P bezier → P cardinal → P taylor → (type : ℕ) → (type ≡ 2 → ⊥) → P (basis_of type)
not-bspline P a b c type h = rw (ne_eqb type 2 h) (go (eqb type 1) (eqb type 3))
  where
    go : (p q : Bool) → P (cond p bezier (cond q cardinal taylor))
    go true q = a
    go false true = b
    go false false = c

module _ (type : ℕ) (other : type ≡ 2 → ⊥) where
  pub low-other : (n : ℕ) (x : List ℤ) → low (basis_of type) n x ≡ get_or x 0 (pos 0)
  low-other n x = not-bspline (λ t. low t n x ≡ get_or x 0 (pos 0)) refl refl refl type other

  pub high-other : (n : ℕ) (x : List ℤ) → high (basis_of type) n x ≡ get_or x (length x - 1) (pos 0)
  high-other n x = not-bspline (λ t. high t n x ≡ get_or x (length x - 1) (pos 0)) refl refl refl type other

pub knots-enough : (type n p : ℕ) → type ≡ 2 → enough (basis_of type) n p ≡ true → 2 * n + 2 ≤ p
knots-enough type n p e h = let k : leb (n + 1) (p - n - 1) ≡ true = rw e at h in omega (arith, leb-true (n + 1) (p - n - 1) k)

-- ---- the counts of controls hold only where there are enough
pub curve-enough : (t : Basis) (n p k : ℕ) → curve_count t n p k ≡ true → enough t n p ≡ true
unfolding curve_count
curve-enough t n p k h = and_left (enough t n p) (eqb k (controls t n p)) h

module _ (t : Basis) (m p n q k : ℕ) (h : surface_count t m p n q k ≡ true) where
  both-enough : (enough t m p && enough t n q) ≡ true
  unfolding surface_count
  both-enough = and_left (enough t m p && enough t n q) (eqb k (controls t m p * controls t n q)) h

  pub surface-enough-u : enough t m p ≡ true
  surface-enough-u = and_left (enough t m p) (enough t n q) both-enough

  pub surface-enough-v : enough t n q ≡ true
  surface-enough-v = and_right (enough t m p) (enough t n q) both-enough
