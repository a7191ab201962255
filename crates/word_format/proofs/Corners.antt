-- A corner is its vertex and what stands after it, by the parts that are there.
use Prim.Native.Nat.{ℕ, zero, suc, ◌^◌, ◌≤◌, ◌<◌}
use mathlib.Core.Path.{◌≡◌, refl, sym}
use mathlib.Core.List.{[], ◌∷◌, ◌++◌, append-nil}
use native.Mathlib.Omega.{arith}
use lib.ListN.{length, length-append}
use Rattle.references.specs.Written.{written_whole, written_corner}
use Rattle.references.proofs.WholesBack.{written-few}
use Rattle.word_format.specs.Parts.{written_part, written_parts}

pub corner-is : (v vt vn : ℕ) → written_corner (record { v = v; vt = vt; vn = vn }) ≡ written_whole v ++ written_parts vt vn
corner-is v zero zero = sym (append-nil (written_whole v))
corner-is v (suc t) zero = refl
corner-is v zero (suc n) = refl
corner-is v (suc t) (suc n) = refl

pub alone : (vt vn : ℕ) → vn ≡ 0 → vt ≡ 0 → written_parts vt vn ≡ []
alone vt vn n t = rw (n, t) refl

pub with-texture : (vt vn : ℕ) → vn ≡ 0 → (vt ≡ 0 → ⊥) → written_parts vt vn ≡ written_part vt
with-texture zero vn n t = absurd (t refl)
with-texture (suc k) vn n t = rw n refl

pub with-normal : (vt vn : ℕ) → (vn ≡ 0 → ⊥) → vt ≡ 0 → written_parts vt vn ≡ (47 ∷ []) ++ written_part vn
with-normal vt zero n t = absurd (n refl)
with-normal vt (suc k) n t = rw t refl

pub with-both : (vt vn : ℕ) → (vn ≡ 0 → ⊥) → (vt ≡ 0 → ⊥) → written_parts vt vn ≡ written_part vt ++ written_part vn
with-both zero vn n t = absurd (t refl)
with-both (suc k) zero n t = absurd (n refl)
with-both (suc k) (suc j) n t = refl

pub whole-few : (n : ℕ) → n < 2 ^ 32 → length (written_whole n) ≤ 10
whole-few n h = written-few 9 n (omega arith)

pub parts-few : (vt vn : ℕ) → vt < 2 ^ 32 → vn < 2 ^ 32 → length (written_parts vt vn) ≤ 22
parts-few zero zero a b = omega arith
parts-few (suc t) zero a b = omega (arith, whole-few (suc t) a)
parts-few zero (suc n) a b = omega (arith, whole-few (suc n) b)
parts-few (suc t) (suc n) a b = omega (arith, whole-few (suc t) a, whole-few (suc n) b, length-append (written_part (suc t)) (written_part (suc n)))
