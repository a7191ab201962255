-- The walk over the parameters of a direction gives 13's verdict, and the two ends of the widest range.
use Prim.Native.Nat.{ℕ, ◌+◌, ◌*◌, ◌-◌, ◌≤◌}
use native.Mathlib.Nat.{sub-zero}
use native.Mathlib.Omega.{arith}
use mathlib.Core.Path.{◌≡◌, sym, ap, ap₂, ◌∙◌, subst}
use mathlib.Core.List.{List, [], ◌∷◌}
use mathlib.Core.Bool.{Bool, true, false, cond, ◌&&◌, and-true}
use mathlib.Core.Logic.{⊎_elim}
use borrow.Author.Tests.{ne_eqb, eqb-true, eqb-false}
use lib.Dec.{eqb}
use lib.ListN.{length, get_or}
use lib.IntN.{ℤ, pos}
use lib.Signed.{lt_z, le_z}
use Rattle.lists.proofs.Tests.{test}
use Rattle.tables.specs.Bodies.{basis_of, enough, rising, ordered, low, high, continuous, in_order}
use Rattle.parameter_order.specs.Stepping.{requirement_of, fresh, step_of, walked, holds_in}
use Rattle.basis.proofs.Basis.{not-bspline, low-other, high-other, knots-enough}
use Rattle.basis.proofs.Trail.{reached, low-reached, high-reached, reached-at, fine-trail, first-free, trail-rises}
use Rattle.basis.proofs.Multiplicities.{knots, knots-fine}

abbrev pub Judged : ℕ → ℕ → List ℤ → Type 0
Judged type n x =
    ((walked (requirement_of type n (length x)) x).fine ≡ (ordered (basis_of type) x && continuous (basis_of type) n x))
    × ((walked (requirement_of type n (length x)) x).low ≡ low (basis_of type) n x)
    × ((walked (requirement_of type n (length x)) x).high ≡ high (basis_of type) n x)

by-knots : (n : ℕ) (x : List ℤ) → 2 * n + 2 ≤ length x → Judged 2 n x
by-knots n [] h = absurd (omega arith)
by-knots n (b ∷ x) h =
    let k = length (b ∷ x) - n - 1 in
    let w = knots n k in (
      knots-fine n k b x (omega arith) (omega arith),
      (low-reached w 0 fresh (b ∷ x) ∙ reached-at n 0 (pos 0) (b ∷ x) (omega arith) (omega arith) ∙ ap (λ (d : ℕ). get_or (b ∷ x) d (pos 0)) (sub-zero n)),
      (high-reached w 0 fresh (b ∷ x) ∙ reached-at k 0 (pos 0) (b ∷ x) (omega arith) (omega arith) ∙ ap (λ (d : ℕ). get_or (b ∷ x) d (pos 0)) (sub-zero k)),
    )

rises-other : (type : ℕ) → (type ≡ 2 → ⊥) → (n : ℕ) (x : List ℤ) → (ordered (basis_of type) x && continuous (basis_of type) n x) ≡ rising x
rises-other type o n x = not-bspline (λ t. (ordered t x && continuous t n x) ≡ rising x) (and-true (rising x)) (and-true (rising x)) (and-true (rising x)) type o

by-others : (type : ℕ) → (type ≡ 2 → ⊥) → (n : ℕ) (x : List ℤ) → 1 ≤ length x → Judged type n x
by-others type o n [] h = absurd (omega arith)
by-others type o n (b ∷ x) h =
    let e = ne_eqb type 2 o in
    let a = requirement_of type n (length (b ∷ x)) in (
      fine-trail a 0 fresh (b ∷ x) ∙ ap₂ (λ (p q : Bool). p && q) (first-free a b) (trail-rises a e 0 (step_of a 0 fresh b) x) ∙ sym (rises-other type o n (b ∷ x)),
      (low-reached a 0 fresh (b ∷ x) ∙ ap (λ (t : Bool). reached (cond t n 0) 0 (pos 0) (b ∷ x)) e ∙ reached-at 0 0 (pos 0) (b ∷ x) (omega arith) (omega arith) ∙ sym (low-other type o n (b ∷ x))),
      (high-reached a 0 fresh (b ∷ x) ∙ ap (λ (t : Bool). reached (cond t (length (b ∷ x) - n - 1) (length (b ∷ x) - 1)) 0 (pos 0) (b ∷ x)) e ∙ reached-at (length (b ∷ x) - 1) 0 (pos 0) (b ∷ x) (omega arith) (omega arith) ∙ ap (λ (d : ℕ). get_or (b ∷ x) d (pos 0)) (sub-zero (length (b ∷ x) - 1)) ∙ sym (high-other type o n (b ∷ x))),
    )

pub walk_is : (type n : ℕ) (x : List ℤ) → 1 ≤ length x → enough (basis_of type) n (length x) ≡ true → Judged type n x
walk_is type n x h g =
    ⊎_elim
    (λ (e : eqb type 2 ≡ true).
    let f = eqb-true type 2 e in
    subst (λ (t : ℕ). Judged t n x) (sym f) (by-knots n x (knots-enough type n (length x) f g)))
    (λ (e : eqb type 2 ≡ false). by-others type (eqb-false type 2 e) n x h)
    (test (eqb type 2))

-- 13's verdict
pub walk-holds :
    (type n : ℕ) (x : List ℤ) (start end : ℤ) → 1 ≤ length x → enough (basis_of type) n (length x) ≡ true →
    holds_in (walked (requirement_of type n (length x)) x) start end ≡ in_order (basis_of type) n x start end
unfolding holds_in in_order
walk-holds type n x start end h g =
    let w = walk_is type n x h g in
    ap₂ (λ (p q : Bool). p && q) w.0 (ap₂ (λ (l r : ℤ). le_z l start && lt_z start end && le_z end r) w.1 w.2)
