-- The walk over the parameters of a direction: the ends of the widest range that it finds, and that all are in order where each may follow those before it.
use Prim.Native.Nat.{ℕ, suc, ◌+◌, ◌-◌, ◌≤◌, ◌<◌}
use native.Mathlib.Omega.{arith}
use mathlib.Core.Path.{◌≡◌, refl, sym, ap, ap₂, ◌∙◌}
use mathlib.Core.List.{List, [], ◌∷◌}
use mathlib.Core.Bool.{Bool, true, false, cond, ◌&&◌, and-true}
use mathlib.Core.Logic.{⊎_elim}
use borrow.Author.Tests.{leb-true, leb-false, le-leb, lt-leb, ne_eqb}
use lib.Dec.{leb, eqb}
use lib.ListN.{length, get_or}
use lib.IntN.{ℤ, pos}
use lib.Signed.{lt_z}
use Rattle.lists.proofs.Tests.{test}
use Rattle.tables.specs.Bodies.{rising}
use Rattle.parameter_order.specs.declared.Requirement.{Requirement}
use Rattle.parameter_order.specs.declared.Order.{Order}
use Rattle.parameter_order.specs.Stepping.{fresh, too_often, followed, may_follow, step_of, walk_from}

-- ---- the ends of the widest range: the value at index k, or the last so far
abbrev pub reached : ℕ → ℕ → ℤ → List ℤ → ℤ
reached k i z [] = z
reached k i z (b ∷ x) = reached k (suc i) (cond (leb i k) b z) x

pub low-reached : (a : Requirement) (i : ℕ) (o : Order) (x : List ℤ) → (walk_from a i o x).low ≡ reached a.low_at i o.low x
low-reached a i o [] = refl
low-reached a i o (b ∷ x) = low-reached a (suc i) (step_of a i o b) x

pub high-reached : (a : Requirement) (i : ℕ) (o : Order) (x : List ℤ) → (walk_from a i o x).high ≡ reached a.high_at i o.high x
high-reached a i o [] = refl
high-reached a i o (b ∷ x) = high-reached a (suc i) (step_of a i o b) x

reached-over : (k i : ℕ) (z : ℤ) (x : List ℤ) → k < i → reached k i z x ≡ z
reached-over k i z [] h = refl
reached-over k i z (b ∷ x) h = let e : leb i k ≡ false = lt-leb i k h in ap (λ (t : Bool). reached k (suc i) (cond t b z) x) e ∙ reached-over k (suc i) z x (omega arith)

pub at_first : (b : ℤ) (x : List ℤ) (d : ℕ) → d ≡ 0 → get_or (b ∷ x) d (pos 0) ≡ b
at_first b x d e = ap (λ (k : ℕ). get_or (b ∷ x) k (pos 0)) e

pub at_next : (b : ℤ) (x : List ℤ) (d e : ℕ) → d ≡ suc e → get_or (b ∷ x) d (pos 0) ≡ get_or x e (pos 0)
at_next b x d e h = ap (λ (k : ℕ). get_or (b ∷ x) k (pos 0)) h

pub reached-at : (k i : ℕ) (z : ℤ) (x : List ℤ) → i ≤ k → k < i + length x → reached k i z x ≡ get_or x (k - i) (pos 0)
reached-at k i z [] h l = absurd (omega arith)
reached-at k i z (b ∷ x) h l =
    ap (λ (t : Bool). reached k (suc i) (cond t b z) x) (le-leb i k h)
    ∙ ⊎_elim
    (λ (e : leb (suc i) k ≡ true).
    let m = leb-true (suc i) k e in
    reached-at k (suc i) b x m (omega arith) ∙ sym (at_next b x (k - i) (k - suc i) (omega arith)))
    (λ (e : leb (suc i) k ≡ false).
    let m = leb-false (suc i) k e in
    reached-over k (suc i) b x m ∙ sym (at_first b x (k - i) (omega arith)))
    (test (leb (suc i) k))

-- ---- whether all are in order: each may follow those before it
abbrev pub trail : Requirement → ℕ → Order → List ℤ → Bool
trail a i o [] = true
trail a i o (b ∷ x) = may_follow a i o b && trail a (suc i) (step_of a i o b) x

and-over : (a b c : Bool) → (a && b && c) ≡ (a && (b && c))
and-over true b c = refl
and-over false b c = refl

pub fine-trail : (a : Requirement) (i : ℕ) (o : Order) (x : List ℤ) → (walk_from a i o x).fine ≡ (o.fine && trail a i o x)
fine-trail a i o [] = sym (and-true o.fine)
fine-trail a i o (b ∷ x) = fine-trail a (suc i) (step_of a i o b) x ∙ and-over o.fine (may_follow a i o b) (trail a (suc i) (step_of a i o b) x)

pub first-free : (a : Requirement) (b : ℤ) → may_follow a 0 fresh b ≡ true
unfolding followed
first-free a b = refl

-- ---- the other three types
module _ (a : Requirement) (other : eqb a.basis 2 ≡ false) where
  may-rise : (i : ℕ) (o : Order) (b : ℤ) → eqb i 0 ≡ false → may_follow a i o b ≡ lt_z o.previous b
  unfolding followed too_often
  may-rise i o b h = rw (h, other) (go (lt_z o.previous b))
    where
      go : (t : Bool) → cond t true false ≡ t
      go true = refl
      go false = refl

  pub trail-rises : (i : ℕ) (o : Order) (x : List ℤ) → trail a (suc i) o x ≡ rising (o.previous ∷ x)
  trail-rises i o [] = refl
  trail-rises i o (b ∷ x) = ap₂ (λ (p q : Bool). p && q) (may-rise (suc i) o b (ne_eqb (suc i) 0 (λ e. absurd (omega arith)))) (trail-rises (suc i) (step_of a (suc i) o b) x)
