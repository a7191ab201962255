-- N(i,r) as parts of the whole: from k - r to k it is what the scheme's level weighs, and 0 elsewhere.
use mathlib.Core.Path.{◌≡◌, refl, sym, ◌∙◌, ap, ap₂, subst, subst₂}
use mathlib.Core.Bool.{Bool, true, false, cond}
use mathlib.Core.Logic.{◌⊎◌, inl, inr}
use Prim.Native.Nat.{ℕ, zero, suc, ◌+◌, ◌*◌, ◌-◌, ◌≤◌, ◌<◌}
use native.Mathlib.Nat.{not-suc-le-zero, le_of_suc-le-suc, mul_comm, mul-zero}
use native.Mathlib.Decide.{dec_le}
use native.Mathlib.Omega.{arith}
use lib.Dec.{T, eqb, eqb_refl, eqb→eq}
use lib.IntN.{ℤ, pos, ◌-ℤ◌, ◌*ℤ◌}
use Rattle.rounding.specs.Fractions.{whole, ◌*ᶠ◌, over}
use Rattle.rounding.proofs.FracLaws.{Is, is-conv, is_whole, is-plus, is-times, is-over, over-above, is_zero, is-zero-times, is-plus-zero, is-zero-plus}
use Rattle.point_exact.specs.Exact.{spline_weight}
use Rattle.point_exact.proofs.SplineScheme.{OnSpan, part, gap, rest, level, scale, left, right, portion, all, portion-past, part-is, rest-is, gap_is, gap-pos, scale-is}

pub off : (b : Bool) → (T b → ⊥) → Is (cond b (whole (pos 1)) (whole (pos 0))) (pos 0) 1
off true f = absurd (f tt)
off false f = is_whole (pos 0) 1

pub on : (b : Bool) → T b → Is (cond b (whole (pos 1)) (whole (pos 0))) (pos 1) 1
on true u = is_whole (pos 1) 1
on false u = absurd u

module _ (x : ℕ → ℤ) (t : ℤ) (k : ℕ) where
  pub outside : (r i : ℕ) → (k < i) ⊎ (i + r < k) → Is (spline_weight x t k r i) (pos 0) 1
  unfolding spline_weight
  outside zero i h = off (eqb i k) (λ u. go h (eqb→eq i k u))
    where
      go : (k < i) ⊎ (i + 0 < k) → i ≡ k → ⊥
      go (inl l) e = omega arith
      go (inr l) e = omega arith
  outside (suc r) i h =
      is-plus-zero (is-zero-times _ (outside r i (one h)) (over-above _ _)) (is-zero-times _ (outside r (suc i) (two h)) (over-above _ _))
    where
      one : (k < i) ⊎ (i + suc r < k) → (k < i) ⊎ (i + r < k)
      one (inl l) = inl l
      one (inr l) = inr (omega arith)

      two : (k < i) ⊎ (i + suc r < k) → (k < suc i) ⊎ (suc i + r < k)
      two (inl l) = inl (omega arith)
      two (inr l) = inr (omega arith)

  module _ (n : ℕ) (s : OnSpan x t k n) where
    module _ (r j i : ℕ) (h : r < n) (l : j ≤ r) (e : i + r ≡ k + j) (f : Is (spline_weight x t k r i) (pos (portion x t k r j)) (all x t k r)) where
      low-knot : i ≡ k + j - r
      low-knot = omega arith

      high-knot : i + suc r ≡ suc (k + j)
      high-knot = omega arith

      gap_at : x (i + suc r) -ℤ x i ≡ pos (gap x t k r j)
      gap_at = ap₂ (λ (p q : ℕ). x p -ℤ x q) high-knot low-knot ∙ gap_is x t k n s r j h l

      -- a fraction of the gap, times the weight
      term : (a : ℤ) (b : ℕ) → a ≡ pos b → Is (spline_weight x t k r i *ᶠ over a (x (i + suc r) -ℤ x i)) (pos (b * scale x t k r j * portion x t k r j)) (level x t k r * all x t k r)
      term a b p =
          is-conv (ap pos (mul_comm (portion x t k r j) (b * scale x t k r j))) (ap (λ (g : ℕ). all x t k r * g) (scale-is x t k n s r j h l) ∙ mul_comm (all x t k r) (level x t k r))
          (is-times f (subst₂ (λ y z. Is (over y z) (pos b *ℤ pos (scale x t k r j)) (gap x t k r j * scale x t k r j)) (sym p) (sym gap_at) (is-over (pos b) (gap x t k r j) (scale x t k r j) (gap-pos x t k n s r j h l))))

      low-term : Is (spline_weight x t k r i *ᶠ over (t -ℤ x i) (x (i + suc r) -ℤ x i)) (pos (right x t k r j * portion x t k r j)) (level x t k r * all x t k r)
      unfolding right
      low-term = term (t -ℤ x i) (part x t k r j) (ap (λ (q : ℕ). t -ℤ x q) low-knot ∙ part-is x t k n s r j h l)

      high-term : Is (spline_weight x t k r i *ᶠ over (x (i + suc r) -ℤ t) (x (i + suc r) -ℤ x i)) (pos (left x t k r j * portion x t k r j)) (level x t k r * all x t k r)
      unfolding left
      high-term = term (x (i + suc r) -ℤ t) (rest x t k r j) (ap (λ (q : ℕ). x q -ℤ t) high-knot ∙ rest-is x t k n s r j h l)

    pub inside : (r i j : ℕ) → r ≤ n → j ≤ r → i + r ≡ k + j → Is (spline_weight x t k r i) (pos (portion x t k r j)) (all x t k r)
    unfolding spline_weight portion all
    inside zero i zero h l e = on (eqb i k) (subst (λ (q : ℕ). T (eqb q k)) same (eqb_refl k))
      where
        same : k ≡ i
        same = omega arith
    inside zero i (suc j) h l e = absurd (not-suc-le-zero l)
    inside (suc r) i zero h l e =
        is-zero-plus (is_zero (level x t k r * all x t k r) (is-zero-times _ (outside r i (inr (omega arith))) (over-above _ _)))
        (high-term r 0 (suc i) h (omega arith) (omega arith) (inside r (suc i) 0 (omega arith) (omega arith) (omega arith)))
    inside (suc r) i (suc j) h l e =
        is-plus (low-term r j i h (le_of_suc-le-suc l) (omega arith) (inside r i j (omega arith) (omega arith) (omega arith)))
        (go (dec_le (suc j) r) (λ m. inside r (suc i) (suc j) (omega arith) m (omega arith)))
      where
        go : Dec (suc j ≤ r) → (suc j ≤ r → Is (spline_weight x t k r (suc i)) (pos (portion x t k r (suc j))) (all x t k r))
            → Is (spline_weight x t k r (suc i) *ᶠ over (x (suc i + suc r) -ℤ t) (x (suc i + suc r) -ℤ x (suc i))) (pos (left x t k r (suc j) * portion x t k r (suc j))) (level x t k r * all x t k r)
        go (yes m) f = high-term r (suc j) (suc i) h m (omega arith) (f m)
        go (no m) f =
            is-conv (ap pos (sym (ap (λ (v : ℕ). left x t k r (suc j) * v) (portion-past x t k r (suc j) (omega arith)) ∙ mul-zero (left x t k r (suc j))))) refl
            (is_zero (level x t k r * all x t k r) (is-zero-times _ (outside r (suc i) (inl (omega arith))) (over-above _ _)))
