-- The exact value at j/64 of a segment, as Bernstein's parts: near what is handed out, and the other path's exact value where the step is a whole millionth.
use mathlib.Core.Path.{◌≡◌, refl, sym, ap, ◌∙◌, subst}
use mathlib.Core.Logic.{◌⊎◌, inl, inr, ⊎_elim}
use mathlib.Core.List.{List, [], ◌∷◌}
use Prim.Native.Nat.{ℕ, zero, suc, ◌+◌, ◌*◌, ◌-◌, ◌≤◌, ◌<◌}
use native.Mathlib.Nat.{mul-one, mul-le-mul_right, eq-or-lt_of_le, le_of_mul-le-mul_left, add-suc, add-zero}
use native.Mathlib.Decide.{dec_le}
use native.Mathlib.Omega.{arith}
use lib.ListN.{length}
use lib.IntN.{ℤ, pos, negsuc, nat_abs, ◌+ℤ◌, ◌-ℤ◌, ◌*ℤ◌}
use lib.Signed.{◌<ℤ◌, le_z, clash_ℤ, <ℤ-≤ℤ_trans}
use Rattle.lists.proofs.Tests.{never}
use Rattle.rounding.specs.Fractions.{Frac, whole, ◌*ᶠ◌, over, sum_to, ◌≈◌, Close}
use Rattle.rounding.proofs.Ring.{ring, K, ◌⊕◌, ◌⊝◌, ◌⊗◌, ⊖, ◌≐◌}
use Rattle.rounding.proofs.Order.{up, up_le, up-abs, up-part, lt→up, le_yes, ≤ℤ-trans, <ℤ→≤ℤ}
use Rattle.rounding.proofs.FracLaws.{Is, is-conv, is-over, is_same, sum, cancel, close-to}
use Rattle.point_exact.specs.Directions.{Direction, bezier, at, segment, chosen}
use Rattle.point_exact.specs.Rules.{BezierRules}
use Rattle.point_exact.specs.Exact.{choose, along, segment_weight, bezier_weight, weight_at, curve_exact, segment_exact}
use Rattle.point_exact.proofs.Scheme.{weigh}
use Rattle.point_exact.proofs.Bernstein.{share}
use Rattle.point_exact.proofs.Chosen.{Last, Holds, last_found, segment-holds}
use Rattle.point_exact.proofs.Samplers.{segment-is, along-is, D-above}
use Rattle.point_weights.specs.Weights.{cubic_sampled}
use Rattle.point_cubics.specs.Answers.{parameter64}
use Rattle.point_weights.proofs.Sums.{sampled-near}

-- the exact value at q of segment g, with k controls
abbrev exact_at : (k g : ℕ) (q : Frac) → (ℕ → ℤ) → Frac
exact_at k g q c = sum_to k (λ i. segment_weight q g 3 i *ᶠ whole (c i))

sixty-fourth : (j : ℕ) → Is (over (pos j) (pos 64)) (pos j) 64
sixty-fourth j = is-conv (ap pos (mul-one j)) refl (is-over (pos j) 64 1 (omega arith))

module _ (k g j : ℕ) (l : j ≤ 64) (fits : g * 3 + 3 < k) (c : ℕ → ℤ) where
  at-step : (q : Frac) → Is q (pos j) 64 → Is (exact_at k g q c) (weigh 4 (share j 64 3) (λ i. c (g * 3 + i))) 262144
  at-step q f = segment-is q j 64 l f g 3 k fits c

  pub cubic-close : Close (cubic_sampled g j c) (exact_at k g (over (pos j) (pos 64)) c) 1
  cubic-close =
      close-to (exact_at k g (over (pos j) (pos 64)) c) (weigh 4 (share j 64 3) (λ i. c (g * 3 + i))) (cubic_sampled g j c) 262144 1
      (at-step (over (pos j) (pos 64)) (sixty-fourth j)) (omega arith) (sampled-near g j c)

-- the end of a segment is the start of the next: one control
end_is : (g : ℕ) (c : ℕ → ℤ) → weigh 4 (share 64 64 3) (λ i. c (g * 3 + i)) ≡ weigh 4 (share 0 64 3) (λ i. c (suc g * 3 + i))
unfolding sum share choose
end_is g c =
    let e : g * 3 + 3 ≡ suc g * 3 + 0 = omega arith in
    ring (c (g * 3 + 0) ∷ c (g * 3 + 1) ∷ c (g * 3 + 2) ∷ c (g * 3 + 3) ∷ [])
    (λ a b d e. K (pos 0) ⊕ K (pos 0) ⊗ a ⊕ K (pos 0) ⊗ b ⊕ K (pos 0) ⊗ d ⊕ K (pos 262144) ⊗ e ≐ K (pos 262144) ⊗ e) tt
    ∙ ap (λ (i : ℕ). pos 262144 *ℤ c i) e
    ∙ ring (c (suc g * 3 + 0) ∷ c (suc g * 3 + 1) ∷ c (suc g * 3 + 2) ∷ c (suc g * 3 + 3) ∷ [])
    (λ a b d e. K (pos 262144) ⊗ a ≐ K (pos 0) ⊕ K (pos 262144) ⊗ a ⊕ K (pos 0) ⊗ b ⊕ K (pos 0) ⊗ d ⊕ K (pos 0) ⊗ e) tt

-- p parts of D are j parts of 64
ratio : {q : Frac} {p D j : ℕ} → Is q (pos p) D → 0 < D → 64 * p ≡ j * D → Is q (pos j) 64
ratio {q} {p} {D} {j} i h e = record {
  above = i.above;
  same = cancel D (q.top *ℤ pos 64) (pos j *ℤ pos q.bot) h
      (ring (q.top ∷ pos D ∷ []) (λ a d. d ⊗ (a ⊗ K (pos 64)) ≐ a ⊗ d ⊗ K (pos 64)) tt
      ∙ ap (λ z. z *ℤ pos 64) i.same
      ∙ ring (pos p ∷ pos q.bot ∷ []) (λ p b. p ⊗ b ⊗ K (pos 64) ≐ K (pos 64) ⊗ p ⊗ b) tt
      ∙ ap (λ (n : ℕ). pos n *ℤ pos q.bot) e
      ∙ ring (pos j ∷ pos D ∷ pos q.bot ∷ []) (λ j d b. j ⊗ d ⊗ b ≐ d ⊗ (j ⊗ b)) tt);
}

-- 64 times a number is not below 0, so neither is the number
pub from_zero : (z : ℤ) (m : ℕ) → pos 64 *ℤ z ≡ pos m → (z ≡ pos (nat_abs z)) × (64 * nat_abs z ≡ m)
from_zero (pos n) m e = (refl, ap nat_abs e)
from_zero (negsuc n) m e =
    absurd (none (ap nat_abs (ap (λ z. pos 64 *ℤ pos (suc n) +ℤ z) (sym e) ∙ ring (pos (suc n) ∷ []) (λ a. K (pos 64) ⊗ a ⊕ K (pos 64) ⊗ ⊖ a ≐ K (pos 0)) tt)))
  where
    none : 64 * suc n + m ≡ 0 → ⊥
    none h = omega arith

-- ---- a whole number t of millionths at j/64 of segment g
module _ {k : ℕ} {x : List ℤ} {t : ℤ} (r : BezierRules 3 k x t) (g j : ℕ) (l : j ≤ 64) (there : g + 2 ≤ length x) (step : pos 64 *ℤ t ≡ parameter64 x g j) where
  abbrev s : ℤ
  s = at x g

  abbrev e : ℤ
  e = at x (suc g)

  abbrev p : ℕ
  p = nat_abs (t -ℤ s)

  abbrev D : ℕ
  D = nat_abs (e -ℤ s)

  wide : s <ℤ e
  wide = r.rising g (omega arith)

  width : e -ℤ s ≡ pos D
  width = up-abs (lt→up wide)

  parts : (t -ℤ s ≡ pos p) × (64 * p ≡ j * D)
  parts =
      from_zero (t -ℤ s) (j * D)
      (ring (t ∷ s ∷ []) (λ t s. K (pos 64) ⊗ (t ⊝ s) ≐ K (pos 64) ⊗ t ⊝ K (pos 64) ⊗ s) tt
      ∙ ap (λ z. z -ℤ pos 64 *ℤ s) step
      ∙ ring (s ∷ pos j ∷ (e -ℤ s) ∷ []) (λ s j w. K (pos 64) ⊗ s ⊕ j ⊗ w ⊝ K (pos 64) ⊗ s ≐ j ⊗ w) tt
      ∙ ap (λ z. pos j *ℤ z) width)

  within : p ≤ D
  within = go p D parts.1 (mul-le-mul_right D l)
    where
      go : (p D : ℕ) → 64 * p ≡ j * D → j * D ≤ 64 * D → p ≤ D
      go p D a b = omega arith

  holds : Holds (at x) t g
  holds = record {
    low = up_le (record { by = p; same = ring (t ∷ s ∷ []) (λ t s. t ≐ s ⊕ (t ⊝ s)) tt ∙ ap (λ z. s +ℤ z) parts.0 });
    high = up_le (record { by = D - p; same = beyond });
    wide = wide;
  }
    where
      split : D ≡ p + (D - p)
      split = let h : p ≤ D = within in omega arith

      beyond : e ≡ t +ℤ pos (D - p)
      beyond =
          ring (e ∷ s ∷ []) (λ e s. e ≐ s ⊕ (e ⊝ s)) tt
          ∙ ap (λ z. s +ℤ z) (width ∙ ap pos split)
          ∙ ring (s ∷ pos p ∷ pos (D - p) ∷ []) (λ s p q. s ⊕ (p ⊕ q) ≐ s ⊕ p ⊕ q) tt
          ∙ ap (λ z. s +ℤ z +ℤ pos (D - p)) (sym parts.0)
          ∙ ring (t ∷ s ∷ pos (D - p) ∷ []) (λ t s q. s ⊕ (t ⊝ s) ⊕ q ≐ t ⊕ q) tt

  abbrev h : ℕ
  h = segment (at x) (length x) t

  last : Last (λ i. le_z (at x i) t) (length x - 1) h
  unfolding segment
  last = last_found (λ i. le_z (at x i) t) (length x - 1) g (omega arith) (le_yes s t holds.low)

  rising-far : (m : ℕ) → suc g + suc m < length x → e <ℤ at x (suc g + suc m)
  rising-far zero b = subst (λ (i : ℕ). e <ℤ at x i) (sym (add-suc (suc g) zero ∙ ap suc (add-zero (suc g)))) (r.rising (suc g) (omega arith))
  rising-far (suc m) b = <ℤ-≤ℤ_trans (rising-far m (omega arith)) (<ℤ→≤ℤ (subst (λ (i : ℕ). at x (suc g + suc m) <ℤ at x i) (sym (add-suc (suc g) (suc m))) (r.rising (suc g + suc m) (omega arith))))

  -- the segment chosen for t is this one, or the next where t is its start
  which : (h ≡ g) ⊎ (h ≡ suc g)
  which = go (dec_le g h)
    where
      far : suc g < h → ⊥
      far a =
          let i : suc g + suc (h - suc (suc g)) ≡ h = omega arith in
          clash_ℤ (subst (λ (i : ℕ). e <ℤ at x i) i (rising-far (h - suc (suc g)) (omega (arith, last.below)))) (≤ℤ-trans (segment-holds r).low holds.high)

      go : Dec (g ≤ h) → (h ≡ g) ⊎ (h ≡ suc g)
      go (yes a) = ⊎_elim (λ i. inl (sym i)) (λ b. ⊎_elim (λ i. inr (sym i)) (λ f. absurd (far f)) (eq-or-lt_of_le b)) (eq-or-lt_of_le a)
      go (no a) = never (sym (last.last g (omega arith) (omega arith)) ∙ le_yes s t holds.low)

  module _ (fits : (i : ℕ) → suc i < length x → i * 3 + 3 < k) (c : ℕ → ℤ) where
    abbrev q : Frac
    q = over (pos j) (pos 64)

    in-this : exact_at k g q c ≈ exact_at k g (along (at x) t g) c
    in-this =
        is_same (omega arith) (at-step k g j l (fits g (omega arith)) c q (sixty-fourth j))
        (at-step k g j l (fits g (omega arith)) c (along (at x) t g) (ratio (along-is (at x) t g holds) (D-above (at x) t g holds) parts.1))

    in-next : h ≡ suc g → exact_at k g q c ≈ exact_at k (suc g) (along (at x) t (suc g)) c
    in-next i =
        is_same (omega arith) (is-conv (at-end last_step) refl (at-step k g j l (fits g (omega arith)) c q (sixty-fourth j)))
        (at-step k (suc g) 0 (omega arith) (fits (suc g) (omega (arith, last.below))) c (along (at x) t (suc g)) (ratio (along-is (at x) t (suc g) next) (D-above (at x) t (suc g) next) none))
      where
        next : Holds (at x) t (suc g)
        next = subst (λ (i : ℕ). Holds (at x) t i) i (segment-holds r)

        same_place : nat_abs (e -ℤ e) ≡ 0
        same_place = ap nat_abs (ring (e ∷ []) (λ e. e ⊝ e ≐ K (pos 0)) tt)

        nothing : nat_abs (t -ℤ e) ≡ 0
        nothing = let a : nat_abs (t -ℤ e) ≤ nat_abs (e -ℤ e) = up-part (up next.low) (up holds.high) in omega (arith, same_place)

        none : 64 * nat_abs (t -ℤ e) ≡ 0 * nat_abs (at x (suc (suc g)) -ℤ e)
        none = rw nothing (omega arith)

        last_step : j ≡ 64
        last_step = go p D parts.1 (D-above (at x) t g holds) (up-part (lt→up wide) (up next.low)) within
          where
            go : (p D : ℕ) → 64 * p ≡ j * D → 0 < D → D ≤ p → p ≤ D → j ≡ 64
            go p D a b u v =
                let w : D * 64 ≤ D * j = omega arith in
                let m : 64 ≤ j = le_of_mul-le-mul_left w b in
                omega arith

        at-end : j ≡ 64 → weigh 4 (share j 64 3) (λ i. c (g * 3 + i)) ≡ weigh 4 (share 0 64 3) (λ i. c (suc g * 3 + i))
        at-end n = ap (λ (m : ℕ). weigh 4 (share m 64 3) (λ i. c (g * 3 + i))) n ∙ end_is g c

    abbrev cubic_direction : Direction
    cubic_direction = record { basis = bezier; degree = 3; controls = k; parameters = x }

    pub same-exact : segment_exact cubic_direction g q c ≈ curve_exact cubic_direction t c
    unfolding segment_exact curve_exact weight_at chosen bezier_weight
    same-exact =
        ⊎_elim (λ i. subst (λ (n : ℕ). exact_at k g q c ≈ exact_at k n (along (at x) t n) c) (sym i) in-this)
        (λ i. subst (λ (n : ℕ). exact_at k g q c ≈ exact_at k n (along (at x) t n) c) (sym i) (in-next i)) which
