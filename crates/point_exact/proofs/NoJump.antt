-- Why 02, Q-5 asks that an inner knot stands at most n times: there the span before it and the one after it give the same exact value, so the curve does not jump.
use mathlib.Core.Path.{◌≡◌, refl, sym, ◌∙◌, ap, ap₂, subst, subst₂}
use mathlib.Core.List.{[], ◌∷◌}
use mathlib.Core.Bool.{true, false}
use mathlib.Core.Logic.{⊎_elim}
use Prim.Native.Nat.{ℕ, zero, suc, ◌+◌, ◌*◌, ◌-◌, ◌≤◌, ◌<◌}
use native.Mathlib.Nat.{mul-pos, mul_comm, zero-lt-suc, not-suc-le-zero}
use native.Mathlib.Omega.{arith}
use borrow.Author.Tests.{eqb-true, eqb-false}
use lib.Dec.{T, eqb, eqb_refl, eqb→eq}
use lib.IntN.{ℤ, pos, negsuc, ◌+ℤ◌, ◌-ℤ◌, ◌*ℤ◌}
use lib.Signed.{◌<ℤ◌}
use Rattle.lists.proofs.Tests.{test}
use Rattle.rounding.specs.Fractions.{Frac, whole, ◌+ᶠ◌, ◌*ᶠ◌, over, sum_to, ◌≈◌}
use Rattle.rounding.proofs.Order.{lt→up, lt_up}
use Rattle.rounding.proofs.Ring.{ring, K, ◌⊕◌, ◌⊝◌, ◌⊗◌, ◌≐◌}
use Rattle.rounding.proofs.FracLaws.{Is, is-conv, is_whole, is-plus, is-times, over-above, is-zero-times, is-plus-zero, is-zero-plus, is_same}
use Rattle.point_exact.specs.Exact.{spline_weight}
use Rattle.point_exact.proofs.SplineWeights.{on, off}

-- ---- two fractions that are one number
record Same (f g : Frac) : Type 0 where
  number : ℤ
  parts : ℕ
  some : 0 < parts
  one : Is f number parts
  two : Is g number parts

itself : (f : Frac) → 0 < f.bot → Is f f.top f.bot
itself f h = record { above = h; same = refl }

in_parts : {f : Frac} {z : ℤ} {Q : ℕ} (k : ℕ) → Is f z Q → Is f (z *ℤ pos k) (Q * k)
in_parts {f} {z} {Q} k h = record {
  above = h.above;
  same =
      ring (f.top ∷ pos Q ∷ pos k ∷ []) (λ a q k. a ⊗ (q ⊗ k) ≐ a ⊗ q ⊗ k) tt
      ∙ ap (λ y. y *ℤ pos k) h.same
      ∙ ring (z ∷ pos f.bot ∷ pos k ∷ []) (λ z b k. z ⊗ b ⊗ k ≐ z ⊗ k ⊗ b) tt;
}

same-times : {f g : Frac} (o : Frac) → 0 < o.bot → Same f g → Same (f *ᶠ o) (g *ᶠ o)
same-times o h s = record {
  number = s.number *ℤ o.top;
  parts = s.parts * o.bot;
  some = mul-pos s.some h;
  one = is-times s.one (itself o h);
  two = is-times s.two (itself o h);
}

same-plus : {f g d e : Frac} → Same f g → Same d e → Same (f +ᶠ d) (g +ᶠ e)
same-plus s u = record {
  number = s.number *ℤ pos u.parts +ℤ u.number *ℤ pos s.parts;
  parts = s.parts * u.parts;
  some = mul-pos s.some u.some;
  one = is-plus (in_parts u.parts s.one) (is-conv refl (mul_comm u.parts s.parts) (in_parts s.parts u.one));
  two = is-plus (in_parts u.parts s.two) (is-conv refl (mul_comm u.parts s.parts) (in_parts s.parts u.two));
}

same_sum : (k : ℕ) (f g : ℕ → Frac) → ((i : ℕ) → Same (f i) (g i)) → Same (sum_to k f) (sum_to k g)
unfolding sum_to
same_sum zero f g h = record { number = pos 0; parts = 1; some = zero-lt-suc 0; one = is_whole (pos 0) 1; two = is_whole (pos 0) 1 }
same_sum (suc k) f g h = same-plus (same_sum k f g h) (h k)

whole_above : (z : ℤ) → 0 < (whole z).bot
unfolding whole
whole_above z = zero-lt-suc 0

-- ---- 1 and 0
one-over : (d : ℕ) → 0 < d → Is (over (pos d) (pos d)) (pos 1) 1
unfolding over
one-over zero h = absurd (not-suc-le-zero h)
one-over (suc d) h = record { above = zero-lt-suc d; same = ring (pos (suc d) ∷ []) (λ d. d ⊗ K (pos 1) ≐ K (pos 1) ⊗ d) tt }

zero-over : (d : ℤ) → Is (over (pos 0) d) (pos 0) 1
unfolding over
zero-over (pos zero) = record { above = zero-lt-suc 0; same = refl }
zero-over (pos (suc d)) = record { above = zero-lt-suc d; same = ring (pos (suc d) ∷ []) (λ d. K (pos 0) ⊗ K (pos 1) ≐ K (pos 0) ⊗ d) tt }
zero-over (negsuc d) = record { above = zero-lt-suc d; same = ring (pos (suc d) ∷ []) (λ d. K (pos 0) ⊗ K (pos 1) ≐ K (pos 0) ⊗ d) tt }

times-over : {f : Frac} {y z : ℤ} (d : ℕ) → 0 < d → y ≡ pos d → z ≡ pos d → Is f (pos 1) 1 → Is (f *ᶠ over y z) (pos 1) 1
times-over d h p q f = is-conv refl refl (is-times f (subst₂ (λ (y z : ℤ). Is (over y z) (pos 1) 1) (sym p) (sym q) (one-over d h)))

times_none : {f : Frac} {y : ℤ} (z : ℤ) → y ≡ pos 0 → Is f (pos 1) 1 → Is (f *ᶠ over y z) (pos 0) 1
times_none z p f = is-conv refl refl (is-times f (subst (λ (y : ℤ). Is (over y z) (pos 0) 1) (sym p) (zero-over z)))

gap : {y z : ℤ} (h : y <ℤ z) → z -ℤ y ≡ pos (lt→up h).by
gap {y} h = ap (λ z. z -ℤ y) (lt→up h).same ∙ ring (y ∷ pos (lt→up h).by ∷ []) (λ y n. y ⊕ n ⊝ y ≐ n) tt

none : (y : ℤ) → y -ℤ y ≡ pos 0
none y = ring (y ∷ []) (λ y. y ⊝ y ≐ K (pos 0)) tt

-- ---- t is a knot that stands m times, after knot a
module _ (x : ℕ → ℤ) (t : ℤ) (a m : ℕ) (before : x a <ℤ t) (stands : (j : ℕ) → 1 ≤ j → j ≤ m → x (a + j) ≡ t) (after : t <ℤ x (suc (a + m))) where
  -- the span before it: up to degree m control a weighs 1
  from-left : (r : ℕ) → r ≤ m → Is (spline_weight x t a r a) (pos 1) 1 × ((i : ℕ) → (i ≡ a → ⊥) → Is (spline_weight x t a r i) (pos 0) 1)
  unfolding spline_weight
  from-left zero h = (on (eqb a a) (eqb_refl a), λ i f. off (eqb i a) (λ u. f (eqb→eq i a u)))
  from-left (suc r) h =
      let below = from-left r (omega arith) in
      let here = stands (suc r) (omega arith) h in (
        is-plus-zero
            (times-over (lt→up before).by (lt_up before (lt→up before)) (gap before) (ap (λ z. z -ℤ x a) here ∙ gap before) below.0)
            (is-zero-times _ (below.1 (suc a) (λ e. absurd (omega arith))) (over-above _ _)),
        λ i f.
            is-plus-zero
            (is-zero-times _ (below.1 i f) (over-above _ _))
            (⊎_elim
            (λ (e : eqb (suc i) a ≡ true).
            let k = eqb-true (suc i) a e in
            times_none _ (ap (λ (q : ℕ). x (q + suc r) -ℤ t) k ∙ ap (λ z. z -ℤ t) here ∙ none t) (subst (λ (q : ℕ). Is (spline_weight x t a r q) (pos 1) 1) (sym k) below.0))
            (λ (e : eqb (suc i) a ≡ false). is-zero-times _ (below.1 (suc i) (eqb-false (suc i) a e)) (over-above _ _))
            (test (eqb (suc i) a))),
      )

  -- the span after it: up to degree m control a + m - r weighs 1
  from-right : (r : ℕ) → r ≤ m
      → ((i : ℕ) → i + r ≡ a + m → Is (spline_weight x t (a + m) r i) (pos 1) 1) × ((i : ℕ) → (i + r ≡ a + m → ⊥) → Is (spline_weight x t (a + m) r i) (pos 0) 1)
  unfolding spline_weight
  from-right zero h = (
    (λ i e. let k : a + m ≡ i = omega arith in on (eqb i (a + m)) (subst (λ (q : ℕ). T (eqb q (a + m))) k (eqb_refl (a + m)))),
    (λ i f. off (eqb i (a + m)) (λ u. f (let k = eqb→eq i (a + m) u in omega arith))),
  )
  from-right (suc r) h =
      let below = from-right r (omega arith) in
      let here = stands (m - r) (omega arith) (omega arith) in (
        λ i e.
            let k : suc i ≡ a + (m - r) = omega arith in
            let l : suc i + suc r ≡ suc (a + m) = omega arith in
            is-zero-plus
            (is-zero-times _ (below.1 i (λ f. absurd (omega arith))) (over-above _ _))
            (times-over (lt→up after).by (lt_up after (lt→up after)) (ap (λ (q : ℕ). x q -ℤ t) l ∙ gap after) (ap₂ (λ (p q : ℕ). x p -ℤ x q) l k ∙ ap (λ z. x (suc (a + m)) -ℤ z) here ∙ gap after) (below.0 (suc i) (omega arith))),
        λ i f.
            is-plus-zero
            (⊎_elim
            (λ (e : eqb (i + r) (a + m) ≡ true).
            let g = eqb-true (i + r) (a + m) e in
            let k : i ≡ a + (m - r) = omega arith in
            times_none _ (ap (λ (q : ℕ). t -ℤ x q) k ∙ ap (λ z. t -ℤ z) here ∙ none t) (below.0 i g))
            (λ (e : eqb (i + r) (a + m) ≡ false). is-zero-times _ (below.1 i (eqb-false (i + r) (a + m) e)) (over-above _ _))
            (test (eqb (i + r) (a + m))))
            (is-zero-times _ (below.1 (suc i) (λ e. f (omega arith))) (over-above _ _)),
      )

  meet : (i : ℕ) → Same (spline_weight x t a m i) (spline_weight x t (a + m) m i)
  meet i =
      let l = from-left m (omega arith) in
      let r = from-right m (omega arith) in
      ⊎_elim
      (λ (e : eqb i a ≡ true).
      let k = eqb-true i a e in
      record { number = pos 1; parts = 1; some = zero-lt-suc 0; one = subst (λ (q : ℕ). Is (spline_weight x t a m q) (pos 1) 1) (sym k) l.0; two = r.0 i (omega arith) })
      (λ (e : eqb i a ≡ false).
      let k = eqb-false i a e in
      record { number = pos 0; parts = 1; some = zero-lt-suc 0; one = l.1 i k; two = r.1 i (λ f. k (omega arith)) })
      (test (eqb i a))

  same-weight : (n i : ℕ) → m ≤ n → Same (spline_weight x t a n i) (spline_weight x t (a + m) n i)
  unfolding spline_weight
  same-weight zero i h = let e : m ≡ 0 = omega arith in subst (λ (q : ℕ). Same (spline_weight x t a q i) (spline_weight x t (a + m) q i)) e (meet i)
  same-weight (suc n) i h =
      ⊎_elim
      (λ (e : eqb m (suc n) ≡ true). subst (λ (q : ℕ). Same (spline_weight x t a q i) (spline_weight x t (a + m) q i)) (eqb-true m (suc n) e) (meet i))
      (λ (e : eqb m (suc n) ≡ false).
      let f = eqb-false m (suc n) e in
      let k : m ≤ n = omega arith in
      same-plus (same-times _ (over-above _ _) (same-weight n i k)) (same-times _ (over-above _ _) (same-weight n (suc i) k)))
      (test (eqb m (suc n)))

  pub no_jump :
      (n k : ℕ) (c : ℕ → ℤ) → m ≤ n →
      sum_to k (λ i. spline_weight x t a n i *ᶠ whole (c i)) ≈ sum_to k (λ i. spline_weight x t (a + m) n i *ᶠ whole (c i))
  no_jump n k c h =
      let s = same_sum k (λ i. spline_weight x t a n i *ᶠ whole (c i)) (λ i. spline_weight x t (a + m) n i *ᶠ whole (c i)) (λ i. same-times (whole (c i)) (whole_above (c i)) (same-weight n i h)) in
      is_same s.some s.one s.two
