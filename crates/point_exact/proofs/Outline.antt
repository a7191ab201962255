-- Q-8: no step leaves the range of the two numbers that it is made from; at either end of a segment each step keeps one of them.
use mathlib.Core.Path.{◌≡◌, refl, sym, ap, ◌∙◌, subst}
use mathlib.Core.Bool.{Bool, true, false, cond}
use mathlib.Core.Logic.{◌⊎◌, inl, inr}
use mathlib.Core.List.{List, [], ◌∷◌}
use Prim.Native.Nat.{ℕ, zero, suc, ◌+◌, ◌*◌, ◌-◌, ◌≤◌, ◌<◌}
use native.Mathlib.Nat.{eq-or-lt_of_le, le_of_suc-le-suc, add-zero}
use native.Mathlib.Decide.{dec_le}
use native.Mathlib.Omega.{arith}
use lib.ListN.{length}
use lib.IntN.{ℤ, pos, nat_abs, ◌-ℤ◌}
use lib.Signed.{◌≤ℤ◌, ◌<ℤ◌, le_z, ≤ℤ_refl, clash_ℤ}
use Rattle.rounding.specs.Round.{between}
use Rattle.rounding.proofs.Order.{yes_le, not-upto, ≤ℤ-trans, ≤ℤ-<ℤ-trans, <ℤ→≤ℤ}
use Rattle.rounding.proofs.Ring.{ring, K, ◌⊝◌, ◌≐◌}
use Rattle.rounding.proofs.Rounding.{between_start, between-end}
use Rattle.lists.proofs.Tests.{never}
use Rattle.point_exact.specs.Directions.{PointBasis, bezier, bspline, by, Direction, at, segment, chosen}
use Rattle.point_exact.specs.Rules.{BezierRules, Rules}
use Rattle.point_exact.specs.Sampled.{pyramid, low_at, high_at, offset_at, gap_at, first_control, curve_sampled, surface_sampled}
use Rattle.point_exact.specs.Outline.{extreme, least, greatest, starting_row, starting_grid, AtParameter}
use Rattle.point_exact.specs.Near.{CurveWithin, SurfaceWithin, CurveEnds, SurfaceEnds}
use Rattle.point_exact.proofs.Chosen.{Holds, segment-below, segment-holds}
use Rattle.point_exact.proofs.Samplers.{D-above}
use Rattle.point_exact.proofs.Within.{curve-above, curve-below, surface-above, surface-below}

-- ---- the least and the greatest: of an order R that a test decides, the extreme is before every other
module _ (before : ℤ → ℤ → Bool) (R : ℤ → ℤ → Type 0) (same : (a : ℤ) → R a a) (on : (a b c : ℤ) → R a b → R b c → R a c)
    (yes : (a b : ℤ) → before a b ≡ true → R a b) (no : (a b : ℤ) → before a b ≡ false → R b a) where
  extreme-first : (n : ℕ) (f : ℕ → ℤ) (j : ℕ) → j ≤ n → R (extreme before n f) (f j)
  unfolding extreme
  extreme-first zero f j h = let e : j ≡ 0 = omega arith in rw e (same (f 0))
  extreme-first (suc n) f j h = go (before (extreme before n f) (f (suc n))) refl (λ l. extreme-first n f j l) (eq-or-lt_of_le h)
    where
      go : (q : Bool) → before (extreme before n f) (f (suc n)) ≡ q → (j ≤ n → R (extreme before n f) (f j)) → (j ≡ suc n) ⊎ (j < suc n)
          → R (cond q (extreme before n f) (f (suc n))) (f j)
      go true e k (inl s) = rw s (yes (extreme before n f) (f (suc n)) e)
      go true e k (inr l) = k (le_of_suc-le-suc l)
      go false e k (inl s) = rw s (same (f (suc n)))
      go false e k (inr l) = on (f (suc n)) (extreme before n f) (f j) (no (extreme before n f) (f (suc n)) e) (k (le_of_suc-le-suc l))

pub least-le : (n : ℕ) (f : ℕ → ℤ) (j : ℕ) → j ≤ n → least n f ≤ℤ f j
least-le = extreme-first (λ a b. le_z a b) (λ a b. a ≤ℤ b) ≤ℤ_refl (λ a b c h k. ≤ℤ-trans h k) yes_le (λ a b e. <ℤ→≤ℤ (not-upto a b e))

pub greatest-ge : (n : ℕ) (f : ℕ → ℤ) (j : ℕ) → j ≤ n → f j ≤ℤ greatest n f
greatest-ge = extreme-first (λ a b. le_z b a) (λ a b. b ≤ℤ a) ≤ℤ_refl (λ a b c h k. ≤ℤ-trans k h) (λ a b e. yes_le b a e) (λ a b e. <ℤ→≤ℤ (not-upto b a e))

-- ---- within the outline
pub curve-within : CurveWithin
curve-within d t o c = record {
  low = curve-above d t o c (least-le d.degree (starting_row d t c));
  high = curve-below d t o c (greatest-ge d.degree (starting_row d t c));
}

pub surface-within : SurfaceWithin
surface-within u v s t a b c = record {
  low = surface-above u v s t a b c (λ i j k l. ≤ℤ-trans (least-le v.degree (λ j. least u.degree (λ i. f i j)) j l) (least-le u.degree (λ i. f i j) i k));
  high = surface-below u v s t a b c (λ i j k l. ≤ℤ-trans (greatest-ge u.degree (λ i. f i j) i k) (greatest-ge v.degree (λ j. greatest u.degree (λ i. f i j)) j l));
}
  where
    f : ℕ → ℕ → ℤ
    f = starting_grid u v s t c

-- ---- exact at the ends of a segment: where every step takes its first number, the first is left; where every step takes its second, the last
module _ (p g : ℕ → ℕ → ℕ) (n : ℕ) (wide : (r j : ℕ) → r < n → j ≤ r → 0 < g r j) where
  first-left : ((r j : ℕ) → r < n → j ≤ r → p r j ≡ 0) → (r : ℕ) (c : ℕ → ℤ) → r ≤ n → pyramid p g r c ≡ c 0
  unfolding pyramid
  first-left e zero c h = refl
  first-left e (suc r) c h =
      first-left e r (λ j. between (c j) (c (suc j)) (p r j) (g r j)) (omega arith)
      ∙ ap (λ (q : ℕ). between (c 0) (c 1) q (g r 0)) (e r 0 h (omega arith)) ∙ between_start (c 0) (c 1) (g r 0) (wide r 0 h (omega arith))

  last-left : ((r j : ℕ) → r < n → j ≤ r → p r j ≡ g r j) → (r : ℕ) (c : ℕ → ℤ) → r ≤ n → pyramid p g r c ≡ c r
  unfolding pyramid
  last-left e zero c h = refl
  last-left e (suc r) c h =
      last-left e r (λ j. between (c j) (c (suc j)) (p r j) (g r j)) (omega arith)
      ∙ ap (λ (q : ℕ). between (c r) (c (suc r)) q (g r r)) (e r r h (omega arith)) ∙ between-end (c r) (c (suc r)) (g r r) (wide r r h (omega arith))

at_most : (a b : ℕ) → (b < a → ⊥) → a ≤ b
at_most a b h = go (dec_le a b)
  where
    go : Dec (a ≤ b) → a ≤ b
    go (yes l) = l
    go (no l) = absurd (h (omega arith))

module _ {n k : ℕ} {x : List ℤ} {t : ℤ} (o : BezierRules n k x t) (g : ℕ) (some : g < length x) (there : t ≡ at x g) where
  abbrev s : ℕ
  s = segment (at x) (length x) t

  -- parameters strictly increase, so that a later one is above
  rises : (i m : ℕ) → i + suc m < length x → at x i <ℤ at x (i + suc m)
  rises i zero h = let e : i + 1 ≡ suc i = omega arith in rw e (o.rising i (omega arith))
  rises i (suc m) h =
      let e : i + suc (suc m) ≡ suc (i + suc m) = omega arith in
      rw e (≤ℤ-<ℤ-trans (<ℤ→≤ℤ (rises i m (omega arith))) (o.rising (i + suc m) (omega arith)))

  above : (i j : ℕ) → i < j → j < length x → at x i <ℤ at x j
  above i j h l = let e : i + suc (j - suc i) ≡ j = omega arith in subst (λ (q : ℕ). at x i <ℤ at x q) e (rises i (j - suc i) (omega arith))

  -- t, which is parameter g, stands at the chosen segment's start or end
  either : (g ≡ s) ⊎ (g ≡ suc s)
  either = go (eq-or-lt_of_le from)
    where
      h : Holds (at x) (at x g) s
      h = subst (λ (q : ℤ). Holds (at x) q s) there (segment-holds o)

      from : s ≤ g
      from = at_most s g (λ l. clash_ℤ (above g s l (omega (arith, segment-below o))) h.low)

      upto : g ≤ suc s
      upto = at_most g (suc s) (λ l. clash_ℤ (above (suc s) g l some) h.high)

      go : (s ≡ g) ⊎ (s < g) → (g ≡ s) ⊎ (g ≡ suc s)
      go (inl e) = inl (sym e)
      go (inr l) = let u : g ≤ suc s = upto in inr (omega arith)

  -- the parts and gaps of a segment are the same at every step
  abbrev p : ℕ
  p = nat_abs (t -ℤ at x s)

  abbrev D : ℕ
  D = nat_abs (at x (suc s) -ℤ at x s)

  wide : 0 < D
  wide = D-above (at x) t s (segment-holds o)

  segment-end : (c : ℕ → ℤ) → pyramid (λ r j. p) (λ r j. D) n (λ j. c (s * n + j)) ≡ c (g * n)
  segment-end c = go either
    where
      go : (g ≡ s) ⊎ (g ≡ suc s) → pyramid (λ r j. p) (λ r j. D) n (λ j. c (s * n + j)) ≡ c (g * n)
      go (inl e) =
          let z : p ≡ 0 = ap (λ (q : ℤ). nat_abs (q -ℤ at x s)) (there ∙ ap (at x) e) ∙ ap nat_abs (ring (at x s ∷ []) (λ a. a ⊝ a ≐ K (pos 0)) tt) in
          first-left (λ r j. p) (λ r j. D) n (λ r j h l. wide) (λ r j h l. z) n (λ j. c (s * n + j)) (omega arith)
          ∙ ap c (add-zero (s * n) ∙ ap (λ (q : ℕ). q * n) (sym e))
      go (inr e) =
          let z : p ≡ D = ap (λ (q : ℤ). nat_abs (q -ℤ at x s)) (there ∙ ap (at x) e) in
          let m : s * n + n ≡ g * n = rw e (omega arith) in
          last-left (λ r j. p) (λ r j. D) n (λ r j h l. wide) (λ r j h l. z) n (λ j. c (s * n + j)) (omega arith) ∙ ap c m

curve-end-of : (b : PointBasis) (n k : ℕ) (x : List ℤ) (t : ℤ) → (let d : Direction = record { basis = b; degree = n; controls = k; parameters = x } in
    Rules d t → (g : ℕ) → AtParameter d t g → (c : ℕ → ℤ) → curve_sampled d t c ≡ c (g * n))
unfolding Rules curve_sampled offset_at gap_at low_at high_at first_control chosen
curve-end-of bezier n k x t o g a c = segment-end o g a.some a.there c
curve-end-of bspline n k x t o g a c = never (ap (λ (q : PointBasis). by q true false) a.type)

pub curve-ends : CurveEnds
curve-ends d t o g a c = curve-end-of d.basis d.degree d.controls d.parameters t o g a c

pub surface-ends : SurfaceEnds
unfolding surface_sampled
surface-ends u v s t a b g h i j c = curve-ends v t b h j (λ j. curve_sampled u s (λ i. c i j)) ∙ curve-ends u s a g i (λ i. c i (h * v.degree))
