-- Each direction that obeys the rules samples near its weights: its window holds Bernstein's parts of the segment, or Cox's and de Boor's of the span.
use mathlib.Core.Path.{◌≡◌, sym, ap, subst₂}
use mathlib.Core.Logic.{◌⊎◌, inl, inr}
use mathlib.Core.List.{List}
use Prim.Native.Nat.{ℕ, suc, ◌+◌, ◌*◌, ◌-◌, ◌^◌, ◌≤◌, ◌<◌}
use native.Mathlib.Nat.{le_refl, mul-le-mul_right, mul-one}
use native.Mathlib.Omega.{arith}
use borrow.Author.Tests.{le-leb, lt-leb}
use lib.Dec.{leb}
use lib.ListN.{length}
use lib.IntN.{ℤ, pos, nat_abs, ◌-ℤ◌}
use Rattle.rounding.specs.Fractions.{Frac, whole, ◌*ᶠ◌, over, sum_to}
use Rattle.rounding.proofs.Order.{up, up-refl, up-trans, up-abs, up-wide, up-part}
use Rattle.rounding.proofs.FracLaws.{Is, is-conv, is_whole, is-over}
use Rattle.lists.proofs.Tests.{and_second}
use Rattle.point_exact.specs.Directions.{PointBasis, bezier, bspline, Direction, at, segment, span, chosen}
use Rattle.point_exact.specs.Rules.{BezierRules, SplineRules, Rules}
use Rattle.point_exact.specs.Exact.{along, segment_weight, bezier_weight, spline_weight, weight_at}
use Rattle.point_exact.specs.Sampled.{pyramid, low_at, high_at, offset_at, gap_at, first_control, curve_sampled}
use Rattle.point_exact.proofs.Chosen.{Holds, segment-below, segment-holds, span_below, span-from, span-holds}
use Rattle.point_exact.proofs.Bernstein.{share, casteljau-near, power-above, bernstein-is}
use Rattle.point_exact.proofs.SplineScheme.{OnSpan, part, gap, part-le, gap-pos, portion, all, all_above, near}
use Rattle.point_exact.proofs.SplineWeights.{outside, inside}
use Rattle.point_exact.proofs.Scheme.{weigh}
use Rattle.point_exact.proofs.Weights.{Sampler, window-is, window-sampler}

-- ---- Bezier: at q of segment g, which is p parts of D
module _ (q : Frac) (p D : ℕ) (l : p ≤ D) (f : Is q (pos p) D) (g : ℕ) where
  in-segment : (n j : ℕ) → j ≤ n → Is (segment_weight q g n (g * n + j)) (pos (share p D n j)) (D ^ n)
  unfolding segment_weight
  in-segment n j h =
      let e : g * n + j - g * n ≡ j = omega arith in
      rw (le-leb (g * n) (g * n + j) (omega arith), le-leb (g * n + j) (g * n + n) (omega arith), e) (bernstein-is q p D l f n j h)

  off-segment : (n i : ℕ) → (i < g * n) ⊎ (g * n + n < i) → Is (segment_weight q g n i) (pos 0) 1
  unfolding segment_weight
  off-segment n i (inl h) = rw (lt-leb (g * n) i h) (is_whole (pos 0) 1)
  off-segment n i (inr h) = rw (and_second (leb (g * n) i) (lt-leb i (g * n + n) h)) (is_whole (pos 0) 1)

  -- the exact value there is the sum of the segment's controls by Bernstein's parts
  pub segment-is : (n k : ℕ) → g * n + n < k → (c : ℕ → ℤ)
      → Is (sum_to k (λ i. segment_weight q g n i *ᶠ whole (c i))) (weigh (suc n) (share p D n) (λ j. c (g * n + j))) (D ^ n)
  segment-is n k h c = window-is k (g * n) n (segment_weight q g n) (share p D n) (D ^ n) h (in-segment n) (off-segment n) c

-- segment g, on which t is p parts of D
module _ (x : ℕ → ℤ) (t : ℤ) (g : ℕ) (h : Holds x t g) where
  abbrev p : ℕ
  p = nat_abs (t -ℤ x g)

  abbrev D : ℕ
  D = nat_abs (x (suc g) -ℤ x g)

  pub D-above : 0 < D
  D-above = up-wide (up-refl (x g)) h.wide (up-refl (x (suc g)))

  pub p-within : p ≤ D
  p-within = up-part (up h.low) (up h.high)

  pub along-is : Is (along x t g) (pos p) D
  unfolding along
  along-is =
      subst₂ (λ a b. Is (over a b) (pos p) D) (sym (up-abs (up h.low))) (sym (up-abs {a = x g} {b = x (suc g)} (up-trans (up h.low) (up h.high))))
      (is-conv (ap pos (mul-one p)) (mul-one D) (is-over (pos p) D 1 D-above))

  segment-sampler : (n k : ℕ) → g * n + n < k → Sampler k (bezier_weight x t g n) n (λ c. pyramid (λ r j. p) (λ r j. D) n (λ j. c (g * n + j)))
  unfolding bezier_weight
  segment-sampler n k l =
      window-sampler k (g * n) n (segment_weight (along x t g) g n) (share p D n) (D ^ n) l
      (in-segment (along x t g) p D p-within along-is g n) (off-segment (along x t g) p D p-within along-is g n)
      (pyramid (λ r j. p) (λ r j. D) n) (power-above D n D-above) (casteljau-near p D D-above p-within n)

pub segment-controls : {n k : ℕ} {x : List ℤ} {t : ℤ} → BezierRules n k x t → segment (at x) (length x) t * n + n < k
segment-controls {n} {k} {x} {t} r =
    go (segment (at x) (length x) t) (length x - 1) (mul-le-mul_right n (omega (arith, segment-below r))) r.count
  where
    go : (g q : ℕ) → suc g * n ≤ q * n → k ≡ n * q + 1 → g * n + n < k
    go g q h e = omega arith

-- ---- B-spline: span s, with controls s - n to s
pub span-on : {n k : ℕ} {x : List ℤ} {t : ℤ} → SplineRules n k x t → OnSpan (at x) t (span (at x) n k t) n
span-on r = record { rising = λ i l. r.rising i (omega (arith, r.count, span_below r)); holds = span-holds r; deep = span-from r }

module _ (x : ℕ → ℤ) (t : ℤ) (s n : ℕ) (o : OnSpan x t s n) where
  in_span : (j : ℕ) → j ≤ n → Is (spline_weight x t s n (s - n + j)) (pos (portion x t s n j)) (all x t s n)
  in_span j l = let d : n ≤ s = o.deep in inside x t s n o n (s - n + j) j (le_refl n) l (omega arith)

  off-span : (i : ℕ) → (i < s - n) ⊎ (s - n + n < i) → Is (spline_weight x t s n i) (pos 0) 1
  off-span i (inl l) = outside x t s n i (inr (omega arith))
  off-span i (inr l) = let d : n ≤ s = o.deep in outside x t s n i (inl (omega arith))

  span-sampler : (k : ℕ) → s - n + n < k → Sampler k (spline_weight x t s n) n (λ c. pyramid (part x t s) (gap x t s) n (λ j. c (s - n + j)))
  span-sampler k l =
      window-sampler k (s - n) n (spline_weight x t s n) (portion x t s n) (all x t s n) l in_span off-span
      (pyramid (part x t s) (gap x t s) n) (all_above x t s n o n (le_refl n)) (near x t s n o n (le_refl n))

pub span-controls : {n k : ℕ} {x : List ℤ} {t : ℤ} → SplineRules n k x t → span (at x) n k t - n + n < k
span-controls r = omega (arith, span_below r, span-from r)

-- ---- either
sampler-of : (b : PointBasis) (n k : ℕ) (x : List ℤ) (t : ℤ) → (let d : Direction = record { basis = b; degree = n; controls = k; parameters = x } in
    Rules d t → Sampler k (weight_at d t) n (curve_sampled d t))
unfolding Rules weight_at curve_sampled offset_at gap_at low_at high_at first_control chosen
sampler-of bezier n k x t r = segment-sampler (at x) t (segment (at x) (length x) t) (segment-holds r) n k (segment-controls r)
sampler-of bspline n k x t r = span-sampler (at x) t (span (at x) n k t) n (span-on r) k (span-controls r)

pub sampler : (d : Direction) (t : ℤ) → Rules d t → Sampler d.controls (weight_at d t) d.degree (curve_sampled d t)
sampler d t r = sampler-of d.basis d.degree d.controls d.parameters t r

-- the n + 1 controls that a point is made from are there
controls-of : (b : PointBasis) (n k : ℕ) (x : List ℤ) (t : ℤ) → (let d : Direction = record { basis = b; degree = n; controls = k; parameters = x } in
    Rules d t → first_control d t + n < k)
unfolding Rules first_control chosen
controls-of bezier n k x t r = segment-controls r
controls-of bspline n k x t r = span-controls r

pub controls-there : (d : Direction) (t : ℤ) → Rules d t → first_control d t + d.degree < d.controls
controls-there d t r = controls-of d.basis d.degree d.controls d.parameters t r

-- every step is at p parts of D, p at most D and D above 0
parts-of : (b : PointBasis) (n k : ℕ) (x : List ℤ) (t : ℤ) → (let d : Direction = record { basis = b; degree = n; controls = k; parameters = x } in
    Rules d t → (r j : ℕ) → r < n → j ≤ r → (offset_at d t r j ≤ gap_at d t r j) × (0 < gap_at d t r j))
unfolding Rules offset_at gap_at low_at high_at chosen
parts-of bezier n k x t o r j h l =
    (p-within (at x) t (segment (at x) (length x) t) (segment-holds o), D-above (at x) t (segment (at x) (length x) t) (segment-holds o))
parts-of bspline n k x t o r j h l =
    (part-le (at x) t (span (at x) n k t) n (span-on o) r j h l, gap-pos (at x) t (span (at x) n k t) n (span-on o) r j h l)

pub step-parts : (d : Direction) (t : ℤ) → Rules d t → (r j : ℕ) → r < d.degree → j ≤ r → (offset_at d t r j ≤ gap_at d t r j) × (0 < gap_at d t r j)
step-parts d t o r j h l = parts-of d.basis d.degree d.controls d.parameters t o r j h l
