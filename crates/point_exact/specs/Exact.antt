-- Must be believed: a promise reaches every definition of this file.
-- 01, "How a point is made": "The exact value at t is a fraction", from the controls and the parameters alone, "and rounded nowhere".
use Rattle.std.specs.Prelude.{cond, ◌&&◌, ℕ, zero, suc, ◌+◌, ◌*◌, ◌-◌, leb, eqb, ℤ, pos, ◌-ℤ◌}
use Rattle.rounding.specs.Fractions.{Frac, whole, ◌+ᶠ◌, ◌-ᶠ◌, ◌*ᶠ◌, power, over, sum_to}
use Rattle.point_exact.specs.Directions.{Direction, by, at, chosen}

-- "C(n,i) being the binomial number", by Pascal's triangle
unfoldable pub choose : ℕ → ℕ → ℕ
choose n zero = 1
choose zero (suc i) = 0
choose (suc n) (suc i) = choose n i + choose n (suc i)

-- "In the segment chosen .. from s to e, with q = (t-s)/(e-s)"
unfoldable pub along : (x : ℕ → ℤ) (t : ℤ) (g : ℕ) → Frac
along x t g = over (t -ℤ x g) (x (suc g) -ℤ x g)

-- "its control i (0..n) weighs C(n,i) q^i (1-q)^(n-i)"
unfoldable pub bernstein : (q : Frac) (n i : ℕ) → Frac
bernstein q n i = whole (pos (choose n i)) *ᶠ power q i *ᶠ power (whole (pos 1) -ᶠ q) (n - i)

-- at q of segment g: "segment g .. has controls gn to gn+n"; "controls outside it weigh 0"
unfoldable pub segment_weight : (q : Frac) (g n i : ℕ) → Frac
segment_weight q g n i =
    cond (leb (g * n) i && leb i (g * n + n)) (bernstein q n (i - g * n)) (whole (pos 0))

unfoldable pub bezier_weight : (x : ℕ → ℤ) (t : ℤ) (g n i : ℕ) → Frac
bezier_weight x t g n i = segment_weight (along x t g) g n i

-- `spline_weight x t s r i` is N(i,r). "N(i,0) is 1 where x_i to x_(i+1) is the span chosen above for t, else 0. N(i,r) is N(i,r-1)(t-x_i)/(x_(i+r)-x_i)
-- plus N(i+1,r-1)(x_(i+r+1)-t)/(x_(i+r+1)-x_(i+1)); of these two, one whose divisor is 0 counts as 0."
unfoldable pub spline_weight : (x : ℕ → ℤ) (t : ℤ) (s r i : ℕ) → Frac
spline_weight x t s zero i = cond (eqb i s) (whole (pos 1)) (whole (pos 0))
spline_weight x t s (suc r) i =
    spline_weight x t s r i *ᶠ over (t -ℤ x i) (x (i + suc r) -ℤ x i)
    +ᶠ spline_weight x t s r (suc i) *ᶠ over (x (suc i + suc r) -ℤ t) (x (suc i + suc r) -ℤ x (suc i))

-- "Each control has a weight"; "the exact value uses the same span for degree 0, at the end of the range too"
unfoldable pub weight_at : Direction → (t : ℤ) → ℕ → Frac
weight_at d t i =
    by d.basis
    (bezier_weight (at d.parameters) t (chosen d t) d.degree i)
    (spline_weight (at d.parameters) t (chosen d t) d.degree i)

-- "a coordinate's exact value is the sum, over all controls, of weight times the control's number on that axis"
unfoldable pub curve_exact : Direction → (t : ℤ) → (ℕ → ℤ) → Frac
curve_exact d t c = sum_to d.controls (λ i. weight_at d t i *ᶠ whole (c i))

-- the same sum at q of segment g of a Bezier curve, where the segment is given and not chosen: 02, Q-14, "at j/64 of a segment"
unfoldable pub segment_exact : Direction → (g : ℕ) (q : Frac) → (ℕ → ℤ) → Frac
segment_exact d g q c = sum_to d.controls (λ i. segment_weight q g d.degree i *ᶠ whole (c i))

-- "On a surface the control at i along u and j along v weighs i's u weight .. times j's v weight, each with its own direction's parameters and t"
unfoldable pub surface_exact : (u v : Direction) (s t : ℤ) → (ℕ → ℕ → ℤ) → Frac
surface_exact u v s t c = sum_to v.controls (λ j. sum_to u.controls (λ i. weight_at u s i *ᶠ weight_at v t j *ᶠ whole (c i j)))
