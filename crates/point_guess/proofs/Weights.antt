-- The intervals of a direction: each point lies in its interval, and a Bezier segment has one.
use mathlib.Core.Path.{◌≡◌, sym, ap, ap₂, ◌∙◌, subst₂}
use mathlib.Core.Bool.{false}
use mathlib.Core.List.{List, [], ◌∷◌}
use mathlib.Core.Logic.{⊎_elim}
use Prim.Native.Nat.{ℕ, ◌+◌, ◌≤◌, ◌<◌}
use native.Mathlib.Omega.{arith}
use lib.Dec.{eqb}
use lib.IntN.{ℤ, pos, nat_abs, ◌+ℤ◌, ◌-ℤ◌}
use lib.Signed.{◌≤ℤ◌, ◌<ℤ◌}
use lib.Ieee.{Float}
use Rattle.rounding.specs.Range.{InRange}
use Rattle.rounding.proofs.Order.{up, up_le, up-abs, up-trans, lt-or-le}
use Rattle.rounding.proofs.Ring.{ring, ◌⊕◌, ◌⊝◌, ◌≐◌}
use Rattle.doubles.specs.Doubles.{weight_of}
use Rattle.point_exact.specs.Directions.{PointBasis, bezier, bspline, Direction, at, span, chosen}
use Rattle.point_exact.specs.Rules.{Rules}
use Rattle.point_exact.specs.Sampled.{low_at, high_at, offset_at, gap_at}
use Rattle.point_exact.proofs.Chosen.{segment-holds}
use Rattle.point_exact.proofs.Samplers.{span-on, step-parts}
use Rattle.point_exact.proofs.SplineScheme as spline
use Rattle.point_rows.specs.Places.{direction}
use Rattle.point_rows.specs.Finding.{On}
use Rattle.point_rows.specs.declared.BodyDirection.{BodyDirection}
use Rattle.point_rows.proofs.Places.{part-is, gap_is}
use Rattle.point_guess.specs.Steps.{InInterval, Parted}
use Rattle.point_guess.specs.declared.Interval.{Interval}

-- ---- the order, from a difference
less-eq : (a b : ℤ) (n : ℕ) → b -ℤ a ≡ pos n → a ≤ℤ b
less-eq a b n e = up_le (record { by = n; same = ring (a ∷ b ∷ []) (λ a b. b ≐ a ⊕ (b ⊝ a)) tt ∙ ap (λ (z : ℤ). a +ℤ z) e })

less : (a b : ℤ) (n : ℕ) → b -ℤ a ≡ pos n → 0 < n → a <ℤ b
less a b n e h = ⊎_elim (λ l. l) (λ l. absurd (none (up-abs (up l)))) (lt-or-le a b)
  where
    none : a -ℤ b ≡ pos (nat_abs (a -ℤ b)) → ⊥
    none f =
        let z : pos (n + nat_abs (a -ℤ b)) ≡ pos 0 = sym (ap₂ ◌+ℤ◌ e f) ∙ ring (a ∷ b ∷ []) (λ a b. b ⊝ a ⊕ (a ⊝ b) ≐ a ⊝ a) tt ∙ ring (a ∷ pos 0 ∷ []) (λ a z. a ⊝ a ≐ z ⊝ z) tt in
        let w : n + nat_abs (a -ℤ b) ≡ 0 = ap nat_abs z in
        omega arith

ways-of : (b : PointBasis) (n k : ℕ) (x : List ℤ) (t : ℤ) → (let d : Direction = record { basis = b; degree = n; controls = k; parameters = x } in
    Rules d t → (r j : ℕ) → r < n → j ≤ r → (t -ℤ low_at d t r j ≡ pos (offset_at d t r j)) × (high_at d t r j -ℤ low_at d t r j ≡ pos (gap_at d t r j)))
unfolding Rules offset_at gap_at low_at high_at chosen
ways-of bezier n k x t o r j h l = let s = segment-holds o in (up-abs (up s.low), up-abs (up-trans (up s.low) (up s.high)))
ways-of bspline n k x t o r j h l = (spline.part-is (at x) t (span (at x) n k t) n (span-on o) r j h l, spline.gap_is (at x) t (span (at x) n k t) n (span-on o) r j h l)

module _ (d : Direction) (t : ℤ) (o : Rules d t) (r j : ℕ) (h : r < d.degree) (l : j ≤ r) where
  ways : (t -ℤ low_at d t r j ≡ pos (offset_at d t r j)) × (high_at d t r j -ℤ low_at d t r j ≡ pos (gap_at d t r j))
  ways = ways-of d.basis d.degree d.controls d.parameters t o r j h l

  pub low-upto : low_at d t r j ≤ℤ t
  low-upto = less-eq (low_at d t r j) t (offset_at d t r j) ways.0

  pub low_below : low_at d t r j <ℤ high_at d t r j
  low_below = less (low_at d t r j) (high_at d t r j) (gap_at d t r j) ways.1 (step-parts d t o r j h l).1

  pub within : InRange (low_at d t r j) → InRange (high_at d t r j) → InRange t → InInterval (low_at d t r j) (high_at d t r j) t
  unfolding offset_at gap_at
  within u v w = let p = step-parts d t o r j h l in record { part = p.0; wide = p.1; low_small = u; high_small = v; here = w }

-- ---- the interval that is made
module _ {a : BodyDirection} {x : List ℤ} {t : ℤ} {g : ℕ} (o : On a x t g) (r j : ℕ) (h : r < a.degree) (l : j ≤ r) (low high : ℤ) (lows : low ≡ low_at (direction a x) t r j) (highs : high ≡ high_at (direction a x) t r j) where
  pub upto : (low ≤ℤ t) × (low <ℤ high)
  upto = rw (lows, highs) (low-upto (direction a x) t o.sound.rules r j h l, low_below (direction a x) t o.sound.rules r j h l)

  pub parted : InRange low → InRange high → (w : Float) → w ≡ weight_of (nat_abs (t -ℤ low)) (nat_abs (high -ℤ low)) → Parted (direction a x) t r j (record { low = low; high = high; part = w })
  parted small large w is = record {
    low = lows;
    high = highs;
    fair = record {
      within = subst₂ (λ (a b : ℤ). InInterval a b t) (sym lows) (sym highs) (within (direction a x) t o.sound.rules r j h l (rw lows at small) (rw highs at large) o.sound.here);
      weight = is;
    };
  }

-- a Bezier segment has one interval
one-low : (a : BodyDirection) (x : List ℤ) (t : ℤ) → eqb a.basis 2 ≡ false → (r j : ℕ) → low_at (direction a x) t 0 0 ≡ low_at (direction a x) t r j
unfolding low_at
one-low a x t e r j = rw e

one-high : (a : BodyDirection) (x : List ℤ) (t : ℤ) → eqb a.basis 2 ≡ false → (r j : ℕ) → high_at (direction a x) t 0 0 ≡ high_at (direction a x) t r j
unfolding high_at
one-high a x t e r j = rw e

pub one-gap : (a : BodyDirection) (x : List ℤ) (t : ℤ) → eqb a.basis 2 ≡ false → (r j : ℕ) {g : Interval} → Parted (direction a x) t 0 0 g → Parted (direction a x) t r j g
one-gap a x t e r j p = record { low = p.low ∙ one-low a x t e r j; high = p.high ∙ one-high a x t e r j; fair = p.fair }

-- ---- the parts and the interval of a number, from its interval
module _ {d : Direction} {t : ℤ} {r j : ℕ} {g : Interval} (p : Parted d t r j g) where
  pub part_of : nat_abs (t -ℤ g.low) ≡ offset_at d t r j
  part_of = ap (λ (z : ℤ). nat_abs (t -ℤ z)) p.low ∙ part-is d t r j

  pub gap_from : nat_abs (g.high -ℤ g.low) ≡ gap_at d t r j
  gap_from = ap₂ (λ (y z : ℤ). nat_abs (y -ℤ z)) p.high p.low ∙ gap_is d t r j
