-- A direction that obeys 12 and 13 obeys the rules of curves at every parameter of its range, for the two types that are sampled.
use mathlib.Core.Path.{◌≡◌, refl, sym, subst}
use mathlib.Core.Bool.{true, ◌&&◌}
use mathlib.Core.Logic.{◌⊎◌, ⊎_elim}
use mathlib.Core.List.{List, [], ◌∷◌}
use Prim.Native.Nat.{ℕ, zero, suc, ◌+◌, ◌*◌, ◌-◌, ◌≤◌, ◌<◌}
use native.Mathlib.Nat.{not-suc-le-zero, le_of_suc-le-suc}
use native.Mathlib.Omega.{arith}
use borrow.Author.Tests.{leb-true}
use lib.ListN.{length}
use lib.IntN.{ℤ}
use lib.Signed.{◌≤ℤ◌, ◌<ℤ◌, le_z, lt_z, <ℤ-≤ℤ_trans}
use Rattle.lists.proofs.Tests.{and_left, and_right}
use Rattle.rounding.specs.Range.{InRange}
use Rattle.rounding.proofs.Order.{yes_le, yes_lt, ≤ℤ-trans, ≤ℤ-<ℤ-trans, <ℤ→≤ℤ}
use Rattle.tables.specs.Bodies.{Basis, bezier, bspline, enough, rising, steady, ordered, continuous, low, high, ranged, in_order, basis_of}
use Rattle.point_exact.specs.Directions.{at}
use Rattle.point_exact.specs.Rules.{BezierRules, SplineRules, Rules}
use Rattle.point_runs.specs.Inner.{Ranged}
use Rattle.sampler.specs.Points.{body_direction}
use Rattle.point_runs.proofs.Steps.{small-between}

rising-at : (x : List ℤ) → rising x ≡ true → (i : ℕ) → suc i < length x → at x i <ℤ at x (suc i)
rising-at [] h i l = absurd (not-suc-le-zero l)
rising-at (a ∷ []) h i l = absurd (not-suc-le-zero (le_of_suc-le-suc l))
rising-at (a ∷ b ∷ x) h zero l = yes_lt a b (and_left (lt_z a b) (rising (b ∷ x)) h)
rising-at (a ∷ b ∷ x) h (suc i) l = rising-at (b ∷ x) (and_right (lt_z a b) (rising (b ∷ x)) h) i (le_of_suc-le-suc l)

steady-at : (x : List ℤ) → steady x ≡ true → (i : ℕ) → suc i < length x → at x i ≤ℤ at x (suc i)
steady-at [] h i l = absurd (not-suc-le-zero l)
steady-at (a ∷ []) h i l = absurd (not-suc-le-zero (le_of_suc-le-suc l))
steady-at (a ∷ b ∷ x) h zero l = yes_le a b (and_left (le_z a b) (steady (b ∷ x)) h)
steady-at (a ∷ b ∷ x) h (suc i) l = steady-at (b ∷ x) (and_right (le_z a b) (steady (b ∷ x)) h) i (le_of_suc-le-suc l)

module _ (t : Basis) (n : ℕ) (x : List ℤ) (s e : ℤ) (h : in_order t n x s e ≡ true) where
  in-ordered : ordered t x ≡ true
  unfolding in_order
  in-ordered = and_left (ordered t x) (continuous t n x) (and_left (ordered t x && continuous t n x) (ranged t n x s e) h)

  in-ranged : ranged t n x s e ≡ true
  unfolding in_order
  in-ranged = and_right (ordered t x && continuous t n x) (ranged t n x s e) h

  in-low : low t n x ≤ℤ s
  in-low = yes_le (low t n x) s (and_left (le_z (low t n x) s) (lt_z s e) (and_left (le_z (low t n x) s && lt_z s e) (le_z e (high t n x)) in-ranged))

  in-wide : s <ℤ e
  in-wide = yes_lt s e (and_right (le_z (low t n x) s) (lt_z s e) (and_left (le_z (low t n x) s && lt_z s e) (le_z e (high t n x)) in-ranged))

  in-high : e ≤ℤ high t n x
  in-high = yes_le e (high t n x) (and_right (le_z (low t n x) s && lt_z s e) (le_z e (high t n x)) in-ranged)

module _ (n : ℕ) (x : List ℤ) (s e : ℤ) (many : 2 ≤ length x) where
  bezier-rules : in_order bezier n x s e ≡ true → (p : ℤ) → s ≤ℤ p → p ≤ℤ e → BezierRules n (n * (length x - 1) + 1) x p
  bezier-rules h p a b = record {
    many = many;
    count = refl;
    rising = rising-at x (in-ordered bezier n x s e h);
    low = ≤ℤ-trans (in-low bezier n x s e h) a;
    high = ≤ℤ-trans b (in-high bezier n x s e h);
  }

  spline-rules : enough bspline n (length x) ≡ true → in_order bspline n x s e ≡ true → (p : ℤ) → s ≤ℤ p → p ≤ℤ e → SplineRules n (length x - n - 1) x p
  spline-rules g h p a b =
      let k = leb-true (n + 1) (length x - n - 1) g in
      record {
        enough = k;
        count = omega arith;
        rising = steady-at x (in-ordered bspline n x s e h);
        wide = ≤ℤ-<ℤ-trans (in-low bspline n x s e h) (<ℤ-≤ℤ_trans (in-wide bspline n x s e h) (in-high bspline n x s e h));
        low = ≤ℤ-trans (in-low bspline n x s e h) a;
        high = ≤ℤ-trans b (in-high bspline n x s e h);
      }

module _ (n : ℕ) (x : List ℤ) (s e : ℤ) (many : 2 ≤ length x) (few : n ≤ 20) (small : (i : ℕ) → i < length x → InRange (at x i)) where
  module _ (t : Basis) (h : in_order t n x s e ≡ true) (a : InRange (low t n x)) (b : InRange (high t n x)) where
    start_fits : InRange s
    start_fits = small-between (in-low t n x s e h) (≤ℤ-trans (<ℤ→≤ℤ (in-wide t n x s e h)) (in-high t n x s e h)) a b

    end_fits : InRange e
    end_fits = small-between (≤ℤ-trans (in-low t n x s e h) (<ℤ→≤ℤ (in-wide t n x s e h))) (in-high t n x s e h) a b

  bezier-ranged : in_order bezier n x s e ≡ true → Ranged (body_direction 1 n (length x)) x s e
  unfolding Rules
  bezier-ranged h =
      let a = small 0 (omega arith) in
      let b = small (length x - 1) (omega arith) in
      record {
        ordered = <ℤ→≤ℤ (in-wide bezier n x s e h);
        start_small = start_fits bezier h a b;
        end-small = end_fits bezier h a b;
        sound = λ p k l. record {
          rules = bezier-rules n x s e many h p k l;
          few = few;
          small = small;
          here = small-between k l (start_fits bezier h a b) (end_fits bezier h a b);
        };
      }

  spline-ranged : enough bspline n (length x) ≡ true → in_order bspline n x s e ≡ true → Ranged (body_direction 2 n (length x)) x s e
  unfolding Rules
  spline-ranged g h =
      let k = leb-true (n + 1) (length x - n - 1) g in
      let a = small n (omega arith) in
      let b = small (length x - n - 1) (omega arith) in
      record {
        ordered = <ℤ→≤ℤ (in-wide bspline n x s e h);
        start_small = start_fits bspline h a b;
        end-small = end_fits bspline h a b;
        sound = λ p k l. record {
          rules = spline-rules n x s e many g h p k l;
          few = few;
          small = small;
          here = small-between k l (start_fits bspline h a b) (end_fits bspline h a b);
        };
      }

  pub ranged-of : (type p : ℕ) → (type ≡ 1) ⊎ (type ≡ 2) → length x ≡ p → enough (basis_of type) n p ≡ true → in_order (basis_of type) n x s e ≡ true → Ranged (body_direction type n p) x s e
  ranged-of type p c l =
      subst (λ (q : ℕ). enough (basis_of type) n q ≡ true → in_order (basis_of type) n x s e ≡ true → Ranged (body_direction type n q) x s e) l
      (⊎_elim
      (λ k. subst (λ (q : ℕ). enough (basis_of q) n (length x) ≡ true → in_order (basis_of q) n x s e ≡ true → Ranged (body_direction q n (length x)) x s e) (sym k) (λ g h. bezier-ranged h))
      (λ k. subst (λ (q : ℕ). enough (basis_of q) n (length x) ≡ true → in_order (basis_of q) n x s e ≡ true → Ranged (body_direction q n (length x)) x s e) (sym k) (λ g h. spline-ranged g h))
      c)
