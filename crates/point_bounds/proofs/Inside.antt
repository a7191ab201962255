-- Q-8: each coordinate is the rounded rule's, which keeps to the controls that it starts from; these are some of the element's.
use mathlib.Core.Path.{◌≡◌, sym, subst, ◌∙◌}
use Prim.Native.Nat.{ℕ, ◌+◌, ◌*◌, ◌-◌, ◌≤◌, ◌<◌}
use native.Mathlib.Nat.{mul-le-mul_right}
use native.Mathlib.Omega.{arith}
use lib.ListN.{get_or}
use lib.IntN.{ℤ, pos}
use lib.Signed.{◌≤ℤ◌}
use Rattle.tables.specs.Tables.{Tables}
use Rattle.tables.specs.declared.Used.{Used}
use Rattle.point_exact.specs.Directions.{Direction}
use Rattle.point_exact.specs.Rules.{Rules}
use Rattle.point_exact.specs.Sampled.{first_control, curve_sampled, surface_sampled}
use Rattle.point_exact.specs.Outline.{Within}
use Rattle.point_exact.proofs.Samplers.{controls-there}
use Rattle.point_exact.proofs.Within.{curve-above, curve-below, surface-above, surface-below}
use Rattle.point_exact.proofs.Outline.{least-le, greatest-ge, curve-within, surface-within, curve-ends, surface-ends}
use Rattle.point_runs.specs.Runs.{parameter_at}
use Rattle.point_runs.proofs.Steps.{parameter-from, parameter-upto}
use Rattle.sampler.specs.Points.{direction_u, direction_v, control_of, grid_of, curve_at, surface_at}
use Rattle.sampler.specs.Answers.{element_of, body_of}
use Rattle.sampler.specs.Demand3.{sampling}
use Rattle.sampler.proofs.Demanded.{Curve, curve-facts, curve-rules, ordered, curve-coordinate, run-coordinate}
use Rattle.sampler.proofs.OnSurfaces.{Surface, surface-facts, surface-rules-u, surface-rules-v, surface-coordinate}
use Rattle.polyline.specs.Answers.{parameters_of}
use Rattle.polyline.proofs.Demanded.{polylines-on-curves}
use Rattle.point_bounds.specs.Outline.{InsideCurve, InsideSurface, ElementsInside}

-- within all k controls, of a curve and of a surface's grid that has u's controls in each row
curve-block : (d : Direction) (t : ℤ) → Rules d t → (k : ℕ) → k ≡ d.controls → (c : ℕ → ℤ) → Within (k - 1) c (curve_sampled d t c)
curve-block d t o k e c =
    let last = controls-there d t o in
    record {
      low = curve-above d t o c (λ j l. least-le (k - 1) c (first_control d t + j) (omega arith));
      high = curve-below d t o c (λ j l. greatest-ge (k - 1) c (first_control d t + j) (omega arith));
    }

surface-block : (u v : Direction) (s t : ℤ) → Rules u s → Rules v t → (k : ℕ) → k ≡ u.controls * v.controls → (c : ℕ → ℤ)
    → Within (k - 1) c (surface_sampled u v s t (λ i j. c (j * u.controls + i)))
surface-block u v s t a b k e c = record {
  low = surface-above u v s t a b (λ i j. c (j * u.controls + i)) (λ i j l m. least-le (k - 1) c (place i j) (there i j l m));
  high = surface-below u v s t a b (λ i j. c (j * u.controls + i)) (λ i j l m. greatest-ge (k - 1) c (place i j) (there i j l m));
}
  where
    place : ℕ → ℕ → ℕ
    place i j = (first_control v t + j) * u.controls + (first_control u s + i)

    there : (i j : ℕ) → i ≤ u.degree → j ≤ v.degree → place i j ≤ k - 1
    there i j l m = go (first_control v t + j) (first_control u s + i) u.controls v.controls (omega (arith, controls-there v t b)) (omega (arith, controls-there u s a)) e
      where
        go : (q r m n : ℕ) → q < n → r < m → k ≡ m * n → q * m + r ≤ k - 1
        go q r m n h l e = omega (arith, mul-le-mul_right m h)

module _ {used : Used} {t : Tables} {number : ℕ} (c : Curve used t number) where
  inside-curve : (p : ℤ) → (body_of t number).start_u ≤ℤ p → p ≤ℤ (body_of t number).end_u → (axis : ℕ)
      → InsideCurve t number p axis (curve_at t (element_of t number) (body_of t number) p axis)
  unfolding curve_at
  inside-curve p a b axis =
      let d = direction_u t (body_of t number) in
      let o = curve-rules c p a b in
      let f = control_of t (element_of t number) axis in
      record {
        outline = curve-within d p o f;
        block = curve-block d p o (element_of t number).corners.count (curve-facts c).counted f;
        exact = λ g h. curve-ends d p o g h f;
      }

module _ {used : Used} {t : Tables} {number : ℕ} (c : Surface used t number) (p q : ℤ) (p-from : (body_of t number).start_u ≤ℤ p) (p-upto : p ≤ℤ (body_of t number).end_u)
    (q-from : (body_of t number).start_v ≤ℤ q) (q-upto : q ≤ℤ (body_of t number).end_v) where
  inside-surface : (axis : ℕ) → InsideSurface t number p q axis (surface_at t (element_of t number) (body_of t number) p q axis)
  unfolding surface_at
  inside-surface axis =
      let u = direction_u t (body_of t number) in
      let v = direction_v t (body_of t number) in
      let a = surface-rules-u c p q p-from p-upto q-from q-upto in
      let b = surface-rules-v c p q p-from p-upto q-from q-upto in
      record {
        outline = surface-within u v p q a b (grid_of t (element_of t number) (body_of t number) axis);
        block = surface-block u v p q a b (element_of t number).corners.count (surface-facts c).counted (control_of t (element_of t number) axis);
        exact = λ g h i j. surface-ends u v p q a b g h i j (grid_of t (element_of t number) (body_of t number) axis);
      }

pub elements-inside : ElementsInside sampling
elements-inside used t number o =
    let m = body_of t number in
    record {
      curve = λ k p a b axis h. subst (InsideCurve t number p axis) (sym (curve-coordinate (o, k) p a b axis h)) (inside-curve (o, k) p a b axis);
      run = λ k steps at points some most room j axis h l.
          let p = parameter_at m.start_u m.end_u steps j in
          let r = ordered (o, k) in
          subst (InsideCurve t number p axis) (sym (run-coordinate (o, k) steps at points some most room j axis h l))
          (inside-curve (o, k) p (parameter-from m.start_u m.end_u r steps j) (parameter-upto m.start_u m.end_u r steps j h) axis);
      polyline = λ k tolerance at points some room j axis h l.
          let p = get_or (parameters_of used t number tolerance) j (pos 0) in
          let a = polylines-on-curves used t number o k tolerance at points some room in
          let r = a.ranged j h in
          subst (InsideCurve t number p axis) (sym (a.sampled j axis h l ∙ curve-coordinate (o, k) p r.0 r.1 axis l)) (inside-curve (o, k) p r.0 r.1 axis);
      surface = λ k p q f g h l axis m. subst (InsideSurface t number p q axis) (sym (surface-coordinate (o, k) p q f g h l axis m)) (inside-surface (o, k) p q f g h l axis);
    }
