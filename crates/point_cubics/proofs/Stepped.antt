-- A step where nothing refuses: a point is handed out, near the exact value, and near the other path's where the step is a whole millionth.
use mathlib.Core.Path.{◌≡◌, refl, sym, ap, ◌∙◌, subst}
use mathlib.Core.Bool.{Bool, true, false}
use mathlib.Core.List.{List, [], ◌∷◌}
use Prim.Native.Nat.{ℕ, suc, ◌+◌, ◌*◌, ◌≤◌, ◌<◌}
use native.Mathlib.Nat.{mul-pos, mul-le-mul_left, le_of_mul-le-mul_left}
use native.Mathlib.Omega.{arith}
use borrow.Author.Tests.{le-leb}
use lib.Dec.{eqb}
use lib.ListN.{length, get_or}
use lib.IntN.{ℤ, pos, nat_abs, neg_ℤ, ◌+ℤ◌, ◌-ℤ◌, ◌*ℤ◌}
use lib.Signed.{◌≤ℤ◌}
use Rattle.lists.proofs.Tests.{and_both}
use Rattle.rounding.specs.Fractions.{Frac, whole, ◌*ᶠ◌, over, sum_to, ◌≈◌, Close}
use Rattle.rounding.proofs.IntLaws.{abs-+, abs-*, abs_neg}
use Rattle.rounding.proofs.Ring.{ring, ◌⊕◌, ◌⊝◌, ◌⊗◌, ◌≐◌, K}
use Rattle.rounding.proofs.Order.{up, up_le, le_yes}
use Rattle.tables.specs.Tables.{Tables}
use Rattle.tables.specs.Records.{parameters_u}
use Rattle.tables.specs.declared.Body.{Body}
use Rattle.tables.specs.declared.Used.{Used}
use Rattle.tables.specs.declared.Element.{Element}
use Rattle.point_exact.specs.Directions.{Direction, bezier}
use Rattle.point_exact.specs.Exact.{segment_weight, curve_exact, segment_exact}
use Rattle.point_rows.specs.Places.{point_basis}
use Rattle.point_runs.specs.Runs.{tabulated}
use Rattle.point_runs.proofs.Written.{listed-length}
use Rattle.sampler.specs.Points.{direction_u, body_direction, control_of, axes_of}
use Rattle.std.specs.Prelude.{None}
use Rattle.sampler.specs.Answers.{PointAnswer, element_of, body_of, refusal_of}
use Rattle.sampler.specs.Demand3.{sampling}
use Rattle.sampler.specs.Sampling.{Curved}
use Rattle.sampler.proofs.Obeyed.{granted, curved}
use Rattle.sampler.proofs.Demanded.{curve-given, listed_at, points-on-curves}
use Rattle.point_weights.specs.Weights.{cubic_sampled}
use Rattle.point_cubics.specs.Answers.{cubic, parameter64, reached, cubic_point, cubic_at}
use Rattle.point_cubics.specs.Near.{Step, PointsInSteps, TwoPaths}
use Rattle.point_cubics.proofs.Segments.{cubic-close, same-exact, from_zero}
use Rattle.point_cubics.proofs.Answers.{handed_out, rules, controls-there, answered}

coordinates-are : (t : Tables) (e : Element) (g j : ℕ) (q : Bool) → eqb e.kind 5 ≡ q
    → ((cubic_point t e g j).outcome.coordinates ≡ tabulated (axes_of e) (λ axis. cubic_sampled g j (control_of t e axis))) × ((cubic_point t e g j).outcome.number ≡ 0)
unfolding cubic_point
coordinates-are t e g j true h = simp h (refl, refl)
coordinates-are t e g j false h = simp h (refl, refl)

module _ {used : Used} {t : Tables} {number g j : ℕ} (s : Step used t number g j) where
  abbrev e : Element
  e = element_of t number

  abbrev b : Body
  b = body_of t number

  abbrev q : Frac
  q = over (pos j) (pos 64)

  given : refusal_of false used t number ≡ None
  given = curve-given s.curve

  curve : Curved t e b
  curve = curved used t number (granted false used t number given)

  is-cubic : cubic b.basis b.degree_u ≡ true
  is-cubic = rw (s.type, s.degree) refl

  is-reached : reached (parameters_u t b) b.start_u b.end_u g j ≡ true
  unfolding reached
  is-reached =
      and_both (and_both (le-leb j 64 s.step) (le-leb (g + 2) (length (parameters_u t b)) s.segment))
      (and_both (le_yes (pos 64 *ℤ b.start_u) (parameter64 (parameters_u t b) g j) s.from) (le_yes (parameter64 (parameters_u t b) g j) (pos 64 *ℤ b.end_u) s.upto))

  answer-is : cubic_at used t number g j ≡ cubic_point t e g j
  answer-is = sym (handed_out t e b g j is-cubic is-reached ∙ answered used t number g j (record { given = given; element-is = refl; body_is = refl }))

  coordinates : (cubic_at used t number g j).outcome.coordinates ≡ tabulated (axes_of e) (λ axis. cubic_sampled g j (control_of t e axis))
  coordinates = ap (λ (r : PointAnswer). r.outcome.coordinates) answer-is ∙ (coordinates-are t e g j (eqb e.kind 5) refl).0

  at-axis : (axis : ℕ) → axis < axes_of e → get_or (cubic_at used t number g j).outcome.coordinates axis (pos 0) ≡ cubic_sampled g j (control_of t e axis)
  at-axis axis l = ap (λ (c : List ℤ). get_or c axis (pos 0)) coordinates ∙ listed_at (axes_of e) axis (λ axis. cubic_sampled g j (control_of t e axis)) l

  fits : (i : ℕ) → suc i < length (parameters_u t b) → i * 3 + 3 < (body_direction b.basis b.degree_u b.count_u).controls
  fits i l = let h = controls-there curve s.type s.degree i (omega arith) in omega arith

  close : (c : ℕ → ℤ) → Close (cubic_sampled g j c) (segment_exact (direction_u t b) g q c) 1
  unfolding segment_exact
  close c =
      subst (λ (n : ℕ). Close (cubic_sampled g j c) (sum_to (direction_u t b).controls (λ i. segment_weight q g n i *ᶠ whole (c i))) 1) (sym s.degree)
      (cubic-close (direction_u t b).controls g j s.step (fits g (let h = s.segment in omega arith)) c)

  near : (axis : ℕ) → axis < axes_of e → Close (get_or (cubic_at used t number g j).outcome.coordinates axis (pos 0)) (segment_exact (direction_u t b) g q (control_of t e axis)) 1
  near axis l = subst (λ z. Close z (segment_exact (direction_u t b) g q (control_of t e axis)) 1) (sym (at-axis axis l)) (close (control_of t e axis))

pub points-in-steps : PointsInSteps cubic_at
points-in-steps used t number g j s =
    let e = element_of t number in
    record {
      given = ap (λ (r : PointAnswer). r.outcome.number) (answer-is s) ∙ (coordinates-are t e g j (eqb e.kind 5) refl).1;
      axes = ap length (coordinates s) ∙ listed-length (axes_of e) (λ axis. cubic_sampled g j (control_of t e axis));
      near = near s;
    }

-- ---- two numbers near one value
both-close : (S R : ℤ) (f h : Frac) (k l : ℕ) → Close S f k → Close R h l → f ≈ h → 2 * nat_abs (S -ℤ R) ≤ k + l
unfolding ◌≈◌
both-close S R f h k l a c e =
    le_of_mul-le-mul_left (go f.bot h.bot (nat_abs (S -ℤ R)) (nat_abs (S *ℤ pos f.bot -ℤ f.top)) (nat_abs (R *ℤ pos h.bot -ℤ h.top)) sizes
    (mul-le-mul_left h.bot a.near) (mul-le-mul_left f.bot c.near)) (mul-pos a.above c.above)
  where
    apart : pos (f.bot * h.bot) *ℤ (S -ℤ R) ≡ pos h.bot *ℤ (S *ℤ pos f.bot -ℤ f.top) +ℤ neg_ℤ (pos f.bot *ℤ (R *ℤ pos h.bot -ℤ h.top))
    apart =
        ring (S ∷ R ∷ pos f.bot ∷ pos h.bot ∷ f.top ∷ []) (λ s r b d t. b ⊗ d ⊗ (s ⊝ r) ≐ d ⊗ (s ⊗ b ⊝ t) ⊝ (b ⊗ (r ⊗ d) ⊝ t ⊗ d)) tt
        ∙ ap (λ z. pos h.bot *ℤ (S *ℤ pos f.bot -ℤ f.top) -ℤ (pos f.bot *ℤ (R *ℤ pos h.bot) -ℤ z)) e
        ∙ ring (S ∷ R ∷ pos f.bot ∷ pos h.bot ∷ f.top ∷ h.top ∷ []) (λ s r b d t u. d ⊗ (s ⊗ b ⊝ t) ⊝ (b ⊗ (r ⊗ d) ⊝ u ⊗ b) ≐ d ⊗ (s ⊗ b ⊝ t) ⊝ b ⊗ (r ⊗ d ⊝ u)) tt

    sizes : f.bot * h.bot * nat_abs (S -ℤ R) ≤ h.bot * nat_abs (S *ℤ pos f.bot -ℤ f.top) + f.bot * nat_abs (R *ℤ pos h.bot -ℤ h.top)
    sizes =
        let x = pos h.bot *ℤ (S *ℤ pos f.bot -ℤ f.top) in
        let y = pos f.bot *ℤ (R *ℤ pos h.bot -ℤ h.top) in
        omega (arith, abs-* (pos (f.bot * h.bot)) (S -ℤ R), ap nat_abs apart, abs-+ x (neg_ℤ y), abs_neg y, abs-* (pos h.bot) (S *ℤ pos f.bot -ℤ f.top), abs-* (pos f.bot) (R *ℤ pos h.bot -ℤ h.top))

    go : (b d n u v : ℕ) → b * d * n ≤ d * u + b * v → d * (2 * u) ≤ d * (k * b) → b * (2 * v) ≤ b * (l * d) → b * d * (2 * n) ≤ b * d * (k + l)
    go b d n u v p q r = omega arith

-- ---- where the step is a whole number of millionths
down-64 : (a c : ℤ) → (pos 64 *ℤ a) ≤ℤ (pos 64 *ℤ c) → a ≤ℤ c
down-64 a c h =
    up_le (record { by = nat_abs (c -ℤ a); same = ring (a ∷ c ∷ []) (λ a c. c ≐ a ⊕ (c ⊝ a)) tt ∙ ap (λ z. a +ℤ z) (from_zero (c -ℤ a) (up h).by e).0 })
  where
    e : pos 64 *ℤ (c -ℤ a) ≡ pos (up h).by
    e =
        ring (a ∷ c ∷ []) (λ a c. K (pos 64) ⊗ (c ⊝ a) ≐ K (pos 64) ⊗ c ⊝ K (pos 64) ⊗ a) tt
        ∙ ap (λ z. z -ℤ pos 64 *ℤ a) (up h).same
        ∙ ring (a ∷ pos (up h).by ∷ []) (λ a n. K (pos 64) ⊗ a ⊕ n ⊝ K (pos 64) ⊗ a ≐ n) tt

same-direction : (type n k : ℕ) (x : List ℤ) → type ≡ 1 → n ≡ 3
    → ◌≡◌ {A = Direction} (record { basis = bezier; degree = 3; controls = k; parameters = x }) (record { basis = point_basis type; degree = n; controls = k; parameters = x })
same-direction type n k x p q = rw (p, q) refl

module _ {used : Used} {t : Tables} {number g j : ℕ} (s : Step used t number g j) (p : ℤ)
    (whole-step : pos 64 *ℤ p ≡ parameter64 (parameters_u t (body_of t number)) g j) where
  from : (b s).start_u ≤ℤ p
  from = down-64 (b s).start_u p (subst (λ z. (pos 64 *ℤ (b s).start_u) ≤ℤ z) (sym whole-step) s.from)

  upto : p ≤ℤ (b s).end_u
  upto = down-64 p (b s).end_u (subst (λ z. z ≤ℤ (pos 64 *ℤ (b s).end_u)) (sym whole-step) s.upto)

  exact : (c : ℕ → ℤ) → segment_exact (direction_u t (b s)) g (q s) c ≈ curve_exact (direction_u t (b s)) p c
  exact c =
      subst (λ (d : Direction). segment_exact d g (q s) c ≈ curve_exact d p c)
      (same-direction (b s).basis (b s).degree_u (direction_u t (b s)).controls (parameters_u t (b s)) s.type s.degree)
      (same-exact (rules (curve s) s.type s.degree p from upto) g j s.step s.segment whole-step (fits s) c)

pub two-paths : TwoPaths cubic_at sampling
two-paths used t number g j p s h =
    let other = points-on-curves used t number p s.curve (from s p h) (upto s p h) in
    record {
      exact = λ axis. exact s p h (control_of t (element_of t number) axis);
      given = other.given;
      apart = λ axis l. half (both-close _ _ _ _ 1 (body_of t number).degree_u (near s axis l) (other.near axis l) (exact s p h (control_of t (element_of t number) axis)));
    }
  where
    half : {n : ℕ} → 2 * n ≤ 1 + (body_of t number).degree_u → n ≤ 2
    half m = omega (arith, m, s.degree)
