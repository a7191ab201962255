-- The search upward: the parameters never decrease, so past the first above t nothing passes, and before it a span passes where it is not empty.
use mathlib.Core.Path.{◌≡◌, refl, sym, ap, ◌∙◌, subst}
use mathlib.Core.Bool.{Bool, true, false, cond, ◌&&◌}
use mathlib.Core.Logic.{◌⊎◌, inl, inr, ⊎_elim}
use mathlib.Core.List.{List}
use Prim.Native.Nat.{ℕ, zero, suc, ◌+◌, ◌≤◌, ◌<◌}
use native.Mathlib.Nat.{le_refl, eq-or-lt_of_le}
use native.Mathlib.Numerals.{add-one}
use native.Mathlib.Omega.{arith}
use borrow.Author.Tests.{le-leb, lt-leb}
use lib.Dec.{leb, eqb}
use lib.ListN.{length}
use lib.IntN.{ℤ}
use lib.Signed.{◌≤ℤ◌, ◌<ℤ◌, le_z, lt_z, ≤ℤ_refl, clash_ℤ}
use Rattle.rounding.proofs.Order.{yes_le, le_yes, lt_yes, lt-or-le, ≤ℤ-trans, <ℤ→≤ℤ}
use Rattle.lists.proofs.Tests.{and_left, and_right, and_both, and_first, and_second, test}
use Rattle.point_exact.specs.Directions.{PointBasis, bezier, bspline, Direction, at, last_where, segment, starts, span, chosen}
use Rattle.point_exact.specs.Rules.{Rules}
use Rattle.point_exact.proofs.Chosen.{segment-below, segment-holds, span_last, span_below, span-from}
use Rattle.point_rows.specs.Places.{direction}
use Rattle.point_rows.specs.Finding.{passes, limit, lead, Sound, On, Hint}
use Rattle.point_rows.specs.declared.BodyDirection.{BodyDirection}

-- nothing passes from i on
pub none_above : (f : ℕ → Bool) (i m : ℕ) → i ≤ m → ((j : ℕ) → i ≤ j → j < m → f j ≡ false) → last_where f m ≡ last_where f i
unfolding last_where
none_above f i zero h n = let e : i ≡ 0 = omega arith in rw e
none_above f i (suc m) h n = go (eq-or-lt_of_le h) (λ l. none_above f i m l (λ j a b. n j a (omega arith)))
  where
    go : (i ≡ suc m) ⊎ (i < suc m) → (i ≤ m → last_where f m ≡ last_where f i) → cond (f m) m (last_where f m) ≡ last_where f i
    go (inl e) k = subst (λ (q : ℕ). cond (f m) m (last_where f m) ≡ last_where f q) (sym e) refl
    go (inr l) k = rw (n m (omega arith) (omega arith)) (k (omega arith))

pub last-suc : (f : ℕ → Bool) (i : ℕ) {q : Bool} → f i ≡ q → cond q i (last_where f i) ≡ last_where f (suc i)
unfolding last_where
last-suc f i e = rw e

less-no : (a b : ℤ) → b <ℤ a → le_z a b ≡ false
less-no a b h = ⊎_elim (λ e. clash_ℤ h (yes_le a b e)) (λ e. e) (test (le_z a b))

and_same : (p q : Bool) → p ≡ true → (p && q) ≡ q
and_same p q e = rw e

and-true : (p q : Bool) → q ≡ true → (p && q) ≡ p
and-true true q e = e
and-true false q e = refl

-- ---- of either kind
module _ (n k : ℕ) (x : List ℤ) (t : ℤ) where
  abbrev of : PointBasis → Direction
  of b = record { basis = b; degree = n; controls = k; parameters = x }

  chosen_of : (b : PointBasis) → chosen (of b) t ≡ last_where (passes (of b) t) (limit (of b))
  unfolding chosen segment span
  chosen_of bezier = refl
  chosen_of bspline = refl

  limit-of : (b : PointBasis) → Rules (of b) t → limit (of b) < length x
  unfolding Rules
  limit-of bezier r = omega (arith, r.many)
  limit-of bspline r = omega (arith, r.count)

  lead-of : (b : PointBasis) → Rules (of b) t → lead (of b) ≤ limit (of b)
  unfolding Rules
  lead-of bezier r = omega arith
  lead-of bspline r = omega (arith, r.enough)

  steady-of : (b : PointBasis) → Rules (of b) t → (i : ℕ) → suc i < length x → at x i ≤ℤ at x (suc i)
  unfolding Rules
  steady-of bezier r i h = <ℤ→≤ℤ (r.rising i h)
  steady-of bspline r i h = r.rising i h

  first_of : (b : PointBasis) → last_where (passes (of b) t) (lead (of b)) ≡ 0
  unfolding last_where
  first_of bezier = refl
  first_of bspline =
      none_above (starts (at x) n t) 0 n (omega arith)
      (λ j a h. and_first (le_z (at x j) t) (and_first (lt_z (at x j) (at x (suc j))) (lt-leb n j h)))

  past_of : (b : PointBasis) (j : ℕ) → t <ℤ at x j → passes (of b) t j ≡ false
  past_of bezier j h = less-no (at x j) t h
  past_of bspline j h = and_second (leb n j && lt_z (at x j) (at x (suc j))) (less-no (at x j) t h)

  here_of : (b : PointBasis) → Rules (of b) t → (i : ℕ) → lead (of b) ≤ i → suc i < length x → at x i ≤ℤ t → passes (of b) t i ≡ lt_z (at x i) (at x (suc i))
  unfolding Rules
  here_of bezier r i a b h = le_yes (at x i) t h ∙ sym (lt_yes (at x i) (at x (suc i)) (r.rising i b))
  here_of bspline r i a b h =
      and-true (leb n i && lt_z (at x i) (at x (suc i))) (le_z (at x i) t) (le_yes (at x i) t h)
      ∙ and_same (leb n i) (lt_z (at x i) (at x (suc i))) (le-leb n i a)

  -- what is chosen for t passes for any t' from t on
  kept_of : (b : PointBasis) → Rules (of b) t → (t' : ℤ) → t ≤ℤ t' → passes (of b) t' (chosen (of b) t) ≡ true
  unfolding Rules chosen
  kept_of bezier r t' h = le_yes (at x (segment (at x) (length x) t)) t' (≤ℤ-trans (segment-holds r).low h)
  kept_of bspline r t' h =
      let s = span (at x) n k t in
      let p = (span_last r).passes in
      and_both (and_left (leb n s && lt_z (at x s) (at x (suc s))) (le_z (at x s) t) p)
      (le_yes (at x s) t' (≤ℤ-trans (yes_le (at x s) t (and_right (leb n s && lt_z (at x s) (at x (suc s))) (le_z (at x s) t) p)) h))

  bounds_of : (b : PointBasis) → Rules (of b) t → (lead (of b) ≤ chosen (of b) t) × (chosen (of b) t < limit (of b))
  unfolding Rules chosen
  bounds_of bezier r = (omega arith, omega (arith, segment-below r))
  bounds_of bspline r = (span-from r, span_below r)

-- parameters never decrease
climb : (x : List ℤ) → ((i : ℕ) → suc i < length x → at x i ≤ℤ at x (suc i)) → (i j : ℕ) → i ≤ j → j < length x → at x i ≤ℤ at x j
climb x h i zero a b = let e : i ≡ 0 = omega arith in rw e (≤ℤ_refl (at x 0))
climb x h i (suc j) a b = go (eq-or-lt_of_le a) (λ l. climb x h i j l (omega arith))
  where
    go : (i ≡ suc j) ⊎ (i < suc j) → (i ≤ j → at x i ≤ℤ at x j) → at x i ≤ℤ at x (suc j)
    go (inl e) k = subst (λ (q : ℕ). at x i ≤ℤ at x q) e (≤ℤ_refl (at x i))
    go (inr l) k = ≤ℤ-trans (k (omega arith)) (h j b)

module _ {a : BodyDirection} {x : List ℤ} {t : ℤ} (s : Sound a x t) where
  abbrev d : Direction
  d = direction a x

  pub limit-inside : limit d < length x
  limit-inside = limit-of a.degree a.controls x t d.basis s.rules

  -- the search has come to its end, or to the first parameter past t
  pub ended : {g i : ℕ} → Hint a x t g i → i ≡ limit d → On a x t g
  ended {g} {i} h e =
      record { sound = s; is = h.last ∙ ap (λ (q : ℕ). last_where (passes d t) q) e ∙ sym (chosen_of a.degree a.controls x t d.basis) }

  pub stopped : {g i : ℕ} → Hint a x t g i → i < limit d → t <ℤ at x i → On a x t g
  stopped {g} {i} h l p =
      ended (record {
        last = h.last ∙ sym (none_above (passes d t) i (limit d) h.upto none);
        from = lead-of a.degree a.controls x t d.basis s.rules;
        upto = le_refl (limit d);
      }) refl
    where
      none : (j : ℕ) → i ≤ j → j < limit d → passes d t j ≡ false
      none j u v =
          let w : j < length x = omega (arith, limit-inside) in
          past_of a.degree a.controls x t d.basis j
          (past (climb x (steady-of a.degree a.controls x t d.basis s.rules) i j u w))
        where
          past : at x i ≤ℤ at x j → t <ℤ at x j
          past q = ⊎_elim (λ r. r) (λ r. clash_ℤ p (≤ℤ-trans q r)) (lt-or-le t (at x j))

  pub onward : {g i : ℕ} → Hint a x t g i → i < limit d → at x i ≤ℤ t → Hint a x t (cond (lt_z (at x i) (at x (suc i))) i g) (i + 1)
  onward {g} {i} h l p =
      let w : suc i < length x = omega (arith, limit-inside) in
      rw (add-one, h.last) (record {
        last = last-suc (passes d t) i (here_of a.degree a.controls x t d.basis s.rules i h.from w p);
        from = omega (arith, h.from);
        upto = l;
      })

  pub begun : {i : ℕ} → i ≡ lead d → Hint a x t 0 i
  begun {i} e = rw e (record {
    last = sym (first_of a.degree a.controls x t d.basis);
    from = le_refl (lead d);
    upto = lead-of a.degree a.controls x t d.basis s.rules;
  })

-- from the one before
pub followed : {a : BodyDirection} {x : List ℤ} {t t' : ℤ} {g : ℕ} → On a x t g → t ≤ℤ t' → Hint a x t' g (g + 1)
followed {a} {x} {t} {t'} {g} o h =
    let d = direction a x in
    let r = o.sound.rules in
    let b = bounds_of a.degree a.controls x t d.basis r in
    let k = kept_of a.degree a.controls x t d.basis r t' h in
    rw (add-one, o.is) (record {
      last = last-suc (passes d t') (chosen d t) k;
      from = omega (arith, b);
      upto = b.1;
    })

pub lead-spline : (a : BodyDirection) (x : List ℤ) → eqb a.basis 2 ≡ true → a.degree ≡ lead (direction a x)
lead-spline a x e = rw e

pub lead-bezier : (a : BodyDirection) (x : List ℤ) → eqb a.basis 2 ≡ false → 0 ≡ lead (direction a x)
lead-bezier a x e = rw e
