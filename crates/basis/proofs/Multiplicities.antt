-- Knots: the walk finds a value that lies strictly between the ends and stands more than n times, when a greater one follows.
use Prim.Native.Nat.{ℕ, zero, suc, ◌+◌, ◌-◌, ◌≤◌, ◌<◌}
use native.Mathlib.Nat.{sub-zero}
use native.Mathlib.Omega.{arith}
use mathlib.Core.Path.{◌≡◌, refl, sym, ap, ap₂, ◌∙◌, subst}
use mathlib.Core.List.{List, [], ◌∷◌}
use mathlib.Core.Bool.{Bool, true, false, cond, not, ◌&&◌}
use mathlib.Core.Logic.{⊎_elim}
use borrow.Author.Tests.{leb-true, leb-false, le-leb, lt-ltb, le-ltb, ne_eqb}
use lib.Dec.{leb, ltb}
use lib.ListN.{length, get_or}
use lib.IntN.{ℤ, pos}
use lib.Signed.{lt_z, le_z}
use Rattle.lists.proofs.Tests.{test, and_left, and_right, and_first, and_second}
use Rattle.tables.specs.Bodies.{steady, multiplicity, seldom, each_seldom}
use Rattle.parameter_order.specs.declared.Requirement.{Requirement}
use Rattle.parameter_order.specs.declared.Order.{Order}
use Rattle.parameter_order.specs.Stepping.{fresh, too_often, followed, may_follow, step_of, walked}
use Rattle.parameter_order.proofs.Comparing.{le_refl, le_trans, le_same, lt-le, le-no-lt, lt-no-le, no-lt-le, lt-le-lt, not-either}
use Rattle.basis.proofs.Trail.{at_first, at_next, trail, fine-trail, first-free}

steady-from : (a : ℤ) (x : List ℤ) (i : ℕ) → steady (a ∷ x) ≡ true → i < length x → le_z a (get_or x i (pos 0)) ≡ true
steady-from a [] i h l = absurd (omega arith)
steady-from a (b ∷ x) zero h l = and_left (le_z a b) (steady (b ∷ x)) h
steady-from a (b ∷ x) (suc i) h l =
    le_trans a b (get_or x i (pos 0)) (and_left (le_z a b) (steady (b ∷ x)) h) (steady-from b x i (and_right (le_z a b) (steady (b ∷ x)) h) (omega arith))

-- a value below a knot does not stand from there on
none_above : (a b : ℤ) (x : List ℤ) → lt_z a b ≡ true → steady (b ∷ x) ≡ true → multiplicity a (b ∷ x) ≡ 0
none_above a b [] h s = rw (lt-le a b h, lt-no-le a b h) refl
none_above a b (d ∷ x) h s =
    let l = and_left (le_z b d) (steady (d ∷ x)) s in
    rw (lt-le a b h, lt-no-le a b h) (none_above a d x (lt-le-lt a b d h l) (and_right (le_z b d) (steady (d ∷ x)) s))

stands : (a : ℤ) (x : List ℤ) → multiplicity a (a ∷ x) ≡ suc (multiplicity a x)
stands a x = rw (le_refl a) refl

-- the value a, which stands m times before x, and those of x
abbrev left : ℕ → ℤ → ℤ → ℤ → ℕ → List ℤ → Bool
left n lo hi a m x = seldom n lo hi a (m + multiplicity a x) && each_seldom n lo hi x

fewer : (t : Bool) (n p q : ℕ) (r : Bool) → p ≤ q → (cond t (leb q n) true && (cond t (leb p n) true && r)) ≡ (cond t (leb q n) true && r)
fewer false n p q r h = refl
fewer true n p q r h =
    ⊎_elim
    (λ (e : leb q n ≡ true). let m = leb-true q n e in let f : leb p n ≡ true = le-leb p n (omega arith) in rw (e, f) refl)
    (λ (e : leb q n ≡ false). rw e refl)
    (test (leb q n))

-- a value that is not below the end may stand any number of times
free-above : (n : ℕ) (lo hi a : ℤ) (m : ℕ) → lt_z a hi ≡ false → seldom n lo hi a m ≡ true
free-above n lo hi a m h = ap (λ (t : Bool). cond (lt_z lo a && t) (leb m n) true) h ∙ go (lt_z lo a)
  where
    go : (t : Bool) → cond (t && false) (leb m n) true ≡ true
    go true = refl
    go false = refl

-- a value has stood more than n times, or no more
more-than : (a n i : ℕ) → not (ltb (a + n) i) ≡ leb (i - a) n
more-than a n i =
    ⊎_elim
    (λ (e : leb (i - a) n ≡ true). let m = leb-true (i - a) n e in ap not (le-ltb (a + n) i (omega arith)) ∙ sym e)
    (λ (e : leb (i - a) n ≡ false). let m = leb-false (i - a) n e in ap not (lt-ltb (a + n) i (omega arith)) ∙ sym e)
    (test (leb (i - a) n))

table : (l k z p q : Bool) → (k ≡ true → q ≡ true) → z ≡ p → (k ≡ false → q ≡ false) → not (l && k && z) ≡ cond (p && q) (not l) true
table l true z p q f g h = ap (λ (t : Bool). not (l && true && t)) g ∙ go l p ∙ sym (ap (λ (t : Bool). cond (p && t) (not l) true) (f refl))
  where
    go : (l p : Bool) → not (l && true && p) ≡ cond (p && true) (not l) true
    go true true = refl
    go true false = refl
    go false true = refl
    go false false = refl
table l false z p q f g h = go l z ∙ sym (ap (λ (t : Bool). cond (p && t) (not l) true) (h refl) ∙ none p)
  where
    go : (l z : Bool) → not (l && false && z) ≡ true
    go true z = refl
    go false z = refl

    none : (p : Bool) → cond (p && false) (not l) true ≡ true
    none true = refl
    none false = refl

-- the knots x stand at index i of those whose x_n is lo and whose x_k is hi
record Inside (n k i : ℕ) (lo hi : ℤ) (o : Order) (x : List ℤ) : Type 0 where
  low-before : i ≤ n → (o.low ≡ o.previous) × (lo ≡ get_or x (n - i) (pos 0))
  low-after : n < i → o.low ≡ lo
  high-before : i ≤ k → hi ≡ get_or x (k - i) (pos 0)
  high_after : k < i → le_z hi o.previous ≡ true
  long : k < i + length x
  within : n ≤ k
  began : o.since ≤ i

abbrev pub knots : ℕ → ℕ → Requirement
knots n k = record { basis = 2; degree = n; low_at = n; high_at = k }

module _ (n k : ℕ) (lo hi : ℤ) where
  module _ (i : ℕ) (o : Order) (b : ℤ) (x : List ℤ) (w : Inside n k i lo hi o (b ∷ x)) where
    inside_on : (k < i → le_z o.previous b ≡ true) → Inside n k (suc i) lo hi (step_of (knots n k) i o b) x
    inside_on up =
        let l = w.long in
        let g = w.began in
        record {
          low-before = λ h. (
            ap (λ (t : Bool). cond t b o.low) (le-leb i n (omega arith)),
            (w.low-before (omega arith)).1 ∙ at_next b x (n - i) (n - suc i) (omega arith),
          );
          low-after = λ h.
              ⊎_elim
              (λ (e : leb i n ≡ true).
              let m = leb-true i n e in
              ap (λ (t : Bool). cond t b o.low) e ∙ sym ((w.low-before m).1 ∙ at_first b x (n - i) (omega arith)))
              (λ (e : leb i n ≡ false). ap (λ (t : Bool). cond t b o.low) e ∙ w.low-after (leb-false i n e))
              (test (leb i n));
          high-before = λ h. w.high-before (omega arith) ∙ at_next b x (k - i) (k - suc i) (omega arith);
          high_after = λ h.
              ⊎_elim
              (λ (e : leb i k ≡ true).
              let m = leb-true i k e in
              let f = w.high-before m ∙ at_first b x (k - i) (omega arith) in
              subst (λ (z : ℤ). le_z z b ≡ true) (sym f) (le_refl b))
              (λ (e : leb i k ≡ false). let m = leb-false i k e in le_trans hi o.previous b (w.high_after m) (up m))
              (test (leb i k));
          long = omega arith;
          within = w.within;
          began = go (lt_z o.previous b) g;
        }
      where
        go : (t : Bool) → o.since ≤ i → cond t i o.since ≤ suc i
        go true h = omega arith
        go false h = omega arith

    -- a greater knot follows: the one before it has stood i - since times
    module _ (s : steady (o.previous ∷ b ∷ x) ≡ true) (up : lt_z o.previous b ≡ true) (some : 0 < i) where
      ahead : (d : ℕ) → d < length (b ∷ x) → le_z b (get_or (b ∷ x) d (pos 0)) ≡ true
      ahead zero l = le_refl b
      ahead (suc d) l = steady-from b x d (and_right (le_z o.previous b) (steady (b ∷ x)) s) (omega arith)

      below-high : leb i k ≡ true → lt_z o.previous hi ≡ true
      below-high e =
          let h = leb-true i k e in
          let l = w.long in
          lt-le-lt o.previous b hi up (subst (λ (z : ℤ). le_z b z ≡ true) (sym (w.high-before h)) (ahead (k - i) (omega arith)))

      not-below : leb i k ≡ false → lt_z o.previous hi ≡ false
      not-below e = le-no-lt hi o.previous (w.high_after (leb-false i k e))

      same_low : lt_z o.low o.previous ≡ lt_z lo o.previous
      same_low =
          ⊎_elim
          (λ (e : leb i n ≡ true).
          let h = leb-true i n e in
          let l = w.long in
          let m = w.within in
          let f = w.low-before h in
          let g : le_z o.previous lo ≡ true = lt-le o.previous lo (lt-le-lt o.previous b lo up (subst (λ (z : ℤ). le_z b z ≡ true) (sym f.1) (ahead (n - i) (omega arith)))) in
          ap (λ (z : ℤ). lt_z z o.previous) f.0 ∙ le-no-lt o.previous o.previous (le_refl o.previous) ∙ sym (le-no-lt o.previous lo g))
          (λ (e : leb i n ≡ false). ap (λ (z : ℤ). lt_z z o.previous) (w.low-after (leb-false i n e)))
          (test (leb i n))

      verdict : may_follow (knots n k) i o b ≡ seldom n lo hi o.previous (i - o.since)
      unfolding followed too_often
      verdict =
          rw (ne_eqb i 0 (λ e. absurd (omega arith)), up)
          (table (ltb (o.since + n) i) (leb i k) (lt_z o.low o.previous) (lt_z lo o.previous) (lt_z o.previous hi) below-high same_low not-below
          ∙ ap (λ (t : Bool). cond (lt_z lo o.previous && lt_z o.previous hi) t true) (more-than o.since n i))

  -- an equal one follows
  may-stay : (i : ℕ) (o : Order) (b : ℤ) → lt_z o.previous b ≡ false → 0 < i → may_follow (knots n k) i o b ≡ le_z o.previous b
  unfolding followed
  may-stay i o b e h = rw (ne_eqb i 0 (λ f. absurd (omega arith)), e) refl

  -- knots that decrease fail
  unsteady : (i : ℕ) (o : Order) (x : List ℤ) → 0 < i → steady (o.previous ∷ x) ≡ false → trail (knots n k) i o x ≡ false
  unsteady i o [] h s = s
  unsteady i o (b ∷ x) h s =
      ⊎_elim
      (λ (e : le_z o.previous b ≡ true).
      and_second (may_follow (knots n k) i o b) (unsteady (suc i) (step_of (knots n k) i o b) x (omega arith) (sym (ap (λ (t : Bool). t && steady (b ∷ x)) e) ∙ s)))
      (λ (e : le_z o.previous b ≡ false).
      let f : lt_z o.previous b ≡ false = not-either o.previous b e in
      and_first (trail (knots n k) (suc i) (step_of (knots n k) i o b) x) (may-stay i o b f h ∙ e))
      (test (le_z o.previous b))

  -- knots that do not are judged by how often each stands
  judged : (i : ℕ) (o : Order) (x : List ℤ) → 0 < i → steady (o.previous ∷ x) ≡ true → Inside n k i lo hi o x → trail (knots n k) i o x ≡ left n lo hi o.previous (i - o.since) x
  judged i o [] some s w =
      let l = w.long in
      sym (ap (λ (t : Bool). t && true) (free-above n lo hi o.previous (i - o.since + 0) (le-no-lt hi o.previous (w.high_after (omega arith)))))
  judged i o (b ∷ x) some s w =
      let up = and_left (le_z o.previous b) (steady (b ∷ x)) s in
      let rest = and_right (le_z o.previous b) (steady (b ∷ x)) s in
      let on = judged (suc i) (step_of (knots n k) i o b) x (omega arith) rest (inside_on i o b x w (λ h. up)) in
      ⊎_elim
      (λ (e : lt_z o.previous b ≡ true).
      let m : suc i - cond true i o.since + multiplicity b x ≡ multiplicity b (b ∷ x) = rw (stands b x) (omega arith) in
      let z : i - o.since + multiplicity o.previous (b ∷ x) ≡ i - o.since = let y = none_above o.previous b x e rest in omega arith in
      ap₂ (λ (p q : Bool). p && q)
      (verdict i o b x w s e some ∙ ap (seldom n lo hi o.previous) (sym z))
      (on ∙ ap (λ (t : Bool). left n lo hi b (suc i - cond t i o.since) x) e ∙ ap (λ (c : ℕ). seldom n lo hi b c && each_seldom n lo hi x) m))
      (λ (e : lt_z o.previous b ≡ false).
      let f : o.previous ≡ b = le_same o.previous b up (no-lt-le o.previous b e) in
      let g = w.began in
      let m : suc i - o.since + multiplicity b x ≡ i - o.since + multiplicity b (b ∷ x) = rw (stands b x) (omega arith) in
      ap₂ (λ (p q : Bool). p && q) (may-stay i o b e some ∙ up) (on ∙ ap (λ (t : Bool). left n lo hi b (suc i - cond t i o.since) x) e ∙ ap (λ (c : ℕ). seldom n lo hi b c && each_seldom n lo hi x) m)
      ∙ sym (fewer (lt_z lo b && lt_z b hi) n (multiplicity b (b ∷ x)) (i - o.since + multiplicity b (b ∷ x)) (each_seldom n lo hi x) (omega arith))
      ∙ ap (λ (y : ℤ). seldom n lo hi y (i - o.since + multiplicity y (b ∷ x)) && each_seldom n lo hi (b ∷ x)) (sym f))
      (test (lt_z o.previous b))

-- ---- the whole walk
module _ (n k : ℕ) (b : ℤ) (x : List ℤ) (below : n ≤ k) (long : k < length (b ∷ x)) where
  abbrev lo : ℤ
  lo = get_or (b ∷ x) n (pos 0)

  abbrev hi : ℤ
  hi = get_or (b ∷ x) k (pos 0)

  at-start : Inside n k 0 lo hi fresh (b ∷ x)
  at-start =
      record {
        low-before = λ h. (refl, ap (λ (d : ℕ). get_or (b ∷ x) d (pos 0)) (sym (sub-zero n)));
        low-after = λ h. absurd (omega arith);
        high-before = λ h. ap (λ (d : ℕ). get_or (b ∷ x) d (pos 0)) (sym (sub-zero k));
        high_after = λ h. absurd (omega arith);
        long = omega arith;
        within = below;
        began = omega arith;
      }

  abbrev first : Order
  first = step_of (knots n k) 0 fresh b

  since-start : 1 - first.since + multiplicity b x ≡ multiplicity b (b ∷ x)
  since-start = let e = go (lt_z (pos 0) b) in let f = stands b x in omega arith
    where
      go : (t : Bool) → ◌≡◌ {A = ℕ} (cond t 0 0) 0
      go true = refl
      go false = refl

  trail-start : trail (knots n k) 1 first x ≡ (steady (b ∷ x) && each_seldom n lo hi (b ∷ x))
  trail-start =
      ⊎_elim
      (λ (e : steady (b ∷ x) ≡ true).
      judged n k lo hi 1 first x (omega arith) e (inside_on n k lo hi 0 fresh b x at-start (λ h. absurd (omega arith)))
      ∙ ap (λ (c : ℕ). seldom n lo hi b c && each_seldom n lo hi x) since-start
      ∙ sym (ap (λ (t : Bool). t && each_seldom n lo hi (b ∷ x)) e))
      (λ (e : steady (b ∷ x) ≡ false).
      unsteady n k lo hi 1 first x (omega arith) e
      ∙ sym (ap (λ (t : Bool). t && each_seldom n lo hi (b ∷ x)) e))
      (test (steady (b ∷ x)))

  pub knots-fine : (walked (knots n k) (b ∷ x)).fine ≡ (steady (b ∷ x) && each_seldom n lo hi (b ∷ x))
  knots-fine = fine-trail (knots n k) 0 fresh (b ∷ x) ∙ ap (λ (t : Bool). t && trail (knots n k) 1 first x) (first-free (knots n k) b) ∙ trail-start
