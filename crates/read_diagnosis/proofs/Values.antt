-- Words that all have their forms: their values one by one, and 9 and 12 of their corners.
use Prim.Native.Nat.{ℕ, zero, suc, ◌+◌, ◌≤◌, ◌<◌}
use mathlib.Core.Path.{◌≡◌, refl, sym, ap, ◌∙◌}
use mathlib.Core.List.{List, [], ◌∷◌}
use mathlib.Core.Bool.{Bool, true, false, cond, ◌&&◌}
use mathlib.Core.Option.{Option, none, some}
use lib.ListN.{drop}
use lib.Dec.{leb, eqb}
use lib.IntN.{ℤ}
use native.Mathlib.Omega.{arith}
use Rattle.text.specs.Words.{Word}
use Rattle.digits.specs.Said.{Said, says, wrong}
use Rattle.references.specs.Corner.{Corner, corner_of, agree, alike}
use Rattle.references.specs.Reference.{reference_of}
use Rattle.decimals.specs.Number.{number_of}
use Rattle.model.specs.Parse.{Parsed, fine, fault, then, placed, values_of, said_of, on_said, Value, number, corner, corners_of, WordForm, a-number, a-corner, a-control, Seen, differing, unlike, given, narrow}
use Rattle.read_word_checks.specs.declared.tests.Test.TheVariants.{Wide}
use Rattle.read_word_checks.specs.declared.tests.Tests.TheVariants.{All}
use Rattle.read_word_checks.specs.Faults.{Refusal, Refused, Nothing, check_of, on_check, fault_in, alike_said, alike_tests, on_first, pattern_fault, wide_said, given_by}

-- a word that must not be there
abbrev pub diagnosis_at : ℕ → Option ℕ → Refusal
diagnosis_at n none = Nothing
diagnosis_at n (some p) = Refused n p

-- ---- values one by one
pub record ConsOf (y : Said Value) (v : Parsed (List Value)) (xs : List Value) : Type 0 where
  pub value : Value
  pub others : List Value
  pub said : y ≡ says value
  pub rest : v ≡ fine others
  pub all : xs ≡ value ∷ others

never : {A : Type 0} {n p : ℕ} {xs : List Value} → ◌≡◌ {A = Parsed (List Value)} (fault n p) (fine xs) → A
never e = absurd (let z : ◌≡◌ {A = ℕ} 0 1 = cc in omega arith)

cons_of : (y : Said Value) (v : Parsed (List Value)) (p : ℕ) (xs : List Value) → then (placed y p) (λ x. then v (λ xs. fine (x ∷ xs))) ≡ fine xs → ConsOf y v xs
cons_of (says x) (fine ys) p xs e = record { value = x; others = ys; said = refl; rest = refl; all = cc }
cons_of (says x) (fault n q) p xs e = never e
cons_of (wrong n) v p xs e = never e

module _ (n : Seen) where
  pub values-cons : (f : ℕ → WordForm) (i : ℕ) (w : Word) (ws : List Word) (xs : List Value) → values_of n f i (w ∷ ws) ≡ fine xs → ConsOf (said_of n (f i) w) (values_of n f (suc i) ws) xs
  values-cons f i w ws xs e = cons_of (said_of n (f i) w) (values_of n f (suc i) ws) w.place xs e

  -- ---- the numbers of a range have no corners
  pub record Skipped (f : ℕ → WordForm) (i : ℕ) (ws : List Word) (xs : List Value) : Type 0 where
    pub values : List Value
    pub is : values_of n f i ws ≡ fine values
    pub corners : corners_of xs ≡ corners_of values

  number-corners : (y : Said ℤ) (x : Value) (xs : List Value) → on_said number y ≡ says x → corners_of (x ∷ xs) ≡ corners_of xs
  number-corners (says z) x xs e = let k : x ≡ number z = cc in rw k refl
  number-corners (wrong m) x xs e = absurd (let z : ◌≡◌ {A = ℕ} 0 1 = cc in omega arith)

  pub skip-values : (r i : ℕ) (f : ℕ → WordForm) (ws : List Word) (xs : List Value) → ((k : ℕ) → i ≤ k → k < r + i → f k ≡ a-number) → values_of n f i ws ≡ fine xs → Skipped f (r + i) (drop r ws) xs
  skip-values zero i f ws xs h e = let z : 0 + i ≡ i = omega arith in record { values = xs; is = ap (λ (k : ℕ). values_of n f k ws) z ∙ e; corners = refl }
  skip-values (suc r) i f [] xs h e = let k : xs ≡ [] = cc in record { values = []; is = refl; corners = rw k refl }
  skip-values (suc r) i f (w ∷ ws) xs h e =
      let c = values-cons f i w ws xs e in
      let s = skip-values r (suc i) f ws c.others (λ k a b. h k (omega arith) (omega arith)) c.rest in
      let g : f i ≡ a-number = h i (omega arith) (omega arith) in
      let y : said_of n a-number w ≡ says c.value = sym (ap (λ (a : WordForm). said_of n a w) g) ∙ c.said in
      let j : r + suc i ≡ suc r + i = omega arith in
      record {
        values = s.values;
        is = ap (λ (k : ℕ). values_of n f k (drop r ws)) (sym j) ∙ s.is;
        corners = ap corners_of c.all ∙ number-corners (number_of w.bytes) c.value c.others y ∙ s.corners;
      }

  -- ---- corners
  pub record CornerSaid (y : Said Corner) (x : Value) : Type 0 where
    pub found : Corner
    pub said : y ≡ says found
    pub value : x ≡ corner found

  corner-said : (y : Said Corner) (x : Value) → on_said corner y ≡ says x → CornerSaid y x
  corner-said (says c) x e = record { found = c; said = refl; value = cc }
  corner-said (wrong m) x e = absurd (let z : ◌≡◌ {A = ℕ} 0 1 = cc in omega arith)

  differs : (bare flat : Bool) (c d : Corner) (p : ℕ) (x : Refusal) (o : Option ℕ) → bare ≡ eqb c.vt 0 → flat ≡ eqb c.vn 0 → x ≡ diagnosis_at 9 o
      → on_check (check_of (alike_said bare flat (says d))) p x ≡ diagnosis_at 9 (cond (alike c d) o (some p))
  differs bare flat c d p x o g h k = rw (← g, ← h) (by (agree bare (eqb d.vt 0)) (agree flat (eqb d.vn 0)))
    where
      by : (a b : Bool) → on_check (check_of (cond a (cond b (says (corner d)) (wrong 9)) (wrong 9))) p x ≡ diagnosis_at 9 (cond (a && b) o (some p))
      by true true = k
      by true false = refl
      by false b = refl

  module _ (t : List ℤ) (a b : Bool) (f : ℕ → WordForm) where
    corner-cons : (i : ℕ) (w : Word) (ws : List Word) (xs : List Value) → f i ≡ a-corner (record { vt = a; vn = b }) → (e : values_of n f i (w ∷ ws) ≡ fine xs)
        → CornerSaid (corner_of n.counts (record { vt = a; vn = b }) w.bytes) (values-cons f i w ws xs e).value
    corner-cons i w ws xs h e = corner-said (corner_of n.counts (record { vt = a; vn = b }) w.bytes) _ (sym (ap (λ (y : WordForm). said_of n y w) h) ∙ (values-cons f i w ws xs e).said)

    pub alike-walk : (c : Corner) (i j : ℕ) (ws : List Word) (xs : List Value) → ((k : ℕ) → i ≤ k → f k ≡ a-corner (record { vt = a; vn = b })) → values_of n f i ws ≡ fine xs
        → fault_in n t (alike_tests a b c) 0 j ws ≡ diagnosis_at 9 (differing c ws (corners_of xs))
    alike-walk c i j [] xs h e = refl
    alike-walk c i j (w ∷ ws) xs h e =
        let v = values-cons f i w ws xs e in
        let d = corner-cons i w ws xs (h i (omega arith)) e in
        let k = alike-walk c (suc i) (suc j) ws v.others (λ k l. h k (omega arith)) v.rest in
        let y : xs ≡ corner d.found ∷ v.others = v.all ∙ ap (λ (x : Value). x ∷ v.others) d.value in
        ap (λ (z : Said Corner). on_check (check_of (alike_said (eqb c.vt 0) (eqb c.vn 0) z)) w.place (fault_in n t (alike_tests a b c) 0 (suc j) ws)) d.said
        ∙ differs (eqb c.vt 0) (eqb c.vn 0) c d.found w.place _ _ refl refl k
        ∙ sym (ap (λ (z : List Value). diagnosis_at 9 (differing c (w ∷ ws) (corners_of z))) y)

    pub pattern-walk : (i : ℕ) (ws : List Word) (xs : List Value) → ((k : ℕ) → i ≤ k → f k ≡ a-corner (record { vt = a; vn = b })) → values_of n f i ws ≡ fine xs
        → pattern_fault n t a b ws ≡ diagnosis_at 9 (unlike ws (corners_of xs))
    pattern-walk i [] xs h e = refl
    pattern-walk i (w ∷ ws) xs h e =
        let v = values-cons f i w ws xs e in
        let d = corner-cons i w ws xs (h i (omega arith)) e in
        let y : xs ≡ corner d.found ∷ v.others = v.all ∙ ap (λ (x : Value). x ∷ v.others) d.value in
        ap (λ (z : Said Corner). on_first z (λ c. fault_in n t (alike_tests a b c) 0 0 ws)) d.said
        ∙ alike-walk d.found (suc i) 0 ws v.others (λ k l. h k (omega arith)) v.rest
        ∙ sym (ap (λ (z : List Value). diagnosis_at 9 (unlike (w ∷ ws) (corners_of z))) y)

  -- ---- a curv2's controls: no part but their own, and held against the table of how many coordinates were given
  pub record ControlSaid (y : Said ℕ) (x : Value) : Type 0 where
    pub found : ℕ
    pub said : y ≡ says found
    pub value : x ≡ corner (record { v = found; vt = 0; vn = 0 })

  control-said : (y : Said ℕ) (x : Value) → on_said (λ k. corner (record { v = k; vt = 0; vn = 0 })) y ≡ says x → ControlSaid y x
  control-said (says k) x e = record { found = k; said = refl; value = cc }
  control-said (wrong m) x e = absurd (let z : ◌≡◌ {A = ℕ} 0 1 = cc in omega arith)

  module _ (f : ℕ → WordForm) (h : (k : ℕ) → f k ≡ a-control) where
    control-cons : (i : ℕ) (w : Word) (ws : List Word) (xs : List Value) → (e : values_of n f i (w ∷ ws) ≡ fine xs)
        → ControlSaid (reference_of n.vp w.bytes) (values-cons f i w ws xs e).value
    control-cons i w ws xs e = control-said (reference_of n.vp w.bytes) _ (sym (ap (λ (y : WordForm). said_of n y w) (h i)) ∙ (values-cons f i w ws xs e).said)

    control-all : (i : ℕ) (w : Word) (ws : List Word) (xs : List Value) → (e : values_of n f i (w ∷ ws) ≡ fine xs)
        → xs ≡ corner (record { v = (control-cons i w ws xs e).found; vt = 0; vn = 0 }) ∷ (values-cons f i w ws xs e).others
    control-all i w ws xs e =
        (values-cons f i w ws xs e).all ∙ ap (λ (x : Value). x ∷ (values-cons f i w ws xs e).others) (control-cons i w ws xs e).value

    bare-differing : (k i : ℕ) (ws : List Word) (xs : List Value) → values_of n f i ws ≡ fine xs → differing (record { v = k; vt = 0; vn = 0 }) ws (corners_of xs) ≡ none
    bare-differing k i [] xs e = refl
    bare-differing k i (w ∷ ws) xs e =
        let v = values-cons f i w ws xs e in
        ap (λ (z : List Value). differing (record { v = k; vt = 0; vn = 0 }) (w ∷ ws) (corners_of z)) (control-all i w ws xs e)
        ∙ bare-differing k (suc i) ws v.others v.rest

    pub bare-unlike : (i : ℕ) (ws : List Word) (xs : List Value) → values_of n f i ws ≡ fine xs → unlike ws (corners_of xs) ≡ none
    bare-unlike i [] xs e = refl
    bare-unlike i (w ∷ ws) xs e =
        let v = values-cons f i w ws xs e in
        ap (λ (z : List Value). unlike (w ∷ ws) (corners_of z)) (control-all i w ws xs e)
        ∙ bare-differing (control-cons i w ws xs e).found (suc i) ws v.others v.rest

    module _ (t : List ℤ) (vps : List (List ℤ)) (held : (k : ℕ) (w : List ℕ) → reference_of n.vp w ≡ says k → given_by t k ≡ leb 2 (given vps k)) where
      narrows : (k p : ℕ) (x : Refusal) (o : Option ℕ) (g : Bool) → given_by t k ≡ g → x ≡ diagnosis_at 12 o
          → on_check (check_of (wide_said t (says k))) p x ≡ diagnosis_at 12 (cond g o (some p))
      narrows k p x o true g e = rw g e
      narrows k p x o false g e = rw g refl

      pub narrow_walk : (i j : ℕ) (ws : List Word) (xs : List Value) → values_of n f i ws ≡ fine xs → fault_in n t (All Wide) 0 j ws ≡ diagnosis_at 12 (narrow vps ws (corners_of xs))
      narrow_walk i j [] xs e = refl
      narrow_walk i j (w ∷ ws) xs e =
          let v = values-cons f i w ws xs e in
          let d = control-cons i w ws xs e in
          ap (λ (z : Said ℕ). on_check (check_of (wide_said t z)) w.place (fault_in n t (All Wide) 0 (suc j) ws)) d.said
          ∙ narrows d.found w.place _ _ _ (held d.found w.bytes d.said) (narrow_walk (suc i) (suc j) ws v.others v.rest)
          ∙ sym (ap (λ (z : List Value). diagnosis_at 12 (narrow vps (w ∷ ws) (corners_of z))) (control-all i w ws xs e))
