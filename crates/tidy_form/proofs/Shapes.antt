-- Values that fit the forms of a line are the values of its statement: by the values.
use Prim.Native.Nat.{ℕ, zero, suc, ◌+◌, ◌%◌, ◌≤◌}
use mathlib.Core.Path.{◌≡◌, refl, ap, ap₂, subst}
use mathlib.Core.List.{List, [], ◌∷◌, ◌++◌, map}
use mathlib.Core.Bool.{true, false, cond}
use lib.ListN.{length}
use lib.Dec.{ltb, eqb}
use lib.IntN.{ℤ}
use native.Mathlib.Omega.{arith}
use native.Mathlib.Nat.{le_refl}
use borrow.Author.Tests.{le-ltb, lt-ltb, ne_eqb, eq-eqb}
use Rattle.lists.specs.Lists.{all, flat}
use Rattle.lists.proofs.Tests.{and_left, and_right, and_both}
use Rattle.text.specs.Words.{Word}
use Rattle.references.specs.Corner.{Corner, Parts}
use Rattle.references.specs.Fits.{number_fits}
use Rattle.model.specs.Model.{Free, curve, curve2, surface, Part}
use Rattle.model.specs.Parse.{WordForm, a-number, a-corner, a-control, a-curve, a-name, Value, number, corner, name, Seen, control_form, range_words}
use Rattle.tidy_form.proofs.Values.{part_values}
use Rattle.tidy_form.proofs.Words.{Fits, Fitting}

pub fits-is : (n : Seen) (f h : WordForm) (x : Value) → f ≡ h → Fits n f x → Fits n h x
fits-is n f h x e q = subst (λ (g : WordForm). Fits n g x) e q

-- the forms from the i-th word on decide
pub fitting-is : (n : Seen) (f h : ℕ → WordForm) (i : ℕ) (xs : List Value) → ((j : ℕ) → i ≤ j → f j ≡ h j) → Fitting n f i xs → Fitting n h i xs
fitting-is n f h i [] e q = tt
fitting-is n f h i (x ∷ xs) e q = (fits-is n (f i) (h i) x (e i (le_refl i)) q.0, fitting-is n f h (suc i) xs (λ j l. e j (omega arith)) q.1)

-- ---- numbers, corners, names
pub numbers_fit : (n : Seen) (i : ℕ) (xs : List Value) → Fitting n (λ j. a-number) i xs → (z : List ℤ) × (xs ≡ map number z) × (all number_fits z ≡ true)
numbers_fit n i [] q = ([], refl, refl)
numbers_fit n i (x ∷ xs) q =
    let r = numbers_fit n (suc i) xs q.1 in
    (q.0.0 ∷ r.0, ap₂ (λ (a : Value) (b : List Value). a ∷ b) q.0.1 r.1, and_both q.0.2 r.2)

pub fit-numbers : (n : Seen) (i : ℕ) (z : List ℤ) → all number_fits z ≡ true → Fitting n (λ j. a-number) i (map number z)
fit-numbers n i [] h = tt
fit-numbers n i (a ∷ z) h = ((a, refl, and_left (number_fits a) (all number_fits z) h), fit-numbers n (suc i) z (and_right (number_fits a) (all number_fits z) h))

pub corners-fit : (n : Seen) (k : Parts) (i : ℕ) (xs : List Value) → Fitting n (λ j. a-corner k) i xs → (cs : List Corner) × (xs ≡ map corner cs)
corners-fit n k i [] q = ([], refl)
corners-fit n k i (x ∷ xs) q =
    let r = corners-fit n k (suc i) xs q.1 in
    (q.0.0 ∷ r.0, ap₂ (λ (a : Value) (b : List Value). a ∷ b) q.0.1 r.1)

points-fit : (n : Seen) (i : ℕ) (xs : List Value) → Fitting n (λ j. a-control) i xs → (cs : List Corner) × (xs ≡ map corner cs)
points-fit n i [] q = ([], refl)
points-fit n i (x ∷ xs) q =
    let r = points-fit n (suc i) xs q.1 in
    (record { v = q.0.0; vt = 0; vn = 0 } ∷ r.0, ap₂ (λ (a : Value) (b : List Value). a ∷ b) q.0.1 r.1)

pub controls-fit : (n : Seen) (k : Free) (i : ℕ) (xs : List Value) → Fitting n (λ j. control_form k) i xs → (cs : List Corner) × (xs ≡ map corner cs)
controls-fit n curve i xs q = corners-fit n (record { vt = false; vn = false }) i xs q
controls-fit n curve2 i xs q = points-fit n i xs q
controls-fit n surface i xs q = corners-fit n (record { vt = true; vn = true }) i xs q

pub names-fit : (n : Seen) (i : ℕ) (xs : List Value) → Fitting n (λ j. a-name) i xs → (ws : List Word) × (xs ≡ map name ws)
names-fit n i [] q = ([], refl)
names-fit n i (x ∷ xs) q =
    let r = names-fit n (suc i) xs q.1 in
    (q.0.0 ∷ r.0, ap₂ (λ (a : Value) (b : List Value). a ∷ b) q.0.1 r.1)

-- ---- a body's line: numbers, then controls
pub record Split (r : ℕ) (xs : List Value) : Type 0 where
  pub numbers : List ℤ
  pub corners : List Corner
  pub many : length numbers ≡ r
  pub are : xs ≡ map number numbers ++ map corner corners

module _ (n : Seen) (k : Free) where
  abbrev line_form : ℕ → WordForm
  line_form i = cond (ltb i (range_words k)) a-number (control_form k)

  pub line-fit : (m i : ℕ) (xs : List Value) → i + m ≡ range_words k → m ≤ length xs → Fitting n line_form i xs → Split m xs
  line-fit zero i xs e l q =
      let r = controls-fit n k i xs (fitting-is n line_form (λ j. control_form k) i xs (λ j b. rw (le-ltb j (range_words k) (omega arith)) refl) q) in
      record { numbers = []; corners = r.0; many = refl; are = r.1 }
  line-fit (suc m) i [] e l q = absurd (omega arith)
  line-fit (suc m) i (x ∷ xs) e l q =
      let f = fits-is n (line_form i) a-number x (rw (lt-ltb i (range_words k) (omega arith)) refl) q.0 in
      let r = line-fit m (suc i) xs (omega arith) (omega arith) q.1 in
      record { numbers = f.0 ∷ r.numbers; corners = r.corners; many = ap suc r.many; are = ap₂ (λ (a : Value) (b : List Value). a ∷ b) f.1 r.are }

-- ---- a loop's line: two numbers and a curve, again and again
module _ (n : Seen) where
  abbrev loop_form : ℕ → WordForm
  loop_form i = cond (eqb (i % 3) 2) a-curve a-number

  number-at : (i : ℕ) → (i % 3 ≡ 2 → ⊥) → loop_form i ≡ a-number
  number-at i h = rw (ne_eqb (i % 3) 2 h) refl

  curve-at : (i : ℕ) → i % 3 ≡ 2 → loop_form i ≡ a-curve
  curve-at i h = rw (eq-eqb (i % 3) 2 h) refl

  pub loop-fit : (i : ℕ) (xs : List Value) → i % 3 ≡ 0 → length xs % 3 ≡ 0 → Fitting n loop_form i xs → (ps : List Part) × (xs ≡ flat part_values ps)
  loop-fit i [] e l q = ([], refl)
  loop-fit i (a ∷ []) e l q = absurd (omega arith)
  loop-fit i (a ∷ b ∷ []) e l q = absurd (omega arith)
  loop-fit i (a ∷ b ∷ c ∷ xs) e l q =
      let f = fits-is n (loop_form i) a-number a (number-at i (λ h. omega arith)) q.0 in
      let h = fits-is n (loop_form (suc i)) a-number b (number-at (suc i) (λ h. omega arith)) q.1.0 in
      let u = fits-is n (loop_form (suc (suc i))) a-curve c (curve-at (suc (suc i)) (omega arith)) q.1.1.0 in
      let r = loop-fit (suc (suc (suc i))) xs (omega arith) (omega arith) q.1.1.1 in
      (record { from = f.0; to = h.0; curve = u.0 } ∷ r.0, cc)
