-- Of the values of a line, how many are corners, numbers or wholes, by the forms of its words.
use Prim.Native.Nat.{ℕ, zero, suc, ◌+◌, ◌*◌, ◌-◌, ◌%◌, ◌≤◌, ◌<◌}
use mathlib.Core.Path.{◌≡◌, sym, ap, ◌∙◌}
use mathlib.Core.List.{List, [], ◌∷◌}
use mathlib.Core.Bool.{true, false, cond}
use mathlib.Core.Option.{Option, none, some}
use mathlib.Core.Logic.{⊎_elim}
use native.Mathlib.Omega.{arith}
use borrow.Author.Tests.{eqb-true, eqb-false}
use lib.ListN.{length}
use lib.Dec.{eqb}
use Rattle.lists.proofs.Tests.{test}
use Rattle.text.specs.Words.{Word}
use Rattle.digits.specs.Said.{Said, says, wrong}
use Rattle.model.specs.Model.{ParmDirection}
use Rattle.model.specs.Parse.{fine, placed, WordForm, a-number, a-curve, a-direction, Value, number, whole, direction, on_said, direction_said, direction_of, Seen, said_of, values_of, numbers_of, corners_of, wholes_of}
use Rattle.model.proofs.Parsed.{fine-fault, fine-is, then-fine}
use Rattle.model.proofs.Values.{values_length, numbers-few, corners-few}

-- ---- a word's value by its form
said-placed : {A C : Type 0} (f : A → C) (x : Said A) (p : ℕ) (v : C) → placed (on_said f x) p ≡ fine v → (a : A) × (v ≡ f a)
said-placed f (says a) p v h = (a, (let z : f a ≡ v = fine-is h in sym z))
said-placed f (wrong n) p v h = fine-fault h

direction-placed : (o : Option ParmDirection) (p : ℕ) (v : Value) → placed (direction_said o) p ≡ fine v → (d : ParmDirection) × (v ≡ direction d)
direction-placed none p v h = fine-fault h
direction-placed (some d) p v h = (d, (let z : direction d ≡ v = fine-is h in sym z))

module _ (n : Seen) (f : ℕ → WordForm) where
  -- the first value, and those after it
  pub record Cons (i : ℕ) (w : Word) (ws : List Word) (xs : List Value) : Type 0 where
    pub first : Value
    pub others : List Value
    pub is : xs ≡ first ∷ others
    pub said : placed (said_of n (f i) w) w.place ≡ fine first
    pub rest : values_of n f (suc i) ws ≡ fine others

  cons : (i : ℕ) (w : Word) (ws : List Word) (xs : List Value) → values_of n f i (w ∷ ws) ≡ fine xs → Cons i w ws xs
  cons i w ws xs h =
      let p = then-fine (placed (said_of n (f i) w) w.place) _ xs h in
      let q = then-fine (values_of n f (suc i) ws) _ xs p.2 in
      let z : p.0 ∷ q.0 ≡ xs = fine-is q.2 in
      record { first = p.0; others = q.0; is = sym z; said = p.1; rest = q.1 }

  a-number-first : (i : ℕ) (w : Word) (v : Value) → f i ≡ a-number → placed (said_of n (f i) w) w.place ≡ fine v → (z : lib.IntN.ℤ) × (v ≡ number z)
  a-number-first i w v e h = said-placed number (Rattle.decimals.specs.Number.number_of w.bytes) w.place v (rw e at h)

  -- words that are numbers are no corners
  pub corners-after : (r i : ℕ) (ws : List Word) (xs : List Value) → ((k : ℕ) → k < i + r → f k ≡ a-number) → values_of n f i ws ≡ fine xs → length (corners_of xs) ≤ length ws - r
  corners-after zero i ws xs g h = let a = corners-few xs in let b = values_length n f i ws xs h in omega arith
  corners-after (suc r) i [] xs g h = let z : [] ≡ xs = fine-is h in let e : length (corners_of xs) ≡ 0 = ap (λ (l : List Value). length (corners_of l)) (sym z) in omega arith
  corners-after (suc r) i (w ∷ ws) xs g h =
      let c = cons i w ws xs h in
      let v = a-number-first i w c.first (g i (omega arith)) c.said in
      let j = corners-after r (suc i) ws c.others (λ k l. g k (omega arith)) c.rest in
      let e : length (corners_of xs) ≡ length (corners_of c.others) = ap (λ (l : List Value). length (corners_of l)) (c.is ∙ ap (λ (x : Value). x ∷ c.others) v.1) in
      omega arith

  -- a direction is no number
  pub numbers_after : (w : Word) (ws : List Word) (xs : List Value) → f 0 ≡ a-direction → values_of n f 0 (w ∷ ws) ≡ fine xs → length (numbers_of xs) ≤ length ws
  numbers_after w ws xs e h =
      let c = cons 0 w ws xs h in
      let d = direction-placed (direction_of (Rattle.keywords.specs.Arguments.argument_of w.bytes)) w.place c.first (rw e at c.said) in
      let a = numbers-few c.others in
      let b = values_length n f 1 ws c.others c.rest in
      let z : length (numbers_of xs) ≡ length (numbers_of c.others) = ap (λ (l : List Value). length (numbers_of l)) (c.is ∙ ap (λ (x : Value). x ∷ c.others) d.1) in
      omega arith

-- every third word is a whole number
module _ (n : Seen) where
  abbrev third : ℕ → WordForm
  third i = cond (eqb (i % 3) 2) a-curve a-number

  pub thirds : (i : ℕ) (ws : List Word) (xs : List Value) → values_of n third i ws ≡ fine xs → 3 * length (wholes_of xs) ≤ length ws + i % 3
  thirds i [] xs h = let z : [] ≡ xs = fine-is h in let e : length (wholes_of xs) ≡ 0 = ap (λ (l : List Value). length (wholes_of l)) (sym z) in omega arith
  thirds i (w ∷ ws) xs h =
      let c = cons n third i w ws xs h in
      let j = thirds (suc i) ws c.others c.rest in
      ⊎_elim
      (λ (t : eqb (i % 3) 2 ≡ true).
      let k = said-placed whole (Rattle.references.specs.Reference.reference_of n.curves w.bytes) w.place c.first (rw t at c.said) in
      let e : length (wholes_of xs) ≡ suc (length (wholes_of c.others)) = ap (λ (l : List Value). length (wholes_of l)) (c.is ∙ ap (λ (x : Value). x ∷ c.others) k.1) in
      let u : i % 3 ≡ 2 = eqb-true (i % 3) 2 t in
      omega arith)
      (λ (t : eqb (i % 3) 2 ≡ false).
      let k = said-placed number (Rattle.decimals.specs.Number.number_of w.bytes) w.place c.first (rw t at c.said) in
      let e : length (wholes_of xs) ≡ length (wholes_of c.others) = ap (λ (l : List Value). length (wholes_of l)) (c.is ∙ ap (λ (x : Value). x ∷ c.others) k.1) in
      let u : i % 3 ≡ 2 → ⊥ = eqb-false (i % 3) 2 t in
      let v : suc i % 3 ≡ suc (i % 3) = onward i u in
      omega arith)
      (test (eqb (i % 3) 2))
    where
      onward : (i : ℕ) → (i % 3 ≡ 2 → ⊥) → suc i % 3 ≡ suc (i % 3)
      onward i h = omega arith
