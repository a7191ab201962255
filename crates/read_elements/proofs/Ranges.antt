-- The numbers of a range are the values of a line's first words, and the rest of the line follows; and back. By the words.
use Prim.Native.Nat.{ℕ, zero, suc, ◌+◌, ◌<◌, ◌≤◌}
use mathlib.Core.Path.{◌≡◌, refl, sym, ap, ap₂, ◌∙◌}
use mathlib.Core.List.{List, [], ◌∷◌, ◌++◌, map}
use mathlib.Core.Option.{Option, none, some}
use lib.ListN.{length, drop}
use lib.IntN.{ℤ}
use native.Mathlib.Nat.{add-zero}
use native.Mathlib.Omega.{arith}
use Rattle.text.specs.Words.{Word}
use Rattle.text.specs.Rest.{Rest}
use Rattle.digits.specs.Said.{Said, says, wrong}
use Rattle.decimals.specs.Number.{number_of}
use Rattle.read_state.specs.Numbers.{Walk, ended, full, stuck, onto_walk, on_number, numbers_from}
use Rattle.model.specs.Parse.{Parsed, fine, fault, then, WordForm, a-number, Value, number, on_said, Seen, said_of, placed, values_of}
use Rattle.read_elements.proofs.Values.{headed}

abbrev pub whole : List Word → Option ℕ → ℕ → Rest
whole ws b q = record { words = ws; bad = b; next = q }

then_same : {A : Type 0} (y : Parsed A) → y ≡ then y (λ a. fine a)
then_same (fine a) = refl
then_same (fault n p) = refl

then-then : (y : Parsed (List Value)) (v : Value) (vs : List Value) → then (then y (λ l. fine (vs ++ l))) (λ l. fine (v ∷ l)) ≡ then y (λ l. fine (v ∷ (vs ++ l)))
then-then (fine l) v vs = refl
then-then (fault n p) v vs = refl

module _ (x : Seen) (form : ℕ → WordForm) where
  -- the m words from the i-th on are read as numbers
  pub record Numbers (i m : ℕ) : Type 0 where
    pub reads : (j : ℕ) → i ≤ j → j < i + m → form j ≡ a-number

  later : (i m : ℕ) → Numbers i (suc m) → Numbers (suc i) m
  later i m r = record { reads = λ j k l. r.reads j (omega arith) (omega arith) }

  pub record Ranged (m i : ℕ) (ws : List Word) (b : Option ℕ) (q : ℕ) (zs : List ℤ) (r : Rest) : Type 0 where
    pub rest : r ≡ whole (drop m ws) b q
    pub counted : length ws ≡ m + length (drop m ws)
    pub values : values_of x form i ws ≡ then (values_of x form (i + m) (drop m ws)) (λ vs. fine (map number zs ++ vs))

  ranged-word : (m i : ℕ) (w : Word) (ws : List Word) (b : Option ℕ) (q : ℕ) (zs : List ℤ) (r : Rest) (v : Said ℤ) (k : Walk) → form i ≡ a-number
      → number_of w.bytes ≡ v → ((ys : List ℤ) (t : Rest) → k ≡ full ys t → Ranged m (suc i) ws b q ys t) → on_number v k ≡ full zs r → Ranged (suc m) i (w ∷ ws) b q zs r
  ranged-word m i w ws b q zs r (wrong n) k f v ih e = absurd (let z : ◌≡◌ {A = ℕ} 0 1 = cc in omega arith)
  ranged-word m i w ws b q zs r (says z) (ended ys p) f v ih e = absurd (let y : ◌≡◌ {A = ℕ} 0 1 = cc in omega arith)
  ranged-word m i w ws b q zs r (says z) stuck f v ih e = absurd (let y : ◌≡◌ {A = ℕ} 0 1 = cc in omega arith)
  ranged-word m i w ws b q zs r (says z) (full ys t) f v ih e =
      let g : z ∷ ys ≡ zs = cc in
      let d : t ≡ r = cc in
      let o = ih ys t refl in
      let c = o.counted in
      let at : suc i + m ≡ i + suc m = omega arith in
      let rest-values = values_of x form (suc i) ws in
      let first : values_of x form i (w ∷ ws) ≡ then rest-values (λ l. fine (number z ∷ l)) = rw (f, v) refl in
      record {
        rest = sym d ∙ o.rest;
        counted = omega arith;
        values =
            first ∙ ap (λ (y : Parsed (List Value)). then y (λ l. fine (number z ∷ l))) o.values
            ∙ then-then (values_of x form (suc i + m) (drop m ws)) (number z) (map number ys)
            ∙ ap₂ (λ (j : ℕ) (l : List ℤ). then (values_of x form j (drop m ws)) (λ vs. fine (map number l ++ vs))) at g;
      }

  pub ranged : (m i : ℕ) → Numbers i m → (ws : List Word) (b : Option ℕ) (q : ℕ) (zs : List ℤ) (r : Rest) → numbers_from m ws b q ≡ full zs r → Ranged m i ws b q zs r
  ranged zero i n ws b q zs r e =
      let g : [] ≡ zs = cc in
      let d : whole ws b q ≡ r = cc in
      record {
        rest = sym d;
        counted = omega arith;
        values =
            then_same (values_of x form i ws)
            ∙ ap₂ (λ (j : ℕ) (l : List ℤ). then (values_of x form j ws) (λ vs. fine (map number l ++ vs))) (sym (add-zero i)) g;
      }
  ranged (suc m) i n [] none q zs r e = absurd (let z : ◌≡◌ {A = ℕ} 0 1 = cc in omega arith)
  ranged (suc m) i n [] (some p) q zs r e = absurd (let z : ◌≡◌ {A = ℕ} 0 1 = cc in omega arith)
  ranged (suc m) i n (w ∷ ws) b q zs r e =
      ranged-word m i w ws b q zs r (number_of w.bytes) (numbers_from m ws b q) (n.reads i (omega arith) (omega arith)) refl (λ ys t h. ranged m (suc i) (later i m n) ws b q ys t h) e

  -- ---- and back
  pub record Back (m i : ℕ) (ws : List Word) (b : Option ℕ) (q : ℕ) (xs : List Value) : Type 0 where
    pub range : List ℤ
    pub others : List Value
    pub is : xs ≡ map number range ++ others
    pub walked : numbers_from m ws b q ≡ full range (whole (drop m ws) b q)
    pub values : values_of x form (i + m) (drop m ws) ≡ fine others

  pub back : (m i : ℕ) → Numbers i m → (ws : List Word) (b : Option ℕ) (q : ℕ) (xs : List Value) → m ≤ length ws → values_of x form i ws ≡ fine xs → Back m i ws b q xs
  back zero i n ws b q xs h e =
      record { range = []; others = xs; is = refl; walked = refl; values = ap (λ (j : ℕ). values_of x form j ws) (add-zero i) ∙ e }
  back (suc m) i n [] b q xs h e = absurd (omega arith)
  back (suc m) i n (w ∷ ws) b q xs h e =
      let y = values_of x form (suc i) ws in
      let is_number = n.reads i (omega arith) (omega arith) in
      let f : then (placed (on_said number (number_of w.bytes)) w.place) (λ a. then y (λ bs. fine (a ∷ bs))) ≡ fine xs =
      ap (λ (k : WordForm). then (placed (said_of x k w) w.place) (λ a. then y (λ bs. fine (a ∷ bs)))) (sym is_number) ∙ e in
      let a = headed number (number_of w.bytes) w.place y xs f in
      let t = back m (suc i) (later i m n) ws b q a.tail (omega arith) a.rest in
      let at : i + suc m ≡ suc i + m = omega arith in
      record {
        range = a.head ∷ t.range;
        others = t.others;
        is = a.whole ∙ ap (λ (l : List Value). number a.head ∷ l) t.is;
        walked =
            ap (λ (v : Said ℤ). on_number v (numbers_from m ws b q)) a.said ∙ ap (onto_walk a.head) t.walked;
        values = ap (λ (j : ℕ). values_of x form j (drop m ws)) at ∙ t.values;
      }
