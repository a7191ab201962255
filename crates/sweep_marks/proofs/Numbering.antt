-- Marks turned into numbers, one entry after the other; and that a record has a number where it is marked.
use Prim.Native.Nat.{ℕ, zero, suc, ◌+◌, ◌*◌, ◌≤◌, ◌<◌}
use mathlib.Core.Path.{◌≡◌, refl, sym, ap, ap₂, ◌∙◌}
use mathlib.Core.List.{List, [], ◌∷◌, ◌++◌, append_assoc}
use mathlib.Core.Bool.{Bool, true, false, cond, not}
use mathlib.Core.Logic.{◌⊎◌, inl, inr}
use native.Mathlib.Decide.{dec_le}
use native.Mathlib.Numerals.{add-one}
use native.Mathlib.Omega.{arith}
use borrow.Author.Tests.{ne_eqb}
use lib.Dec.{eqb}
use lib.ListN.{length, get_or, set, drop, length-set, get_or-append}
use lib.Seq.{drop-cons, set_at, get_or_at}
use Rattle.lists.proofs.Tests.{test}
use Rattle.sweep_marks.specs.Counting.{kept_upto, new_number, new_numbers, flat_below}
use Rattle.sweep_marks.specs.Marks.{marked_in}
use Rattle.sweep_marks.proofs.Counting.{kept-most, kept_same}
use Rattle.sweep_marks.proofs.FlatBelow.{flat_below-same, flat_below-length}

pub length-numbers : (f : ℕ → Bool) (n : ℕ) → length (new_numbers f n) ≡ n
unfolding new_numbers
length-numbers f n = flat_below-length (λ i. new_number f (suc i) ∷ []) 1 n (λ i l. refl) ∙ (let e : 1 * n ≡ n = omega arith in e)

pub numbers-same : (f g : ℕ → Bool) (n : ℕ) → ((i : ℕ) → i < n → f (suc i) ≡ g (suc i)) → new_numbers f n ≡ new_numbers g n
unfolding new_numbers
numbers-same f g n h =
    flat_below-same _ _ n (λ i l.
    ap₂ (λ (b : Bool) (k : ℕ). cond b k 0 ∷ []) (h i l) (kept_same f g (suc i) (λ j m. h j (omega arith))))

-- ---- reading them
pub numbers-at : (f : ℕ → Bool) (n i : ℕ) → i < n → get_or (new_numbers f n) i 0 ≡ new_number f (suc i)
unfolding new_numbers
numbers-at f zero i h = absurd (omega arith)
numbers-at f (suc n) i h = go (dec_le (suc i) n) (numbers-at f n i)
  where
    long : length (flat_below n (λ j. new_number f (suc j) ∷ [])) ≡ n
    long = flat_below-length (λ j. new_number f (suc j) ∷ []) 1 n (λ j l. refl) ∙ (let e : 1 * n ≡ n = omega arith in e)

    go : Dec (suc i ≤ n) → (suc i ≤ n → get_or (flat_below n (λ j. new_number f (suc j) ∷ [])) i 0 ≡ new_number f (suc i)) →
        get_or (flat_below n (λ j. new_number f (suc j) ∷ []) ++ (new_number f (suc n) ∷ [])) i 0 ≡ new_number f (suc i)
    go (yes l) r = (let k : i < length (flat_below n (λ j. new_number f (suc j) ∷ [])) = rw long l in get_or-append (flat_below n (λ j. new_number f (suc j) ∷ [])) (new_number f (suc n) ∷ []) 0 i k) ∙ r l
    go (no l) r =
        let e : i ≡ n = omega arith in
        rw e (get_or_at (flat_below n (λ j. new_number f (suc j) ∷ [])) (new_number f (suc n)) [] 0 n long)

-- a record has a number exactly where it passes the test
pub numbers-marked : (f : ℕ → Bool) (n i : ℕ) → i < n → marked_in (new_numbers f n) (suc i) ≡ f (suc i)
numbers-marked f n i h = ap (λ (k : ℕ). not (eqb k 0)) (numbers-at f n i h) ∙ go (test (f (suc i)))
  where
    go : (f (suc i) ≡ true) ⊎ (f (suc i) ≡ false) → not (eqb (new_number f (suc i)) 0) ≡ f (suc i)
    go (inl e) = rw (e, ne_eqb (kept_upto f i + 1) 0 (λ z. omega arith))
    go (inr e) = rw e

-- ---- the loop: the first i entries are numbers, the rest are marks
pub record Numbered (l m : List ℕ) (kept i : ℕ) : Type 0 where
  pub within : i ≤ length l
  pub long : length m ≡ length l
  pub counted : kept ≡ kept_upto (marked_in l) i
  pub front : m ≡ new_numbers (marked_in l) i ++ drop i l

pub numbered-none : (l : List ℕ) → Numbered l l 0 0
unfolding new_numbers
numbered-none l = record { within = omega arith; long = refl; counted = refl; front = refl }

module _ {l m : List ℕ} {kept i : ℕ} (n : Numbered l m kept i) where
  pub numbered-most : kept ≤ i
  numbered-most = rw n.counted (kept-most (marked_in l) i)

  here : i < length l → m ≡ new_numbers (marked_in l) i ++ get_or l i 0 ∷ drop (suc i) l
  here h = n.front ∙ ap (λ (x : List ℕ). new_numbers (marked_in l) i ++ x) (drop-cons l i 0 h)

  same : i < length l → get_or m i 0 ≡ get_or l i 0
  same h = ap (λ (x : List ℕ). get_or x i 0) (here h) ∙ get_or_at (new_numbers (marked_in l) i) (get_or l i 0) (drop (suc i) l) 0 i (length-numbers (marked_in l) i)

  pub numbered_more : {m' : List ℕ} {r : ℕ} → i < length l → r ≡ kept + cond (eqb (get_or m i 0) 0) 0 1 → m' ≡ set m i (cond (eqb (get_or m i 0) 0) 0 (kept + 1)) →
      Numbered l m' r (i + 1)
  unfolding new_numbers
  numbered_more {m'} {r} h a b =
      let f : ℕ → Bool = marked_in l in
      let value : cond (eqb (get_or m i 0) 0) 0 (kept + 1) ≡ new_number f (suc i) = rw (same h, n.counted) (go (eqb (get_or l i 0) 0)) in
      record {
        within = omega arith;
        long = ap length b ∙ length-set m i _ ∙ n.long;
        counted = a ∙ rw (same h, n.counted, add-one i) (count (eqb (get_or l i 0) 0));
        front =
            b ∙ ap₂ (λ (x : List ℕ) (k : ℕ). set x i k) (here h) value
            ∙ set_at (new_numbers f i) (get_or l i 0) (drop (suc i) l) (new_number f (suc i)) i (length-numbers f i)
            ∙ rw add-one (sym (append_assoc (new_numbers f i) (new_number f (suc i) ∷ []) (drop (suc i) l)));
      }
    where
      go : (z : Bool) → cond z 0 (kept_upto (marked_in l) i + 1) ≡ cond (not z) (kept_upto (marked_in l) i + cond (not z) 1 0) 0
      go true = refl
      go false = refl

      count : (z : Bool) → kept_upto (marked_in l) i + cond z 0 1 ≡ kept_upto (marked_in l) i + cond (not z) 1 0
      count true = refl
      count false = refl

-- ---- one entry
module _ (l : List ℕ) (i before : ℕ) where
  pub mark-stays : get_or l i 0 ≡ 0 → (before ≡ before + cond (eqb (get_or l i 0) 0) 0 1) × (set l i (get_or l i 0) ≡ set l i (cond (eqb (get_or l i 0) 0) 0 (before + 1)))
  mark-stays e = (
    rw e (let z : before ≡ before + 0 = omega arith in z),
    ap (set l i) (e ∙ (let z : 0 ≡ cond (eqb (get_or l i 0) 0) 0 (before + 1) = rw e in z)),
  )

  pub mark-numbered : (get_or l i 0 ≡ 0 → ⊥) → (before + 1 ≡ before + cond (eqb (get_or l i 0) 0) 0 1) × (set l i (before + 1) ≡ set l i (cond (eqb (get_or l i 0) 0) 0 (before + 1)))
  mark-numbered n = (rw (ne_eqb (get_or l i 0) 0 n), rw (ne_eqb (get_or l i 0) 0 n))
