-- The new number of a record that is kept: one of those kept, none for none, and the same record. By the records.
use Prim.Native.Nat.{ℕ, zero, suc, ◌+◌, ◌-◌, ◌≤◌}
use mathlib.Core.Path.{◌≡◌, refl, sym, ap, ◌∙◌}
use mathlib.Core.Bool.{Bool, true, false, cond, ◌&&◌, ◌||◌}
use mathlib.Core.List.{List, [], ◌∷◌}
use native.Mathlib.Omega.{arith}
use borrow.Author.Tests.{leb-true, le-leb, ne_eqb}
use lib.Dec.{leb, eqb}
use lib.ListN.{length, get_or}
use Rattle.lists.proofs.Tests.{and_left, and_right, and_both}
use Rattle.references.specs.Fits.{reference_fits, part_fits}
use Rattle.sweep_marks.specs.Counting.{kept_upto, new_number}
use Rattle.swept_files.specs.Files.{kept_of}
use Rattle.swept_files.proofs.Counting.{kept-named, kept_more, new-zero, new-named}
use Rattle.swept_files.proofs.ByIndex.{upto-first, kept-length}

module _ (f : ℕ → Bool) where
  new-some : (n : ℕ) → f n ≡ true → 1 ≤ n → 1 ≤ new_number f n
  new-some zero h l = absurd (omega arith)
  new-some (suc n) h l = let e = new-named f (suc n) h in let k = kept-named f n h in omega arith

  -- none exactly for none
  pub new_none : (n : ℕ) → f n ≡ true → eqb (new_number f n) 0 ≡ eqb n 0
  new_none zero h = ap (λ (k : ℕ). eqb k 0) (new-zero f)
  new_none (suc n) h = ne_eqb (new_number f (suc n)) 0 (λ e. let l = new-some (suc n) h (omega arith) in omega arith) ∙ sym (ne_eqb (suc n) 0 (λ e. omega arith))

-- the record of the new number is the record of the old
pub new-at : {A : Type 0} (f : ℕ → Bool) (zs : List A) (z : A) (k : ℕ) → f (suc k) ≡ true → get_or (kept_of f zs) (kept_upto f k) z ≡ get_or zs k z
new-at f [] z k h = refl
new-at f (x ∷ xs) z zero h = rw h
new-at {A} f (x ∷ xs) z (suc k) h =
    ap (λ (n : ℕ). get_or (kept_of f (x ∷ xs)) n z) (upto-first f k) ∙ go (f 1) ∙ new-at (λ j. f (suc j)) xs z k h
  where
    go : (q : Bool) → get_or (cond q (x ∷ kept_of (λ j. f (suc j)) xs) (kept_of (λ j. f (suc j)) xs)) (cond q 1 0 + kept_upto (λ j. f (suc j)) k) z ≡ get_or (kept_of (λ j. f (suc j)) xs) (kept_upto (λ j. f (suc j)) k) z
    go true = ap (λ (n : ℕ). get_or (x ∷ kept_of (λ j. f (suc j)) xs) n z) (let e : 1 + kept_upto (λ j. f (suc j)) k ≡ suc (kept_upto (λ j. f (suc j)) k) = omega arith in e)
    go false = ap (λ (n : ℕ). get_or (kept_of (λ j. f (suc j)) xs) n z) (let e : 0 + kept_upto (λ j. f (suc j)) k ≡ kept_upto (λ j. f (suc j)) k = omega arith in e)

module _ {A : Type 0} (f : ℕ → Bool) (zs : List A) where
  -- by its number, which counts from 1
  pub new-record : (z : A) (n : ℕ) → f n ≡ true → 1 ≤ n → get_or (kept_of f zs) (new_number f n - 1) z ≡ get_or zs (n - 1) z
  new-record z zero h l = absurd (omega arith)
  new-record z (suc n) h l =
      let e : new_number f (suc n) - 1 ≡ kept_upto f n = (let i = new-named f (suc n) h in let k = kept-named f n h in omega arith) in
      let d : suc n - 1 ≡ n = omega arith in
      ap (λ (k : ℕ). get_or (kept_of f zs) k z) e ∙ new-at f zs z n h ∙ ap (λ (k : ℕ). get_or zs k z) (sym d)

  -- a reference stays one
  pub reference-new : (n : ℕ) → f n ≡ true → reference_fits (length zs) n ≡ true → reference_fits (length (kept_of f zs)) (new_number f n) ≡ true
  reference-new n h r =
      let a = leb-true 1 n (and_left (leb 1 n) (leb n (length zs)) r) in
      let b = leb-true n (length zs) (and_right (leb 1 n) (leb n (length zs)) r) in
      let u = kept_more f n (length zs) b in
      let l = kept-length f zs in
      let i = new-named f n h in
      and_both (le-leb 1 (new_number f n) (new-some f n h a)) (le-leb (new_number f n) (length (kept_of f zs)) (omega arith))

  pub part-new : (has : Bool) (n : ℕ) → f n ≡ true → part_fits has (length zs) n ≡ true → part_fits has (length (kept_of f zs)) (new_number f n) ≡ true
  part-new has n h p = ap (λ (q : Bool). q || (has && reference_fits (length (kept_of f zs)) (new_number f n))) (new_none f n h) ∙ go (eqb n 0) p
    where
      go : (q : Bool) → (q || (has && reference_fits (length zs) n)) ≡ true → (q || (has && reference_fits (length (kept_of f zs)) (new_number f n))) ≡ true
      go true r = refl
      go false r = and_both (and_left has (reference_fits (length zs) n) r) (reference-new n h (and_right has (reference_fits (length zs) n) r))
