-- Rows copied down in place: one row, and the rows that have a number.
use Prim.Native.Nat.{ℕ, zero, suc, ◌+◌, ◌*◌, ◌-◌, ◌≤◌, ◌<◌}
use mathlib.Core.Path.{◌≡◌, refl, sym, ap, ap₂, ◌∙◌}
use mathlib.Core.List.{List, [], ◌++◌, append-nil}
use mathlib.Core.Bool.{Bool, true, false, cond}
use mathlib.Core.Logic.{◌⊎◌, inl, inr}
use native.Mathlib.Nat.{mul-zero, mul-suc, mul-le-mul_left}
use native.Mathlib.Numerals.{add-one}
use native.Mathlib.Omega.{arith}
use borrow.Author.Tests.{eq-eqb, ne_eqb}
use lib.Dec.{eqb}
use lib.IntN.{ℤ, pos}
use lib.ListN.{length, get_or, take, drop, replicate, length-append, length-drop}
use Rattle.std.specs.List.{copy_within}
use lib.Seq.{sets, sets-eq, length-sets, length-take-le, take_at}
use Rattle.lists.specs.Lists.{filled}
use Rattle.lists.proofs.Tests.{test}
use Rattle.sweep_marks.specs.Counting.{kept_upto, kept_rows, flat_below}
use Rattle.sweep_marks.specs.Marks.{marked_in}
use Rattle.sweep_marks.proofs.Counting.{kept-most}
use Rattle.sweep_marks.proofs.FlatBelow.{flat_below-same}
use Rattle.sweep_rows.proofs.Stored.{drop_past, sets-front}

-- ---- one row
pub copied-row : (l : List ℤ) (from to w : ℕ) → to ≤ from → from + w ≤ length l → copy_within l from (from + w) to ≡ sets l to (take w (drop from l))
copied-row l from to w down lent =
    let e : from + w - from ≡ w = omega arith in
    let many : length (drop from l) ≡ length l - from = length-drop from l in
    let long : length (take w (drop from l)) ≡ w = length-take-le w (drop from l) (omega arith) in
    ap (λ (k : ℕ). take to l ++ take k (drop from l) ++ drop (to + k) l) e
    ∙ ap (λ (k : ℕ). take to l ++ take w (drop from l) ++ drop (to + k) l) (sym long)
    ∙ sym (sets-eq (take w (drop from l)) l to (omega arith))

-- ---- all rows
module _ (w : ℕ) (f : ℕ → Bool) (l : List ℤ) where
  pub rows-length : (n : ℕ) → w * n ≤ length l → length (kept_rows w f l n) ≡ w * kept_upto f n
  unfolding kept_rows
  rows-length zero h = sym (mul-zero w)
  rows-length (suc n) h =
      let q : w * suc n ≡ w * n + w = (let e = mul-suc w n in omega arith) in
      let i = rows-length n (omega arith) in
      let p : length (take w (drop (w * n) l)) ≡ w = length-take-le w (drop (w * n) l) (let e = length-drop (w * n) l in omega arith) in
      length-append (kept_rows w f l n) (cond (f (suc n)) (take w (drop (w * n) l)) []) ∙ go (test (f (suc n))) i p
    where
      go : (f (suc n) ≡ true) ⊎ (f (suc n) ≡ false) → length (kept_rows w f l n) ≡ w * kept_upto f n → length (take w (drop (w * n) l)) ≡ w →
          length (kept_rows w f l n) + length (cond (f (suc n)) (take w (drop (w * n) l)) []) ≡ w * (kept_upto f n + cond (f (suc n)) 1 0)
      go (inl e) i p = rw e (omega arith)
      go (inr e) i p = rw e (omega arith)

  pub rows_same : (g : ℕ → Bool) (n : ℕ) → ((i : ℕ) → i < n → f (suc i) ≡ g (suc i)) → kept_rows w f l n ≡ kept_rows w g l n
  unfolding kept_rows
  rows_same g n h = flat_below-same _ _ n (λ i k. ap (λ (b : Bool). cond b (take w (drop (w * i) l)) []) (h i k))

-- the first i rows are looked at
pub record Moved (w : ℕ) (numbers : List ℕ) (l m : List ℤ) (to i : ℕ) : Type 0 where
  pub within : i ≤ length numbers
  pub long : length m ≡ length l
  pub counted : to ≡ kept_upto (marked_in numbers) i
  pub front : m ≡ kept_rows w (marked_in numbers) l i ++ drop (w * to) l

pub moved_none : (w : ℕ) (numbers : List ℕ) (l : List ℤ) → Moved w numbers l l 0 0
unfolding kept_rows
moved_none w numbers l = record { within = omega arith; long = refl; counted = refl; front = ap (λ (k : ℕ). drop k l) (sym (mul-zero w)) }

module _ {w : ℕ} {numbers : List ℕ} {l m : List ℤ} {to i : ℕ} (c : Moved w numbers l m to i) (lent : w * length numbers ≤ length l) where
  pub moved-most : to ≤ i
  moved-most = rw c.counted (kept-most (marked_in numbers) i)

  -- a row ends within the table
  pub moved-within : i < length numbers → w * i + w ≤ length l
  moved-within h = let a = mul-suc w i in let b = mul-le-mul_left w h in omega arith

  front_long : length (kept_rows w (marked_in numbers) l i) ≡ w * to
  front_long =
      let b = mul-le-mul_left w c.within in
      rows-length w (marked_in numbers) l i (omega arith) ∙ ap (λ (k : ℕ). w * k) (sym c.counted)

  front-is : m ≡ kept_rows w (marked_in numbers) l i ++ drop (length (kept_rows w (marked_in numbers) l i)) l
  front-is = c.front ∙ ap (λ (k : ℕ). kept_rows w (marked_in numbers) l i ++ drop k l) (sym front_long)

  -- what is not passed yet is as it was
  rest-same : drop (w * i) m ≡ drop (w * i) l
  rest-same =
      let e = front_long in
      let b = mul-le-mul_left w moved-most in
      ap (drop (w * i)) front-is ∙ drop_past (kept_rows w (marked_in numbers) l i) l (w * i) (omega arith)

  -- one row more: dropped, or moved behind those kept
  module _ (h : i < length numbers) where
    stays : eqb (get_or numbers i 0) 0 ≡ true → Moved w numbers l m to (suc i)
    unfolding kept_rows
    stays z =
        record {
          within = h;
          long = c.long;
          counted = rw z (c.counted ∙ (let e : kept_upto (marked_in numbers) i ≡ kept_upto (marked_in numbers) i + 0 = omega arith in e));
          front = c.front ∙ rw (z, append-nil);
        }

    moves : eqb (get_or numbers i 0) 0 ≡ false → Moved w numbers l (sets m (w * to) (take w (drop (w * i) m))) (to + 1) (suc i)
    unfolding kept_rows
    moves z =
        let kept : List ℤ = kept_rows w (marked_in numbers) l i in
        let row : List ℤ = take w (drop (w * i) l) in
        let q = moved-within h in
        let b = mul-le-mul_left w moved-most in
        let many = length-drop (w * i) l in
        let wide : length row ≡ w = length-take-le w (drop (w * i) l) (omega arith) in
        let long : length kept ≡ w * to = front_long in
        let same : sets m (w * to) (take w (drop (w * i) m)) ≡ sets (kept ++ drop (length kept) l) (length kept) row =
        ap (λ (x : List ℤ). sets m (w * to) (take w x)) rest-same ∙ ap₂ (λ (x : List ℤ) (k : ℕ). sets x k row) front-is (sym long) in
        let fits : length (kept ++ drop (length kept) l) ≡ length l = ap length (sym front-is) ∙ c.long in
        let ends : length (kept ++ row) ≡ w * (to + 1) = length-append kept row ∙ (let e : length kept + length row ≡ w * (to + 1) = omega arith in e) in
        record {
          within = h;
          long = length-sets m (w * to) (take w (drop (w * i) m)) ∙ c.long;
          counted = rw z (ap (λ (k : ℕ). k + 1) c.counted);
          front = same ∙ sets-front kept row l (omega arith) ∙ rw z (ap (λ (k : ℕ). (kept ++ row) ++ drop k l) ends);
        }

    pub moved_more : {m' : List ℤ} {r : ℕ} → r ≡ to + cond (eqb (get_or numbers i 0) 0) 0 1 →
        m' ≡ cond (eqb (get_or numbers i 0) 0) m (sets m (w * to) (take w (drop (w * i) m))) → Moved w numbers l m' r (i + 1)
    moved_more {m'} {r} a b = rw add-one (go (test (eqb (get_or numbers i 0) 0)))
      where
        go : (eqb (get_or numbers i 0) 0 ≡ true) ⊎ (eqb (get_or numbers i 0) 0 ≡ false) → Moved w numbers l m' r (suc i)
        go (inl z) =
            let count : r ≡ to = (rw z at a) ∙ (let e : to + 0 ≡ to = omega arith in e) in
            let same : m' ≡ m = rw z at b in
            rw (count, same) (stays z)
        go (inr z) =
            let count : r ≡ to + 1 = rw z at a in
            let same : m' ≡ sets m (w * to) (take w (drop (w * i) m)) = rw z at b in
            rw (count, same) (moves z)

  -- all rows looked at, and the rest cleared
  module _ (done : length numbers ≤ i) where
    last : i ≡ length numbers
    last = let n = c.within in omega arith

    pub moved-fits : w * to ≤ length m
    moved-fits = let b = mul-le-mul_left w moved-most in let e = c.long in let d = ap (λ (k : ℕ). w * k) last in omega arith

    pub moved_all : take (w * to) m ++ replicate (length m - w * to) (pos 0) ≡ filled (length l) (pos 0) (kept_rows w (marked_in numbers) l (length numbers))
    moved_all =
        let kept : List ℤ = kept_rows w (marked_in numbers) l i in
        let front : take (w * to) m ≡ kept = ap (take (w * to)) c.front ∙ take_at kept (drop (w * to) l) (w * to) front_long in
        ap₂ (λ (x : List ℤ) (k : ℕ). x ++ replicate k (pos 0)) front (ap₂ (λ (a b : ℕ). a - b) c.long (sym front_long))
        ∙ ap (λ (k : ℕ). filled (length l) (pos 0) (kept_rows w (marked_in numbers) l k)) last

-- ---- a row that has a number, and one that has none
module _ (l r : List ℤ) (number to : ℕ) where
  pub row_stays : number ≡ 0 → (to ≡ to + cond (eqb number 0) 0 1) × (l ≡ cond (eqb number 0) l r)
  row_stays e = (rw (eq-eqb number 0 e) (omega arith), rw (eq-eqb number 0 e))

  pub row-moves : {m : List ℤ} → (number ≡ 0 → ⊥) → m ≡ r → (to + 1 ≡ to + cond (eqb number 0) 0 1) × (m ≡ cond (eqb number 0) l r)
  row-moves n e = (rw (ne_eqb number 0 n), rw (ne_eqb number 0 n) e)
