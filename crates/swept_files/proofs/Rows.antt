-- The named rows of a table, laid one after the other: row `kept_upto f (i + 1)` of them is row i + 1 of the table. Over the width and the test.
use Prim.Native.Nat.{ℕ, zero, suc, ◌+◌, ◌*◌, ◌≤◌, ◌<◌}
use mathlib.Core.Path.{◌≡◌, sym, ap, ap₂, ◌∙◌}
use mathlib.Core.List.{List, []}
use mathlib.Core.Bool.{Bool, true, false, cond}
use mathlib.Core.Logic.{◌⊎◌, inl, inr}
use native.Mathlib.Nat.{mul-zero, mul-suc, mul-le-mul_left}
use native.Mathlib.Omega.{arith}
use lib.ListN.{length, take, drop, length-append}
use lib.Seq.{take-add}
use lib.IntN.{ℤ, pos}
use Rattle.lists.specs.Lists.{filled}
use Rattle.lists.proofs.Tests.{test}
use Rattle.tables.proofs.Filled.{take-drop-append}
use Rattle.sweep_marks.specs.Counting.{flat_below, kept_upto, kept_rows}
use Rattle.sweep_marks.proofs.Counting.{kept-most}
use Rattle.swept_files.proofs.Counting.{kept-named, kept_more}
use Rattle.swept_files.proofs.FlatBelow.{flat_below-part}
use Rattle.swept_files.proofs.Parts.{row_within, part_length}

module _ (w : ℕ) (f : ℕ → Bool) (l : List ℤ) where
  abbrev row_of : ℕ → List ℤ
  row_of i = cond (f (suc i)) (take w (drop (w * i) l)) []

  rows_long : (n : ℕ) → w * n ≤ length l → length (flat_below n row_of) ≡ w * kept_upto f n
  rows_long zero h = sym (mul-zero w)
  rows_long (suc n) h =
      let q = row_within w n (suc n) (omega arith) in
      let i = rows_long n (omega arith) in
      length-append (flat_below n row_of) (row_of n) ∙ go (test (f (suc n))) i (part_length l (w * n) w (omega arith))
    where
      go : (f (suc n) ≡ true) ⊎ (f (suc n) ≡ false) → length (flat_below n row_of) ≡ w * kept_upto f n → length (take w (drop (w * n) l)) ≡ w
          → length (flat_below n row_of) + length (row_of n) ≡ w * (kept_upto f n + cond (f (suc n)) 1 0)
      go (inl e) i p = rw e (omega arith)
      go (inr e) i p = rw e (omega arith)

  module _ (n : ℕ) (lent : w * n ≤ length l) where
    pub rows-length : length (kept_rows w f l n) ≡ w * kept_upto f n
    unfolding kept_rows
    rows-length = rows_long n lent

    pub rows_fit : length (kept_rows w f l n) ≤ length l
    rows_fit = let e = rows-length in let k = mul-le-mul_left w (kept-most f n) in omega arith

    module _ (i : ℕ) (h : i < n) (e : f (suc i) ≡ true) where
      row_is : row_of i ≡ take w (drop (w * i) l)
      row_is = rw e

      row-long : length (row_of i) ≡ w
      row-long = ap length row_is ∙ part_length l (w * i) w (let q = row_within w i n h in omega arith)

      kept_row : take w (drop (w * kept_upto f i) (kept_rows w f l n)) ≡ take w (drop (w * i) l)
      unfolding kept_rows
      kept_row =
          let q = row_within w i n h in
          ap₂ (λ (a b : ℕ). take a (drop b (flat_below n row_of))) (sym row-long) (sym (rows_long i (omega arith))) ∙ flat_below-part row_of n i h ∙ row_is

      -- in the lent table
      pub table-row : take w (drop (w * kept_upto f i) (filled (length l) (pos 0) (kept_rows w f l n))) ≡ take w (drop (w * i) l)
      table-row =
          let a = kept-named f i e in
          let b = kept_more f (suc i) n (omega arith) in
          let q = row_within w (kept_upto f i) (kept_upto f n) (omega arith) in
          let r = rows-length in
          take-drop-append (w * kept_upto f i) w (kept_rows w f l n) _ (omega arith) ∙ kept_row

  -- where every record is named
  pub rows_all : (n : ℕ) → ((k : ℕ) → 1 ≤ k → k ≤ n → f k ≡ true) → kept_rows w f l n ≡ take (w * n) l
  unfolding kept_rows
  rows_all zero h = ap (λ (k : ℕ). take k l) (sym (mul-zero w))
  rows_all (suc n) h =
      let i = rows_all n (λ k a b. h k a (omega arith)) in
      let e : f (suc n) ≡ true = h (suc n) (omega arith) (omega arith) in
      rw (e, i, mul-suc w n) (sym (take-add (w * n) w l))
