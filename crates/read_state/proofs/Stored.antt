-- A row stored at the end of a table's used entries: each table by itself. What carries it is `sets-filled`, with the lengths of what is laid out.
use Prim.Native.Nat.{ℕ, ◌+◌, ◌*◌, ◌-◌, ◌≤◌}
use mathlib.Core.Path.{◌≡◌, sym, ap, ap₂, ◌∙◌}
use mathlib.Core.List.{List, [], ◌∷◌, ◌++◌, append_assoc, append-nil}
use native.Mathlib.Omega.{arith}
use lib.ListN.{length, replicate, length-append, length-replicate, replicate-append-replicate}
use lib.Seq.{sets}
use lib.IntN.{ℤ, pos}
use Rattle.lists.specs.Lists.{flat, filled}
use Rattle.tables.proofs.Filled.{sets-filled}
use Rattle.tables.proofs.Flat.{flat_append}
use Rattle.model.specs.Model.{Body, Element}
use Rattle.model.specs.Room.{summed, of_kind, part_count}
use Rattle.model.specs.Layout.{itself, corner_rows, element_row, element_rows, body_row, body_rows, range_row, parameter_row}
use Rattle.model.proofs.Rows.{corner_rows-length, corners-length, element_rows-length, element_rows-append, body_rows-length, body_rows-append, range_rows-length, parameter_rows-length}

-- at a place that is the number of used entries
module _ {A : Type 0} (n : ℕ) (z : A) where
  pub stored_at : (xs vs : List A) (at : ℕ) → at ≡ length xs → at + length vs ≤ n → sets (filled n z xs) at vs ≡ filled n z (xs ++ vs)
  stored_at xs vs at e h = ap (λ (k : ℕ). sets (filled n z xs) k vs) e ∙ sets-filled n z xs vs (omega arith)

  -- one record more of any kind of row
  pub flat-stored : {R : Type 0} (f : R → List A) (rs : List R) (r : R) (at : ℕ) → at ≡ length (flat f rs) → at + length (f r) ≤ n
      → sets (filled n z (flat f rs)) at (f r) ≡ filled n z (flat f (rs ++ r ∷ []))
  flat-stored f rs r at e h =
      stored_at (flat f rs) (f r) at e h
      ∙ ap (λ (l : List A). filled n z l) (sym (flat_append f rs (r ∷ []) ∙ ap (λ (l : List A). flat f rs ++ l) (append-nil (f r))))

  -- zeros at the end are there already
  pub zeros-there : (xs : List A) (k : ℕ) → length xs + k ≤ n → filled n z xs ≡ filled n z (xs ++ replicate k z)
  zeros-there xs k h =
      ap (λ (l : List A). xs ++ l)
      (ap (λ (m : ℕ). replicate m z) (let e : n - length xs ≡ k + (n - (length xs + k)) = omega arith in e)
      ∙ sym (replicate-append-replicate k (n - (length xs + k)) z))
      ∙ sym (append_assoc xs (replicate k z) (replicate (n - (length xs + k)) z))
      ∙ ap (λ (m : ℕ). (xs ++ replicate k z) ++ replicate (n - m) z) (sym (length-append xs (replicate k z) ∙ ap (λ (j : ℕ). length xs + j) (length-replicate k z)))

-- ---- vertices: rows of w numbers
pub vertex-stored : (n w : ℕ) (rows : List (List ℤ)) (row : List ℤ) → length (flat itself rows) ≡ w * length rows → length row ≡ w → w * length rows + w ≤ n
    → sets (filled n (pos 0) (flat itself rows)) (w * length rows) row ≡ filled n (pos 0) (flat itself (rows ++ row ∷ []))
vertex-stored n w rows row e l h = flat-stored n (pos 0) itself rows row (w * length rows) (sym e) (omega arith)

-- ---- corners and elements
module _ (n : ℕ) (es : List Element) (e : Element) where
  pub corners-stored : 3 * summed (λ e. length e.corners) es + 3 * length e.corners ≤ n
      → sets (filled n 0 (flat corner_rows es)) (3 * summed (λ e. length e.corners) es) (corner_rows e) ≡ filled n 0 (flat corner_rows (es ++ e ∷ []))
  corners-stored h = let l = corners-length e.corners in flat-stored n 0 corner_rows es e (3 * summed (λ e. length e.corners) es) (sym (corner_rows-length es)) (omega arith)

  pub element-stored : 9 * length es + 9 ≤ n
      → sets (filled n 0 (element_rows 0 0 es)) (9 * length es) (element_row (3 * summed (λ e. length e.corners) es) (summed (λ e. of_kind (λ b. 1) e.kind) es) e)
      ≡ filled n 0 (element_rows 0 0 (es ++ e ∷ []))
  element-stored h =
      let c : ℕ = 3 * summed (λ e. length e.corners) es in
      let b : ℕ = summed (λ e. of_kind (λ b. 1) e.kind) es in
      stored_at n 0 (element_rows 0 0 es) (element_row c b e) (9 * length es) (sym (element_rows-length 0 0 es)) h
      ∙ ap (λ (l : List ℕ). filled n 0 l)
      (sym (element_rows-append 0 0 es (e ∷ [])
      ∙ ap (λ (l : List ℕ). element_rows 0 0 es ++ l)
      (append-nil (element_row (0 + c) (0 + b) e) ∙ ap₂ (λ (i j : ℕ). element_row i j e) (let q : 0 + c ≡ c = omega arith in q) (let q : 0 + b ≡ b = omega arith in q))))

-- ---- bodies
module _ (n : ℕ) (bs : List Body) (b : Body) where
  pub body-stored : 9 * length bs + 9 ≤ n
      → sets (filled n 0 (body_rows 0 0 bs)) (9 * length bs) (body_row (summed (λ b. length b.us + length b.vs) bs) (summed part_count bs) b)
      ≡ filled n 0 (body_rows 0 0 (bs ++ b ∷ []))
  body-stored h =
      let p : ℕ = summed (λ b. length b.us + length b.vs) bs in
      let l : ℕ = summed part_count bs in
      stored_at n 0 (body_rows 0 0 bs) (body_row p l b) (9 * length bs) (sym (body_rows-length 0 0 bs)) h
      ∙ ap (λ (r : List ℕ). filled n 0 r)
      (sym (body_rows-append 0 0 bs (b ∷ [])
      ∙ ap (λ (r : List ℕ). body_rows 0 0 bs ++ r)
      (append-nil (body_row (0 + p) (0 + l) b) ∙ ap₂ (λ (i j : ℕ). body_row i j b) (let q : 0 + p ≡ p = omega arith in q) (let q : 0 + l ≡ l = omega arith in q))))

  pub range-stored : 4 * length bs + 4 ≤ n → sets (filled n (pos 0) (flat range_row bs)) (4 * length bs) (range_row b) ≡ filled n (pos 0) (flat range_row (bs ++ b ∷ []))
  range-stored h = flat-stored n (pos 0) range_row bs b (4 * length bs) (sym (range_rows-length bs)) h

  -- two numbers of a range whose others are 0, and none of one that is all 0
  pub half-range-stored : b.start-v ≡ pos 0 → b.end-v ≡ pos 0 → 4 * length bs + 4 ≤ n
      → sets (filled n (pos 0) (flat range_row bs)) (4 * length bs) (b.start-u ∷ b.end-u ∷ []) ≡ filled n (pos 0) (flat range_row (bs ++ b ∷ []))
  half-range-stored s e h =
      let l = range_rows-length bs in
      let two : List ℤ = b.start-u ∷ b.end-u ∷ [] in
      let k : length (flat range_row bs ++ two) ≡ length (flat range_row bs) + 2 = length-append (flat range_row bs) two in
      stored_at n (pos 0) (flat range_row bs) two (4 * length bs) (sym l) (omega arith)
      ∙ zeros-there n (pos 0) (flat range_row bs ++ two) 2 (omega arith)
      ∙ ap (λ (r : List ℤ). filled n (pos 0) r)
      (append_assoc (flat range_row bs) two (pos 0 ∷ pos 0 ∷ [])
      ∙ ap₂ (λ (i j : ℤ). flat range_row bs ++ (b.start-u ∷ b.end-u ∷ i ∷ j ∷ [])) (sym s) (sym e)
      ∙ sym (flat_append range_row bs (b ∷ [])))

  pub no-range-stored : b.start-u ≡ pos 0 → b.end-u ≡ pos 0 → b.start-v ≡ pos 0 → b.end-v ≡ pos 0 → 4 * length bs + 4 ≤ n
      → filled n (pos 0) (flat range_row bs) ≡ filled n (pos 0) (flat range_row (bs ++ b ∷ []))
  no-range-stored su eu sv ev h =
      let l = range_rows-length bs in
      let row : range_row b ≡ pos 0 ∷ pos 0 ∷ pos 0 ∷ pos 0 ∷ [] = cc in
      zeros-there n (pos 0) (flat range_row bs) 4 (omega arith)
      ∙ ap (λ (r : List ℤ). filled n (pos 0) (flat range_row bs ++ r)) (sym row)
      ∙ ap (λ (r : List ℤ). filled n (pos 0) r) (sym (flat_append range_row bs (b ∷ [])))

  pub parameters-stored : summed (λ b. length b.us + length b.vs) bs + length (parameter_row b) ≤ n
      → sets (filled n (pos 0) (flat parameter_row bs)) (summed (λ b. length b.us + length b.vs) bs) (parameter_row b) ≡ filled n (pos 0) (flat parameter_row (bs ++ b ∷ []))
  parameters-stored h = flat-stored n (pos 0) parameter_row bs b (summed (λ b. length b.us + length b.vs) bs) (sym (parameter_rows-length bs)) h
