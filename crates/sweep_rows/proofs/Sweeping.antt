-- The four passes over one table, one after the other: what is kept is what a corner names.
use Prim.Native.Nat.{ℕ, suc, ◌+◌, ◌*◌, ◌-◌, ◌≤◌, ◌<◌}
use mathlib.Core.Path.{◌≡◌, ap, ap₂, ◌∙◌}
use mathlib.Core.List.{List, ◌++◌}
use native.Mathlib.Omega.{arith}
use borrow.Rule.Slice.PartMut.{mid_of, put_mid, Post-is}
use mathlib.Core.Bool.{Bool}
use lib.IntN.{ℤ, pos}
use lib.ListN.{length, take, drop, replicate, length-replicate, length-drop}
use lib.Seq.{length-take-le}
use Rattle.lists.specs.Lists.{filled}
use Rattle.model.specs.Model.{VertexKind}
use Rattle.sweep_marks.specs.Counting.{kept_upto, new_numbers, kept_rows}
use Rattle.sweep_marks.specs.Marks.{named_in_tables, mark_elements, marked_in}
use Rattle.sweep_marks.proofs.Counting.{kept_same}
use Rattle.sweep_marks.proofs.Marking.{length-elements, marks-named}
use Rattle.sweep_marks.proofs.Numbering.{length-numbers, numbers-same, numbers-marked}
use Rattle.sweep_rows.proofs.Moving.{rows_same}

module _ (kind : VertexKind) (count : ℕ) (elements corners : List ℕ) (n : ℕ) where
  abbrev test : ℕ → Bool
  test = named_in_tables count elements corners kind

  module _ {clear marks numbers : List ℕ} {kept : ℕ} (a : clear ≡ replicate n 0) (b : marks ≡ mark_elements kind elements corners count clear)
      (c : kept ≡ kept_upto (marked_in marks) (length marks)) (d : numbers ≡ new_numbers (marked_in marks) (length marks)) where
    marks-are : marks ≡ mark_elements kind elements corners count (replicate n 0)
    marks-are = b ∙ ap (mark_elements kind elements corners count) a

    marks-long : length marks ≡ n
    marks-long = ap length marks-are ∙ length-elements kind corners elements count (replicate n 0) ∙ length-replicate {A = ℕ} n 0

    marked : (i : ℕ) → i < n → marked_in marks (suc i) ≡ test (suc i)
    marked i h = ap (λ (l : List ℕ). marked_in l (suc i)) marks-are ∙ marks-named kind corners elements count n i h

    pub kept-is : kept ≡ kept_upto test n
    kept-is = c ∙ ap (kept_upto (marked_in marks)) marks-long ∙ kept_same (marked_in marks) test n marked

    pub numbers-are : numbers ≡ new_numbers test n
    numbers-are = d ∙ ap (new_numbers (marked_in marks)) marks-long ∙ numbers-same (marked_in marks) test n marked

    pub numbers-long : length numbers ≡ n
    numbers-long = ap length numbers-are ∙ length-numbers test n

    pub rows_are : (w : ℕ) (values : List ℤ) {last : List ℤ} → last ≡ filled (length values) (pos 0) (kept_rows w (marked_in numbers) values (length numbers)) →
        last ≡ filled (length values) (pos 0) (kept_rows w test values n)
    rows_are w values e =
        e
        ∙ ap₂ (λ (l : List ℕ) (k : ℕ). filled (length values) (pos 0) (kept_rows w (marked_in l) values k)) numbers-are numbers-long
        ∙ ap (filled (length values) (pos 0)) (rows_same w (marked_in (new_numbers test n)) values test n (numbers-marked test n))

-- a list that is as long as another asks the same room of the values
pub lent_alike : {w m n k : ℕ} → m ≡ n → (w * n ≤ k) × (w ≤ 4) × (n ≤ 4294967295) → (w * m ≤ k) × (w ≤ 4) × (m ≤ 4294967295)
lent_alike e p = rw e p

-- a part that ends where it should has as many entries
pub part-long : {A : Type 0} (l : List A) (a n : ℕ) → a + n ≤ length l → length (mid_of a (a + n - a) l) ≡ n
part-long l a n h =
    let many = length-drop a l in
    length-take-le (a + n - a) (drop a l) (omega arith) ∙ (let e : a + n - a ≡ n = omega arith in e)

-- the part put back, where it is ys
pub part-back : {A : Type 0} (l ys : List A) (a n : ℕ) → put_mid a (a + n - a) l ys ≡ take a l ++ (ys ++ drop (a + n) l)
part-back {A} l ys a n = ap (λ (x : List A). take a l ++ (ys ++ x)) (Post-is a (a + n) l (omega arith))

pub part-swept : (f : ℕ → Bool) (w a n : ℕ) (l : List ℕ) (values : List ℤ) {kept : ℕ} {last : List ℕ} {rows : List ℤ} → a + n ≤ length l →
    kept ≡ kept_upto f (length (mid_of a (a + n - a) l)) → last ≡ new_numbers f (length (mid_of a (a + n - a) l)) →
    rows ≡ filled (length values) (pos 0) (kept_rows w f values (length (mid_of a (a + n - a) l))) →
    (kept ≡ kept_upto f n) × (put_mid a (a + n - a) l last ≡ take a l ++ (new_numbers f n ++ drop (a + n) l)) × (rows ≡ filled (length values) (pos 0) (kept_rows w f values n))
part-swept f w a n l values {kept} {last} {rows} h p q r =
    let e = part-long l a n h in (
      p ∙ ap (kept_upto f) e,
      part-back l last a n ∙ ap (λ (x : List ℕ). take a l ++ (x ++ drop (a + n) l)) (q ∙ ap (new_numbers f) e),
      r ∙ ap (λ (k : ℕ). filled (length values) (pos 0) (kept_rows w f values k)) e,
    )
