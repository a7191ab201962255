-- One turn of each loop that emits rows: the first row left, and then the others. By the rows' definitions, a read behind `drop` being a read further on.
use Prim.Native.Nat.{ℕ, zero, suc, ◌+◌, ◌*◌, ◌-◌, ◌≤◌, ◌<◌, min}
use mathlib.Core.Path.{◌≡◌, refl, sym, ap, ap₂, ◌∙◌}
use mathlib.Core.List.{List, [], ◌∷◌, ◌++◌, map, append-nil}
use mathlib.Core.Bool.{Bool, true, false, cond}
use native.Mathlib.Omega.{arith}
use borrow.Author.Tests.{ne_eqb, eq-eqb}
use lib.ListN.{length, get_or, take, drop}
use lib.Seq.{take-nil, drop-nil, drop-cons, drop-drop, get_or-drop}
use lib.Dec.{eqb}
use Rattle.std.proofs.Common.{length-drop}
use Rattle.std.proofs.Math.Seq.{take-length}
use Rattle.std.proofs.lemmas.List.{drop_min, take_min}
use lib.IntN.{ℤ, pos, nat_abs}
use Rattle.tables.specs.Records.{part_in, loop_width, span_width, corner_in, corner_place}
use Rattle.tables.specs.declared.parts.LoopPart.{LoopPart}
use Rattle.tables.specs.declared.Corner.{Corner}
use Rattle.tables.specs.declared.CornerRun.{CornerRun}
use Rattle.tables.proofs.Flat.{flat_append}
use Rattle.text.specs.Written.{written_line, written_lines}
use Rattle.references.specs.Written.{written_whole, written_number, written_corner}
use Rattle.keywords.specs.Keywords.{keyword_of}
use Rattle.statements.specs.declared.Carried.{Carried}
use Rattle.statements.specs.declared.Carried.TheVariants.{Smoothing}
use Rattle.model.specs.Model.{parametric}
use Rattle.tidy_form.specs.declared.Weights.{Weights}
use Rattle.tidy_form.specs.Printed.{coordinates, degree_words}
use Rattle.tidy_words.specs.Emitting.{Emitted}
use Rattle.tidy_words.specs.Emitting.{spaced}
use Rattle.tidy_writer.specs.Rows.{row_numbers, vertex_rows, stored_corners, part_words, going_on, loop_words, begun_lines, loop_lines}
use Rattle.tidy_words.specs.Naming.{same_bytes}
use Rattle.tidy_writer.specs.TidyFrom.{changed, smoothed}
use Rattle.tidy_words.proofs.Emissions.{emitted_then, emitted-is}
use Rattle.tidy_writer.proofs.NamedLines.{written-spaced}

-- ---- lines
pub emitted-line : (k : List ℕ) (ws : List (List ℕ)) {at p q r : ℕ} {l m n o : List ℕ} → Emitted at k l m p → Emitted p (spaced ws) m n q → Emitted q (10 ∷ []) n o r
    → Emitted at (written_line (k ∷ ws)) l o r
emitted-line k ws a b c = emitted-is (sym (written-spaced k ws)) (emitted_then a (emitted_then b c))

pub one_line : (ws : List (List ℕ)) → written_line ws ≡ written_lines (ws ∷ [])
one_line ws = sym (append-nil (written_line ws))

pub lines-append : (a b : List (List (List ℕ))) → written_lines a ++ written_lines b ≡ written_lines (a ++ b)
lines-append a b = sym (flat_append written_line a b)

pub spaced-append : (a b : List (List ℕ)) → spaced a ++ spaced b ≡ spaced (a ++ b)
spaced-append a b = sym (flat_append (λ (w : List ℕ). 32 ∷ w) a b)

pub two-lines : (a b : List (List ℕ)) → written_line a ++ written_line b ≡ written_lines (a ∷ b ∷ [])
two-lines a b = ap (λ (t : List ℕ). written_line a ++ t) (sym (append-nil (written_line b)))

pub three-lines : (a b c : List (List (List ℕ))) → written_lines a ++ (written_lines b ++ written_lines c) ≡ written_lines (a ++ (b ++ c))
three-lines a b c = ap (λ (t : List ℕ). written_lines a ++ t) (lines-append b c) ∙ lines-append a (b ++ c)

pub spaced-one : (w : List ℕ) → 32 ∷ w ≡ spaced (w ∷ [])
spaced-one w = sym (append-nil (32 ∷ w))

pub spaced-two : (v w : List ℕ) → (32 ∷ v) ++ (32 ∷ w) ≡ spaced (v ∷ w ∷ [])
spaced-two v w = ap (λ (t : List ℕ). (32 ∷ v) ++ t) (spaced-one w)

-- ---- lines that stand only where something changes
pub changed-none : (k : Carried) (x y : List (List ℕ)) → same_bytes x y ≡ true → [] ≡ written_lines (changed k x y)
changed-none k x y e = ap (λ (t : Bool). written_lines (cond t [] ((keyword_of k ∷ y) ∷ []))) (sym e)

pub changed-line : (k : Carried) (x y : List (List ℕ)) → same_bytes x y ≡ false → written_line (keyword_of k ∷ y) ≡ written_lines (changed k x y)
changed-line k x y e = one_line (keyword_of k ∷ y) ∙ ap (λ (t : Bool). written_lines (cond t [] ((keyword_of k ∷ y) ∷ []))) (sym e)

pub smoothed-none : (m n : ℕ) → m ≡ n → [] ≡ written_lines (smoothed m n)
smoothed-none m n e = ap (λ (t : Bool). written_lines (cond t [] ((keyword_of Smoothing ∷ written_whole n ∷ []) ∷ []))) (sym (eq-eqb m n e))

pub smoothed-line : (m n : ℕ) → (m ≡ n → ⊥) → written_line (keyword_of Smoothing ∷ written_whole n ∷ []) ≡ written_lines (smoothed m n)
smoothed-line m n e =
    one_line (keyword_of Smoothing ∷ written_whole n ∷ []) ∙ ap (λ (t : Bool). written_lines (cond t [] ((keyword_of Smoothing ∷ written_whole n ∷ []) ∷ []))) (sym (ne_eqb m n e))

-- ---- a word that stands only under a condition
pub degree-words : (m n : ℕ) → degree_words m n ≡ written_whole m ∷ cond (eqb n 0) [] (written_whole n ∷ [])
degree-words m zero = refl
degree-words m (suc n) = rw (ne_eqb (suc n) 0 (λ (h : suc n ≡ 0). absurd (omega arith))) refl

pub word-before : (b : Bool) (v w : List ℕ) → cond b (v ∷ w ∷ []) (w ∷ []) ≡ cond b (v ∷ []) [] ++ w ∷ []
word-before true v w = refl
word-before false v w = refl

-- ---- numbers
pub numbers-turn : (l : List ℤ) (i : ℕ) (x : ℤ) → (i < length l) × (x ≡ get_or l i x) → spaced (map written_number (drop i l)) ≡ (32 ∷ written_number x) ++ spaced (map written_number (drop (i + 1) l))
numbers-turn l i x h =
    ap (λ (t : List ℤ). spaced (map written_number t)) (drop-cons l i x h.0)
    ∙ ap₂ (λ (z : ℤ) (j : ℕ). (32 ∷ written_number z) ++ spaced (map written_number (drop j l))) (sym h.1) (let e : suc i ≡ i + 1 = omega arith in e)

drop_past : {A : Type 0} (i : ℕ) (l : List A) → length l ≤ i → drop i l ≡ []
drop_past i [] h = drop-nil i
drop_past zero (x ∷ l) h = absurd (omega arith)
drop_past (suc i) (x ∷ l) h = drop_past i l (omega arith)

pub numbers-none : (l : List ℤ) (i : ℕ) → length l ≤ i → spaced (map written_number (drop i l)) ≡ []
numbers-none l i h = ap (λ (t : List ℤ). spaced (map written_number t)) (drop_past i l h)

-- a part of a list, cut to what the list has
pub part-is : {A : Type 0} (v : List A) (first count m k : ℕ) → m ≡ min first (length v) → k ≡ min count (length (take (length v - m) (drop m v)))
    → take k (take (length v - m) (drop m v)) ≡ take count (drop first v)
part-is {A} v first count m k e f =
    let whole : take (length v - m) (drop m v) ≡ drop first v =
    ap (λ (n : ℕ). take n (drop m v)) (sym (length-drop m v)) ∙ take-length (drop m v) ∙ ap (λ (n : ℕ). drop n v) e ∙ drop_min first v in
    ap (λ (n : ℕ). take n (take (length v - m) (drop m v))) f ∙ take_min count (take (length v - m) (drop m v)) ∙ ap (take count) whole

-- ---- records of vertices
take-both : {A : Type 0} (a b m : ℕ) (xs : List A) → m ≡ min a b → take a (take b xs) ≡ take m xs
take-both zero b zero xs e = refl
take-both zero b (suc m) xs e = absurd (omega arith)
take-both (suc a) zero zero xs e = refl
take-both (suc a) zero (suc m) xs e = absurd (omega arith)
take-both (suc a) (suc b) zero xs e = absurd (omega arith)
take-both (suc a) (suc b) (suc m) [] e = refl
take-both {A} (suc a) (suc b) (suc m) (x ∷ xs) e = ap (λ (t : List A). x ∷ t) (take-both a b m xs (omega arith))

counted-in : (c : Weights) (l : List ℤ) (w m : ℕ) → 1 ≤ w → m ≡ min (nat_abs (get_or l 0 (pos 0))) (w - 1) → coordinates c parametric (take w l) ≡ take m (drop 1 l)
counted-in c [] w m h e = ap (coordinates c parametric) (take-nil w) ∙ sym (take-nil m)
counted-in c (x ∷ l) zero m h e = absurd (omega arith)
counted-in c (x ∷ l) (suc w) m h e = take-both (nat_abs x) w m l (omega arith)

-- a record that begins with how many of its numbers were given
pub counted-row : (c : Weights) (l : List ℤ) (i w m : ℕ) → 1 ≤ w → m ≡ min (nat_abs (get_or l i (pos 0))) (w - 1) → take m (drop (i + 1) l) ≡ row_numbers true c (take w (drop i l))
counted-row c l i w m h e =
    let k : i + 0 ≡ i = omega arith in
    let g : get_or (drop i l) 0 (pos 0) ≡ get_or l i (pos 0) = get_or-drop i l 0 (pos 0) ∙ ap (λ (j : ℕ). get_or l j (pos 0)) k in
    let f : m ≡ min (nat_abs (get_or (drop i l) 0 (pos 0))) (w - 1) = e ∙ ap (λ (z : ℤ). min (nat_abs z) (w - 1)) (sym g) in
    ap (λ (t : List ℤ). take m t) (sym (drop-drop 1 i l)) ∙ sym (counted-in c (drop i l) w m h f)

pub rows-turn : (k : Carried) (c : Bool) (a : Weights) (w : ℕ) (l : List ℤ) (i n m : ℕ) → n ≡ m + 1
    → written_lines (vertex_rows k c a w n (drop (w * i) l))
    ≡ written_line (keyword_of k ∷ map written_number (row_numbers c a (take w (drop (w * i) l)))) ++ written_lines (vertex_rows k c a w m (drop (w * (i + 1)) l))
rows-turn k c a w l i zero m e = absurd (omega arith)
rows-turn k c a w l i (suc n) m e =
    ap₂ (λ (j : ℕ) (t : List ℤ). written_line (keyword_of k ∷ map written_number (row_numbers c a (take w (drop (w * i) l)))) ++ written_lines (vertex_rows k c a w j t))
    (let d : n ≡ m = omega arith in d) (drop-drop w (w * i) l ∙ ap (λ (j : ℕ). drop j l) (let d : w * i + w ≡ w * (i + 1) = omega arith in d))

pub rows_none : (k : Carried) (c : Bool) (a : Weights) (w : ℕ) (l : List ℤ) (n : ℕ) → n ≤ 0 → written_lines (vertex_rows k c a w n l) ≡ []
rows_none k c a w l zero h = refl
rows_none k c a w l (suc n) h = absurd (omega arith)

-- ---- corners
pub first_read : (l : List ℕ) (i : ℕ) → get_or (drop i l) 0 0 ≡ get_or l i 0
first_read l i = get_or-drop i l 0 0 ∙ ap (λ (j : ℕ). get_or l j 0) (let k : i + 0 ≡ i = omega arith in k)

corners-turn : (l : List ℕ) (i n m : ℕ) → n ≡ m + 1
    → spaced (map written_corner (stored_corners n (drop i l)))
    ≡ (32 ∷ written_corner (record { v = get_or l i 0; vt = get_or l (i + 1) 0; vn = get_or l (i + 2) 0 })) ++ spaced (map written_corner (stored_corners m (drop (i + 3) l)))
corners-turn l i zero m e = absurd (omega arith)
corners-turn l i (suc n) m e =
    ap₂ (λ (x y : ℕ). row x y (get_or (drop i l) 2 0) n (drop 3 (drop i l))) (first_read l i) (get_or-drop i l 1 0)
    ∙ ap₂ (λ (z : ℕ) (t : List ℕ). row (get_or l i 0) (get_or l (i + 1) 0) z n t) (get_or-drop i l 2 0) (drop-drop 3 i l)
    ∙ ap (λ (j : ℕ). row (get_or l i 0) (get_or l (i + 1) 0) (get_or l (i + 2) 0) j (drop (i + 3) l)) (let d : n ≡ m = omega arith in d)
  where
    row : ℕ → ℕ → ℕ → ℕ → List ℕ → List ℕ
    row x y z m t = (32 ∷ written_corner (record { v = x; vt = y; vn = z })) ++ spaced (map written_corner (stored_corners m t))

-- corner k of a run
pub corner-turn : (l : List ℕ) (run : CornerRun) (k n m : ℕ) (c : Corner) → n ≡ m + 1 → c ≡ corner_in l (corner_place run k)
    → spaced (map written_corner (stored_corners n (drop (corner_place run k) l)))
    ≡ (32 ∷ written_corner (record { v = c.v; vt = c.vt; vn = c.vn })) ++ spaced (map written_corner (stored_corners m (drop (corner_place run (k + 1)) l)))
corner-turn l run k n m c h e =
    corners-turn l (corner_place run k) n m h
    ∙ ap₂ (λ (x : Corner) (i : ℕ). (32 ∷ written_corner (record { v = x.v; vt = x.vt; vn = x.vn })) ++ spaced (map written_corner (stored_corners m (drop i l)))) (sym e)
    (let d : corner_place run k + 3 ≡ corner_place run (k + 1) = omega arith in d)

pub corners-none : (l : List ℕ) (n : ℕ) → n ≤ 0 → spaced (map written_corner (stored_corners n l)) ≡ []
corners-none l zero h = refl
corners-none l (suc n) h = absurd (omega arith)

-- ---- loops
-- the words of a part's record
abbrev pub words_of : LoopPart → List (List ℕ)
words_of p = written_number p.from ∷ written_number p.to ∷ written_whole p.curve ∷ []

pub three-spaced : (a b c : List ℕ) → (32 ∷ a) ++ ((32 ∷ b) ++ (32 ∷ c)) ≡ spaced (a ∷ b ∷ c ∷ [])
three-spaced a b c = ap (λ (t : List ℕ). (32 ∷ a) ++ ((32 ∷ b) ++ t)) (sym (append-nil (32 ∷ c)))

module _ (l : List ℕ) (z : List ℤ) (i : ℕ) where
  -- the two tables from part i on, and from the part after it
  abbrev own : List ℕ
  own = drop (loop_width * i) l

  abbrev span : List ℤ
  span = drop (span_width * i) z

  abbrev owns : List ℕ
  owns = drop (loop_width * (i + 1)) l

  abbrev spans : List ℤ
  spans = drop (span_width * (i + 1)) z

  owns-are : drop loop_width own ≡ owns
  owns-are = drop-drop 2 (2 * i) l ∙ ap (λ (k : ℕ). drop k l) (let d : 2 * i + 2 ≡ 2 * (i + 1) = omega arith in d)

  spans-are : drop span_width span ≡ spans
  spans-are = drop-drop 2 (2 * i) z ∙ ap (λ (k : ℕ). drop k z) (let d : 2 * i + 2 ≡ 2 * (i + 1) = omega arith in d)

  pub loops-turn : (n m : ℕ) → n ≡ m + 1 → written_lines (loop_lines n own span) ≡ written_lines (begun_lines m own span) ++ written_lines (loop_lines m owns spans)
  loops-turn zero m e = absurd (omega arith)
  loops-turn (suc n) m e =
      sym (lines-append (begun_lines n own span) (loop_lines n (drop loop_width own) (drop span_width span)))
      ∙ ap₂ (λ (a : List ℕ) (b : List ℤ). written_lines (begun_lines n own span) ++ written_lines (loop_lines n a b)) owns-are spans-are
      ∙ ap (λ (k : ℕ). written_lines (begun_lines k own span) ++ written_lines (loop_lines k owns spans)) (let d : n ≡ m = omega arith in d)

  module _ (p : LoopPart) (e : p ≡ part_in l z i) where
    pub begins-first : get_or own 0 0 ≡ p.begins
    begins-first = get_or-drop (2 * i) l 0 0 ∙ sym (ap (λ (q : LoopPart). q.begins) e)

    part-words : words_of p ≡ part_words own span
    part-words =
        ap words_of e
        ∙ ap₂ (λ (x y : ℤ). written_number x ∷ written_number y ∷ written_whole (get_or l (2 * i + 1) 0) ∷ []) (sym (get_or-drop (2 * i) z 0 (pos 0))) (sym (get_or-drop (2 * i) z 1 (pos 0)))
        ∙ ap (λ (n : ℕ). written_number (get_or span 0 (pos 0)) ∷ written_number (get_or span 1 (pos 0)) ∷ written_whole n ∷ []) (sym (get_or-drop (2 * i) l 1 0))

    pub loop-words : (n : ℕ) → spaced (words_of p) ++ spaced (going_on n owns spans) ≡ spaced (part_words own span ++ going_on n (drop loop_width own) (drop span_width span))
    loop-words n =
        ap (λ (w : List (List ℕ)). spaced w ++ spaced (going_on n owns spans)) part-words
        ∙ ap₂ (λ (a : List ℕ) (b : List ℤ). spaced (part_words own span) ++ spaced (going_on n a b)) (sym owns-are) (sym spans-are)
        ∙ spaced-append (part_words own span) (going_on n (drop loop_width own) (drop span_width span))

    pub going-turn : (n m : ℕ) → n ≡ m + 1 → p.begins ≡ 0 → spaced (going_on n own span) ≡ spaced (words_of p) ++ spaced (going_on m owns spans)
    going-turn zero m d b = absurd (omega arith)
    going-turn (suc n) m d b =
        ap (λ (k : ℕ). spaced (cond (eqb k 0) (part_words own span ++ going_on n (drop loop_width own) (drop span_width span)) [])) (begins-first ∙ b)
        ∙ sym (loop-words n)
        ∙ ap (λ (k : ℕ). spaced (words_of p) ++ spaced (going_on k owns spans)) (let q : n ≡ m = omega arith in q)

    pub going-stops : (n : ℕ) → 0 < p.begins → spaced (going_on n own span) ≡ []
    going-stops zero b = refl
    going-stops (suc n) b =
        let f = begins-first in
        ap (λ (t : Bool). spaced (cond t (part_words own span ++ going_on n (drop loop_width own) (drop span_width span)) []))
        (ne_eqb (get_or own 0 0) 0 (λ (h : get_or own 0 0 ≡ 0). omega arith))

    pub begun-none : (n : ℕ) → p.begins ≡ 0 → [] ≡ written_lines (begun_lines n own span)
    begun-none n b = ap (λ (k : ℕ). written_lines (cond (eqb k 0) [] (loop_words n own span ∷ []))) (sym (begins-first ∙ b))

    pub begun-line : (n : ℕ) → (p.begins ≡ 0 → ⊥) → written_line (loop_words n own span) ≡ written_lines (begun_lines n own span)
    begun-line n b =
        one_line (loop_words n own span)
        ∙ ap (λ (t : Bool). written_lines (cond t [] (loop_words n own span ∷ [])))
        (sym (ne_eqb (get_or own 0 0) 0 (λ (h : get_or own 0 0 ≡ 0). b (sym begins-first ∙ h))))

pub going-none : (l : List ℕ) (z : List ℤ) (n : ℕ) → n ≤ 0 → spaced (going_on n l z) ≡ []
going-none l z zero h = refl
going-none l z (suc n) h = absurd (omega arith)

pub loops-none : (l : List ℕ) (z : List ℤ) (n : ℕ) → n ≤ 0 → written_lines (loop_lines n l z) ≡ []
loops-none l z zero h = refl
loops-none l z (suc n) h = absurd (omega arith)
