-- The run of names from the first to the last of a line: as a part of the text, its words are these names. By the bytes.
use Prim.Native.Nat.{ℕ, zero, suc, ◌+◌, ◌-◌, ◌≤◌, ◌<◌}
use mathlib.Core.Path.{◌≡◌, refl, sym, ap, ap₂, ◌∙◌}
use mathlib.Core.List.{List, [], ◌∷◌}
use mathlib.Core.Bool.{Bool, true, false, cond}
use mathlib.Core.Logic.{◌⊎◌, inl, inr, ⊎_elim}
use lib.ListN.{length, drop, length-drop}
use native.Mathlib.Omega.{arith}
use borrow.Author.Tests.{le-leb}
use Rattle.lists.proofs.Tests.{test, never, and_right}
use Rattle.text.specs.Bytes.{is_word, is_blank, line_end}
use Rattle.text.specs.Lines.{Mode, gap, word, comment, join, Look, goes, ends, refused, look, onward, line_of}
use Rattle.text.specs.Words.{Word, word_of, is_gap, is_in_word, opens_word, words}
use Rattle.text.proofs.Cut.{words-cut}
use Rattle.tables.specs.Asking.{part_of}
use Rattle.model.specs.Layout.{last_end}
use Rattle.model.proofs.Placed.{WordsStand}
use Rattle.text.proofs.Cut.{tested}
use Rattle.tidy_form.proofs.Parts.{onward-from, longer, upto, longer-one, words-upto, upto-some, upto-short}

-- in a word, a byte goes on in it exactly where it is a word byte
word-goes : (w k e f g : Bool) (n : Mode) → tested w k e f g ≡ goes n → is_in_word n ≡ w
word-goes true k e f g n h = ap is_in_word (let z : n ≡ word = cc in z)
word-goes false true e f g n h = ap is_in_word (let z : n ≡ gap = cc in z)
word-goes false false true f g n h = absurd (let z : ◌≡◌ {A = ℕ} 0 1 = cc in omega arith)
word-goes false false false true true n h = ap is_in_word (let z : n ≡ join = cc in z)
word-goes false false false true false n h = absurd (let z : ◌≡◌ {A = ℕ} 0 1 = cc in omega arith)
word-goes false false false false g n h = absurd (let z : ◌≡◌ {A = ℕ} 0 1 = cc in omega arith)

word-stops : (w k e f g : Bool) → tested w k e f g ≡ ends ⊎ tested w k e f g ≡ refused → w ≡ false
word-stops true k e f g (inl h) = absurd (let z : ◌≡◌ {A = ℕ} 0 1 = cc in omega arith)
word-stops true k e f g (inr h) = absurd (let z : ◌≡◌ {A = ℕ} 0 1 = cc in omega arith)
word-stops false k e f g h = refl

-- outside a word, no byte goes on in one unless it opens it
outside-goes : (m : Mode) (b : ℕ) (bs : List ℕ) (n : Mode) → is_in_word m ≡ false → opens_word m n ≡ false → look m b bs ≡ goes n → is_in_word n ≡ false
outside-goes gap b bs n i o h = o
outside-goes word b bs n i o h = never (sym i)
outside-goes comment b bs n i o h =
    ⊎_elim
    (λ (t : line_end (b ∷ bs) ≡ true). absurd (let y : ends ≡ goes n = rw t at h in let z : ◌≡◌ {A = ℕ} 0 1 = cc in omega arith))
    (λ (t : line_end (b ∷ bs) ≡ false). ap is_in_word (let y : goes comment ≡ goes n = rw t at h in let z : n ≡ comment = cc in z))
    (test (line_end (b ∷ bs)))
outside-goes join b bs n i o h =
    ⊎_elim
    (λ (t : lib.Dec.eqb b 10 ≡ true). ap is_in_word (let y : goes gap ≡ goes n = rw t at h in let z : n ≡ gap = cc in z))
    (λ (t : lib.Dec.eqb b 10 ≡ false). ap is_in_word (let y : goes join ≡ goes n = rw t at h in let z : n ≡ join = cc in z))
    (test (lib.Dec.eqb b 10))

-- ---- where no word begins, up to the end of the one that is under way
abbrev underway : Mode → List ℕ → ℕ
underway m l = cond (is_in_word m) (length (word_of l)) 0

word-length : (b : ℕ) (bs : List ℕ) (t : Bool) → is_word b ≡ t → length (word_of (b ∷ bs)) ≡ cond t (suc (length (word_of bs))) 0
word-length b bs true e = rw e refl
word-length b bs false e = rw e refl

longer-under : (t : Bool) (k : ℕ) → longer t (cond t k 0) ≡ cond t (suc k) 0
longer-under true k = longer-one k
longer-under false k = refl

no_step : (m : Mode) (b : ℕ) (bs : List ℕ) (n : Mode) → look m b bs ≡ goes n → opens_word m n ≡ false → upto n bs ≡ underway n bs → longer (is_in_word n) (upto n bs) ≡ underway m (b ∷ bs)
no_step gap b bs n e o h = let i = outside-goes gap b bs n refl o e in rw (h, i) refl
no_step word b bs n e o h =
    let i = word-goes (is_word b) (is_blank b) (line_end (b ∷ bs)) (lib.Dec.eqb b 92) (line_end bs) n e in
    rw h (longer-under (is_in_word n) (length (word_of bs)) ∙ sym (word-length b bs (is_in_word n) (sym i)))
no_step comment b bs n e o h = let i = outside-goes comment b bs n refl o e in rw (h, i) refl
no_step join b bs n e o h = let i = outside-goes join b bs n refl o e in rw (h, i) refl

stops : (m : Mode) (b : ℕ) (bs : List ℕ) → look m b bs ≡ ends ⊎ look m b bs ≡ refused → 0 ≡ underway m (b ∷ bs)
stops gap b bs h = refl
stops word b bs h = sym (word-length b bs false (word-stops (is_word b) (is_blank b) (line_end (b ∷ bs)) (lib.Dec.eqb b 92) (line_end bs) h))
stops comment b bs h = refl
stops join b bs h = refl

none-under : (m : Mode) → 0 ≡ underway m []
none-under gap = refl
none-under word = refl
none-under comment = refl
none-under join = refl

none-look : (m : Mode) (p b : ℕ) (bs : List ℕ) → ((n : Mode) → words n (suc p) bs ≡ [] → upto n bs ≡ underway n bs) → (k : Look) → look m b bs ≡ k
    → (t : Bool) → opens_word m (onward k (λ n. n) gap gap) ≡ t → words m p (b ∷ bs) ≡ [] → onward k (λ n. longer (is_in_word n) (upto n bs)) 0 0 ≡ underway m (b ∷ bs)
none-look m p b bs ih (goes n) e true o h =
    absurd (let x : words m p (b ∷ bs) ≡ record { place = p; bytes = word_of (b ∷ bs) } ∷ words n (suc p) bs = rw e (rw o refl) in let z : ◌≡◌ {A = ℕ} 0 1 = cc in omega arith)
none-look m p b bs ih (goes n) e false o h =
    let x : words m p (b ∷ bs) ≡ words n (suc p) bs = rw e (rw o refl) in
    no_step m b bs n e o (ih n (sym x ∙ h))
none-look m p b bs ih ends e t o h = stops m b bs (inl e)
none-look m p b bs ih refused e t o h = stops m b bs (inr e)

upto-none : (m : Mode) (p : ℕ) (l : List ℕ) → words m p l ≡ [] → upto m l ≡ underway m l
upto-none m p [] h = none-under m
upto-none m p (b ∷ bs) h = none-look m p b bs (λ n e. upto-none n (suc p) bs e) (look m b bs) refl (opens_word m (onward (look m b bs) (λ n. n) gap gap)) refl h

-- ---- up to the last word's end
opens-word : (m : Mode) (b : ℕ) (bs : List ℕ) (n : Mode) → look m b bs ≡ goes n → opens_word m n ≡ true → is_word b ≡ true
opens-word gap b bs n e o =
    ⊎_elim
    (λ (t : lib.Dec.eqb b 35 ≡ true). never (let y : goes comment ≡ goes n = rw t at e in let z : n ≡ comment = cc in sym (ap is_in_word z) ∙ o))
    (λ (t : lib.Dec.eqb b 35 ≡ false). sym (word-goes (is_word b) (is_blank b) (line_end (b ∷ bs)) (lib.Dec.eqb b 92) (line_end bs) n (rw t at e)) ∙ o)
    (test (lib.Dec.eqb b 35))
opens-word word b bs n e o = never o
opens-word comment b bs n e o = never o
opens-word join b bs n e o = never o

longer-more : (t : Bool) (k : ℕ) → 0 < k → longer t k ≡ suc k
longer-more t zero h = absurd (omega arith)
longer-more t (suc k) h = refl

last-look : (m : Mode) (p b : ℕ) (bs : List ℕ) (w : Word) (ws : List Word)
    → ((n : Mode) (w : Word) (ws : List Word) → words n (suc p) bs ≡ w ∷ ws → last_end w ws ≡ suc p + upto n bs) → (k : Look) → look m b bs ≡ k
    → (t : Bool) → opens_word m (onward k (λ n. n) gap gap) ≡ t → words m p (b ∷ bs) ≡ w ∷ ws → last_end w ws ≡ p + onward k (λ n. longer (is_in_word n) (upto n bs)) 0 0
last-look m p b bs w ws ih (goes n) e true o h =
    let x : words m p (b ∷ bs) ≡ record { place = p; bytes = word_of (b ∷ bs) } ∷ words n (suc p) bs = rw e (rw o refl) in
    let y : record { place = p; bytes = word_of (b ∷ bs) } ∷ words n (suc p) bs ≡ w ∷ ws = sym x ∙ h in
    let v : record { place = p; bytes = word_of (b ∷ bs) } ≡ w = cc in
    let u : words n (suc p) bs ≡ ws = cc in
    ap₂ last_end (sym v) (sym u) ∙ go (words n (suc p) bs) refl
  where
    in-word : is_in_word n ≡ true
    in-word = and_right (is_gap m) (is_in_word n) o

    go : (vs : List Word) → words n (suc p) bs ≡ vs → last_end (record { place = p; bytes = word_of (b ∷ bs) }) vs ≡ p + longer (is_in_word n) (upto n bs)
    go [] q =
        let a : upto n bs ≡ length (word_of bs) = upto-none n (suc p) bs q ∙ rw in-word refl in
        let c = word-length b bs true (opens-word m b bs n e o) in
        let d : longer (is_in_word n) (upto n bs) ≡ suc (upto n bs) = rw in-word (longer-one (upto n bs)) in
        omega arith
    go (v ∷ vs) q =
        let a = ih n v vs q in
        let d : longer (is_in_word n) (upto n bs) ≡ suc (upto n bs) = rw in-word (longer-one (upto n bs)) in
        omega arith
last-look m p b bs w ws ih (goes n) e false o h =
    let x : words m p (b ∷ bs) ≡ words n (suc p) bs = rw e (rw o refl) in
    let y : words n (suc p) bs ≡ w ∷ ws = sym x ∙ h in
    let a = ih n w ws y in
    let d = longer-more (is_in_word n) (upto n bs) (upto-some n (suc p) bs w ws y) in
    omega arith
last-look m p b bs w ws ih ends e t o h = absurd (let x : words m p (b ∷ bs) ≡ [] = rw e refl in let z : ◌≡◌ {A = ℕ} 0 1 = cc in omega arith)
last-look m p b bs w ws ih refused e t o h = absurd (let x : words m p (b ∷ bs) ≡ [] = rw e refl in let z : ◌≡◌ {A = ℕ} 0 1 = cc in omega arith)

last-end : (m : Mode) (p : ℕ) (l : List ℕ) (w : Word) (ws : List Word) → words m p l ≡ w ∷ ws → last_end w ws ≡ p + upto m l
last-end m p [] w ws h = absurd (let z : ◌≡◌ {A = ℕ} 0 1 = cc in omega arith)
last-end m p (b ∷ bs) w ws h =
    last-look m p b bs w ws (λ n v vs e. last-end n (suc p) bs v vs e) (look m b bs) refl (opens_word m (onward (look m b bs) (λ n. n) gap gap)) refl h

-- ---- the run of names
run-words : (s : List ℕ) (w : Word) (ws : List Word) → words gap w.place (drop w.place s) ≡ w ∷ ws
    → WordsStand s (w ∷ ws)
unfolding part_of
run-words s w ws h =
    let q = w.place in
    let L = drop q s in
    let e = last-end gap q L w ws h in
    let l = upto-short gap L in
    let d = length-drop q s in
    let u = upto-some gap q L w ws h in
    let k : last_end w ws - q ≡ upto gap L = omega arith in
    let b : q + upto gap L ≤ length s = omega arith in
    rw (k, le-leb (q + upto gap L) (length s) b) (words-upto gap q L ∙ h)

-- the names after the keyword of a line of s
pub names-run : (s : List ℕ) (p : ℕ) (key : Word) (ws : List Word) → words gap p (line_of (drop p s)) ≡ key ∷ ws
    → WordsStand s ws
unfolding part_of
names-run s p key ws h =
    let o = onward-from s gap p (drop p s) key ws refl (sym (words-cut gap p (drop p s)) ∙ h) in
    go ws o.mode o.place o.after
  where
    go : (ws : List Word) (m : Mode) (q : ℕ) → words m q (drop q s) ≡ ws → WordsStand s ws
    go [] m q e = rw (le-leb 0 (length s) (omega arith)) refl
    go (w ∷ ws) m q e = run-words s w ws (onward-from s m q (drop q s) w ws refl e).from
