-- The words from one word of a line to its last are the words of that part of the text alone. By the bytes: `upto` counts those up to the end of the last word.
use Prim.Native.Nat.{ℕ, zero, suc, ◌≤◌, ◌<◌}
use mathlib.Core.Path.{◌≡◌, refl, sym, ap, ◌∙◌, subst}
use mathlib.Core.List.{List, [], ◌∷◌}
use mathlib.Core.Bool.{Bool, true, false, cond, ◌&&◌, ◌||◌}
use mathlib.Core.Logic.{◌⊎◌, inl, inr, ⊎_elim}
use lib.ListN.{length, take, drop}
use lib.Seq.{drop-drop}
use lib.Dec.{eqb}
use native.Mathlib.Omega.{arith}
use native.Mathlib.Numerals.{add-one}
use Rattle.lists.proofs.Tests.{test, never, and_left, and_right}
use Rattle.text.specs.Bytes.{is_word, is_blank, lf, line_end}
use Rattle.text.specs.Lines.{Mode, gap, word, comment, join, Look, goes, ends, refused, plain_byte, look, onward}
use Rattle.text.specs.Words.{Word, word_of, is_gap, is_in_word, opens_word, words}
use Rattle.text.proofs.Cut.{end-cut, stays, no_word, in-word}

-- ---- the words from one word on
next-drop : (s : List ℕ) (p b : ℕ) (bs : List ℕ) → drop p s ≡ b ∷ bs → drop (suc p) s ≡ bs
next-drop s p b bs d = rw (sym (add-one p)) (sym (drop-drop 1 p s) ∙ ap (drop 1) d)

-- w and ws are the words of s from the place of w on, and ws those from some place on
pub record Onward (s : List ℕ) (w : Word) (ws : List Word) : Type 0 where
  pub from : words gap w.place (drop w.place s) ≡ w ∷ ws
  pub mode : Mode
  pub place : ℕ
  pub after : words mode place (drop place s) ≡ ws

onward-step : (s : List ℕ) (m : Mode) (p b : ℕ) (bs : List ℕ) (w : Word) (ws : List Word) → drop p s ≡ b ∷ bs
    → ((n : Mode) → words n (suc p) bs ≡ w ∷ ws → Onward s w ws) → (k : Look) → look m b bs ≡ k → (t : Bool) → opens_word m (onward k (λ n. n) gap gap) ≡ t
    → words m p (b ∷ bs) ≡ w ∷ ws → Onward s w ws
onward-step s m p b bs w ws d ih (goes n) e true o h =
    let x : words m p (b ∷ bs) ≡ record { place = p; bytes = word_of (b ∷ bs) } ∷ words n (suc p) bs = rw e (rw o refl) in
    let y : record { place = p; bytes = word_of (b ∷ bs) } ∷ words n (suc p) bs ≡ w ∷ ws = sym x ∙ h in
    let v : record { place = p; bytes = word_of (b ∷ bs) } ≡ w = cc in
    let u : words n (suc p) bs ≡ ws = cc in
    let q : p ≡ w.place = ap (λ (x : Word). x.place) v in
    let g : m ≡ gap = is-gap m (and_left (is_gap m) (is_in_word n) o) in
    record {
      from = ap (λ (j : ℕ). words gap j (drop j s)) (sym q) ∙ ap (words gap p) d ∙ ap (λ (j : Mode). words j p (b ∷ bs)) (sym g) ∙ h;
      mode = n;
      place = suc p;
      after = ap (words n (suc p)) (next-drop s p b bs d) ∙ u;
    }
  where
    is-gap : (m : Mode) → is_gap m ≡ true → m ≡ gap
    is-gap gap h = refl
    is-gap word h = never h
    is-gap comment h = never h
    is-gap join h = never h
onward-step s m p b bs w ws d ih (goes n) e false o h = ih n (let x : words m p (b ∷ bs) ≡ words n (suc p) bs = rw e (rw o refl) in sym x ∙ h)
onward-step s m p b bs w ws d ih ends e t o h = absurd (let x : words m p (b ∷ bs) ≡ [] = rw e refl in let z : ◌≡◌ {A = ℕ} 0 1 = cc in omega arith)
onward-step s m p b bs w ws d ih refused e t o h = absurd (let x : words m p (b ∷ bs) ≡ [] = rw e refl in let z : ◌≡◌ {A = ℕ} 0 1 = cc in omega arith)

pub onward-from : (s : List ℕ) (m : Mode) (p : ℕ) (l : List ℕ) (w : Word) (ws : List Word) → drop p s ≡ l → words m p l ≡ w ∷ ws → Onward s w ws
onward-from s m p [] w ws d h = absurd (let z : ◌≡◌ {A = ℕ} 0 1 = cc in omega arith)
onward-from s m p (b ∷ bs) w ws d h =
    onward-step s m p b bs w ws d (λ n e. onward-from s n (suc p) bs w ws (next-drop s p b bs d) e) (look m b bs) refl (opens_word m (onward (look m b bs) (λ n. n) gap gap)) refl h

-- ---- up to the end of the last word
abbrev pub longer : Bool → ℕ → ℕ
longer t zero = cond t 1 0
longer t (suc k) = suc (suc k)

abbrev pub upto : Mode → List ℕ → ℕ
upto m [] = 0
upto m (b ∷ bs) = onward (look m b bs) (λ n. longer (is_in_word n) (upto n bs)) 0 0

-- ---- a byte does the same before what is cut off
lf-kept : (k : ℕ) (l : List ℕ) → 0 < k → lf l ≡ true → lf (take k l) ≡ true
lf-kept zero l p h = absurd (omega arith)
lf-kept (suc k) [] p h = h
lf-kept (suc k) (b ∷ bs) p h = h

pub longer-none : (k : ℕ) → 0 < longer false k → (longer false k ≡ suc k) × (0 < k)
longer-none zero p = absurd (omega arith)
longer-none (suc k) p = (refl, omega arith)

pub longer-one : (k : ℕ) → longer true k ≡ suc k
longer-one zero = refl
longer-one (suc k) = refl

end_kept : (l : List ℕ) → 0 < upto join l → line_end l ≡ true → line_end (take (upto join l) l) ≡ true
end_kept [] p h = h
end_kept (b ∷ bs) p h = go (eqb b 10) refl (longer-none (upto gap bs)) (longer-none (upto join bs)) p h
  where
    go : (t : Bool) → eqb b 10 ≡ t → (0 < longer false (upto gap bs) → (longer false (upto gap bs) ≡ suc (upto gap bs)) × (0 < upto gap bs))
        → (0 < longer false (upto join bs) → (longer false (upto join bs) ≡ suc (upto join bs)) × (0 < upto join bs))
        → 0 < onward (cond t (goes gap) (goes join)) (λ n. longer (is_in_word n) (upto n bs)) 0 0 → (t || (eqb b 13 && lf bs)) ≡ true
        → line_end (take (onward (cond t (goes gap) (goes join)) (λ n. longer (is_in_word n) (upto n bs)) 0 0) (b ∷ bs)) ≡ true
    go true q f g p h = let e = (f p).0 in rw e (rw q refl)
    go false q f g p h =
        let e = g p in
        let x = lf-kept (upto join bs) bs e.1 (and_right (eqb b 13) (lf bs) h) in
        rw e.0 (rw (q, and_left (eqb b 13) (lf bs) h, x) refl)

join-word : join ≡ word → false ≡ true
join-word h = ap is_in_word h

plain-goes : (b : ℕ) (bs : List ℕ) (n : Mode) → (0 < upto n bs) ⊎ (n ≡ word) → plain_byte b bs ≡ goes n → plain_byte b (take (upto n bs) bs) ≡ goes n
plain-goes b bs n l h =
    stays (is_word b) (is_blank b) (line_end (b ∷ bs)) (eqb b 92) (line_end bs) (line_end (b ∷ take (upto n bs) bs)) (line_end (take (upto n bs) bs)) n
    (end-cut (suc (upto n bs)) (b ∷ bs))
    (λ e g. rw e (end_kept bs (⊎_elim (λ (p : 0 < upto n bs). subst (λ (j : Mode). 0 < upto j bs) e p) (λ (q : n ≡ word). never (join-word (sym e ∙ q))) l) g)) h

look-goes : (m : Mode) (b : ℕ) (bs : List ℕ) (n : Mode) → (0 < upto n bs) ⊎ (n ≡ word) → look m b bs ≡ goes n → look m b (take (upto n bs) bs) ≡ goes n
look-goes gap b bs n l h =
    ⊎_elim (λ (t : eqb b 35 ≡ true). rw t (rw t at h)) (λ (t : eqb b 35 ≡ false). rw t (plain-goes b bs n l (rw t at h))) (test (eqb b 35))
look-goes word b bs n l h = plain-goes b bs n l h
look-goes comment b bs n l h =
    ⊎_elim
    (λ (t : line_end (b ∷ bs) ≡ true). absurd (let y : ends ≡ goes n = rw t at h in let z : ◌≡◌ {A = ℕ} 0 1 = cc in omega arith))
    (λ (t : line_end (b ∷ bs) ≡ false). rw (end-cut (suc (upto n bs)) (b ∷ bs) t) (rw t at h))
    (test (line_end (b ∷ bs)))
look-goes join b bs n l h = h

-- ---- the words, cut
word_cut : (l : List ℕ) → word_of (take (upto word l) l) ≡ word_of l
word_cut [] = refl
word_cut (b ∷ bs) =
    ⊎_elim
    (λ (t : is_word b ≡ true). rw (t, longer-one (upto word bs)) (rw t (ap (λ (r : List ℕ). b ∷ r) (word_cut bs))))
    (λ (t : is_word b ≡ false). no_word (upto word (b ∷ bs)) b bs t ∙ sym (no_word (suc (length bs)) b bs t) ∙ rw t refl)
    (test (is_word b))

first_word : (m n : Mode) (p b : ℕ) (bs : List ℕ) (ws : List Word) (t : Bool) → opens_word m n ≡ t
    → cond t (record { place = p; bytes = word_of (b ∷ take (upto n bs) bs) } ∷ ws) ws ≡ cond t (record { place = p; bytes = word_of (b ∷ bs) } ∷ ws) ws
first_word m n p b bs ws true o =
    ap (λ (r : List ℕ). record { place = p; bytes = cond (is_word b) (b ∷ r) [] } ∷ ws) (let e : n ≡ word = in-word m n o in rw e (word_cut bs))
first_word m n p b bs ws false o = refl

-- one byte more, or no word from here on
data Reach (t : Bool) (k : ℕ) : Type 0 where
  further : longer t k ≡ suc k → (0 < k) ⊎ (t ≡ true) → Reach t k
  nowhere : longer t k ≡ 0 → k ≡ 0 → t ≡ false → Reach t k

reach : (t : Bool) (k : ℕ) → Reach t k
reach t (suc k) = further refl (inl (omega arith))
reach true zero = further refl (inr refl)
reach false zero = nowhere refl refl refl

mode-word : (n : Mode) → is_in_word n ≡ true → n ≡ word
mode-word gap h = never h
mode-word word h = refl
mode-word comment h = never h
mode-word join h = never h

cut_step : (m : Mode) (p b : ℕ) (bs : List ℕ) (n : Mode) → look m b bs ≡ goes n → words n (suc p) (take (upto n bs) bs) ≡ words n (suc p) bs → Reach (is_in_word n) (upto n bs)
    → words m p (take (longer (is_in_word n) (upto n bs)) (b ∷ bs)) ≡ words m p (b ∷ bs)
cut_step m p b bs n e ih (further q r) =
    let l : (0 < upto n bs) ⊎ (n ≡ word) = ⊎_elim (λ (x : 0 < upto n bs). inl x) (λ (x : is_in_word n ≡ true). inr (mode-word n x)) r in
    rw (q, e) (rw (look-goes m b bs n l e) (rw ih (first_word m n p b bs (words n (suc p) bs) (opens_word m n) refl)))
cut_step m p b bs n e ih (nowhere q r t) =
    let o : opens_word m n ≡ false = rw t (never-second (is_gap m)) in
    let x : words n (suc p) bs ≡ [] = sym ih ∙ ap (λ (j : ℕ). words n (suc p) (take j bs)) r in
    rw (q, e, o) (sym x)
  where
    never-second : (a : Bool) → (a && false) ≡ false
    never-second true = refl
    never-second false = refl

cut-look : (m : Mode) (p b : ℕ) (bs : List ℕ) → ((n : Mode) → words n (suc p) (take (upto n bs) bs) ≡ words n (suc p) bs)
    → (k : Look) → look m b bs ≡ k → words m p (take (onward k (λ n. longer (is_in_word n) (upto n bs)) 0 0) (b ∷ bs)) ≡ words m p (b ∷ bs)
cut-look m p b bs ih (goes n) e = cut_step m p b bs n e (ih n) (reach (is_in_word n) (upto n bs))
cut-look m p b bs ih ends e = rw e refl
cut-look m p b bs ih refused e = rw e refl

pub words-upto : (m : Mode) (p : ℕ) (l : List ℕ) → words m p (take (upto m l) l) ≡ words m p l
words-upto m p [] = refl
words-upto m p (b ∷ bs) = cut-look m p b bs (λ n. words-upto n (suc p) bs) (look m b bs) refl

pub upto-some : (m : Mode) (p : ℕ) (l : List ℕ) (w : Word) (ws : List Word) → words m p l ≡ w ∷ ws → 0 < upto m l
upto-some m p l w ws h = go (upto m l) (words-upto m p l)
  where
    go : (k : ℕ) → words m p (take k l) ≡ words m p l → 0 < k
    go zero e = absurd (let x : words m p [] ≡ w ∷ ws = e ∙ h in let z : ◌≡◌ {A = ℕ} 0 1 = cc in omega arith)
    go (suc k) e = omega arith

pub upto-short : (m : Mode) (l : List ℕ) → upto m l ≤ length l
upto-short m [] = omega arith
upto-short m (b ∷ bs) = go (look m b bs) (λ n. upto-short n bs)
  where
    longer-short : (t : Bool) (k : ℕ) → k ≤ length bs → longer t k ≤ suc (length bs)
    longer-short t (suc k) l = omega arith
    longer-short true zero l = omega arith
    longer-short false zero l = omega arith

    go : (k : Look) → ((n : Mode) → upto n bs ≤ length bs) → onward k (λ n. longer (is_in_word n) (upto n bs)) 0 0 ≤ suc (length bs)
    go (goes n) h = longer-short (is_in_word n) (upto n bs) (h n)
    go ends h = omega arith
    go refused h = omega arith
