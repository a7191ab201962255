-- The words of a cut line are those of the bytes it was cut from: what a byte does is the same before and after the cut, by the tests that `plain` makes.
use Prim.Native.Nat.{ℕ, zero, suc}
use mathlib.Core.Path.{◌≡◌, refl, sym, ap, ◌∙◌}
use mathlib.Core.List.{List, [], ◌∷◌}
use mathlib.Core.Bool.{Bool, true, false, cond, ◌&&◌, ◌||◌}
use mathlib.Core.Logic.{⊎_elim}
use lib.ListN.{length, take}
use lib.Dec.{eqb}
use native.Mathlib.Omega.{arith}
use Rattle.lists.proofs.Tests.{test, never, and_right}
use Rattle.text.specs.Bytes.{is_word, is_blank, lf, line_end}
use Rattle.text.specs.Lines.{Mode, gap, word, comment, join, Look, goes, ends, refused, plain_byte, look, extent}
use Rattle.text.specs.Words.{Word, word_of, is_gap, opens_word, words, refused_at}

-- two things that a byte does are not the same
pub goes-ends : {A : Type 0} {n : Mode} → ends ≡ goes n → A
goes-ends h = absurd (let z : ◌≡◌ {A = ℕ} 0 1 = cc in omega arith)

pub goes-refused : {A : Type 0} {n : Mode} → refused ≡ goes n → A
goes-refused h = absurd (let z : ◌≡◌ {A = ℕ} 0 1 = cc in omega arith)

pub ends-refused : {A : Type 0} → ends ≡ refused → A
ends-refused h = absurd (let z : ◌≡◌ {A = ℕ} 0 1 = cc in omega arith)

-- ---- line ends, cut
abbrev either-both : Bool → Bool → Bool → Bool
either-both x y u = x || (y && u)

less : (x y u v : Bool) → (u ≡ false → v ≡ false) → either-both x y u ≡ false → either-both x y v ≡ false
less true y u v i h = h
less false true u v i h = i h
less false false u v i h = refl

pub lf-cut : (k : ℕ) (l : List ℕ) → lf l ≡ false → lf (take k l) ≡ false
lf-cut zero [] h = refl
lf-cut zero (b ∷ bs) h = refl
lf-cut (suc k) [] h = refl
lf-cut (suc k) (b ∷ bs) h = h

pub end-cut : (k : ℕ) (l : List ℕ) → line_end l ≡ false → line_end (take k l) ≡ false
end-cut zero [] h = refl
end-cut zero (b ∷ bs) h = refl
end-cut (suc k) [] h = refl
end-cut (suc k) (b ∷ bs) h = less (eqb b 10) (eqb b 13) (lf bs) (lf (take k bs)) (lf-cut k bs) h

-- the line end after a backslash is not cut
lf-kept : (l : List ℕ) → lf l ≡ true → lf (take (extent join l) l) ≡ true
lf-kept [] h = h
lf-kept (b ∷ bs) h = rw h (rw h refl)

more : (x y u v : Bool) → (u ≡ true → v ≡ true) → x ≡ false → either-both x y u ≡ true → either-both x y v ≡ true
more true y u v i e h = refl
more false true u v i e h = i h
more false false u v i e h = h

end_kept : (l : List ℕ) → line_end l ≡ true → line_end (take (extent join l) l) ≡ true
end_kept [] h = h
end_kept (b ∷ bs) h =
    ⊎_elim
    (λ (t : eqb b 10 ≡ true). rw t (rw t refl))
    (λ (t : eqb b 10 ≡ false). rw t (more (eqb b 10) (eqb b 13) (lf bs) (lf (take (extent join bs) bs)) (lf-kept bs) t h))
    (test (eqb b 10))

-- ---- `plain_byte` over its tests
abbrev pub tested : Bool → Bool → Bool → Bool → Bool → Look
tested w k e f g = cond w (goes word) (cond k (goes gap) (cond e ends (cond f (cond g (goes join) refused) refused)))

pub stays : (w k e f g e' g' : Bool) (n : Mode) → (e ≡ false → e' ≡ false) → (n ≡ join → g ≡ true → g' ≡ true) → tested w k e f g ≡ goes n
    → tested w k e' f g' ≡ goes n
stays true k e f g e' g' n a j h = h
stays false true e f g e' g' n a j h = h
stays false false true f g e' g' n a j h = goes-ends h
stays false false false true true e' g' n a j h = let y : n ≡ join = cc in rw (a refl, j y refl) h
stays false false false true false e' g' n a j h = goes-refused h
stays false false false false g e' g' n a j h = goes-refused h

refuses : (w k e f g e' g' : Bool) → (e ≡ false → e' ≡ false) → (g ≡ false → g' ≡ false) → tested w k e f g ≡ refused → tested w k e' f g' ≡ refused
refuses true k e f g e' g' a j h = goes-refused (sym h)
refuses false true e f g e' g' a j h = goes-refused (sym h)
refuses false false true f g e' g' a j h = ends-refused h
refuses false false false true true e' g' a j h = goes-refused (sym h)
refuses false false false true false e' g' a j h = rw (a refl, j refl) refl
refuses false false false false g e' g' a j h = rw (a refl) refl

plain-goes : (b : ℕ) (bs : List ℕ) (n : Mode) → plain_byte b bs ≡ goes n → plain_byte b (take (extent n bs) bs) ≡ goes n
plain-goes b bs n h =
    stays (is_word b) (is_blank b) (line_end (b ∷ bs)) (eqb b 92) (line_end bs) (line_end (b ∷ take (extent n bs) bs)) (line_end (take (extent n bs) bs)) n
    (end-cut (suc (extent n bs)) (b ∷ bs))
    (λ e g. rw e (end_kept bs g)) h

look-goes : (m : Mode) (b : ℕ) (bs : List ℕ) (n : Mode) → look m b bs ≡ goes n → look m b (take (extent n bs) bs) ≡ goes n
look-goes gap b bs n h =
    ⊎_elim
    (λ (t : eqb b 35 ≡ true). rw t (rw t at h))
    (λ (t : eqb b 35 ≡ false). rw t (plain-goes b bs n (rw t at h)))
    (test (eqb b 35))
look-goes word b bs n h = plain-goes b bs n h
look-goes comment b bs n h =
    ⊎_elim
    (λ (t : line_end (b ∷ bs) ≡ true). goes-ends (rw t at h))
    (λ (t : line_end (b ∷ bs) ≡ false). rw (end-cut (suc (extent n bs)) (b ∷ bs) t) (rw t at h))
    (test (line_end (b ∷ bs)))
look-goes join b bs n h = h

plain-refused : (b : ℕ) (bs : List ℕ) (k : ℕ) → plain_byte b bs ≡ refused → plain_byte b (take k bs) ≡ refused
plain-refused b bs k h =
    refuses (is_word b) (is_blank b) (line_end (b ∷ bs)) (eqb b 92) (line_end bs) (line_end (b ∷ take k bs)) (line_end (take k bs))
    (end-cut (suc k) (b ∷ bs)) (end-cut k bs) h

look-refused : (m : Mode) (b : ℕ) (bs : List ℕ) (k : ℕ) → look m b bs ≡ refused → look m b (take k bs) ≡ refused
look-refused gap b bs k h =
    ⊎_elim
    (λ (t : eqb b 35 ≡ true). goes-refused (sym (rw t at h)))
    (λ (t : eqb b 35 ≡ false). rw t (plain-refused b bs k (rw t at h)))
    (test (eqb b 35))
look-refused word b bs k h = plain-refused b bs k h
look-refused comment b bs k h =
    ⊎_elim
    (λ (t : line_end (b ∷ bs) ≡ true). ends-refused (rw t at h))
    (λ (t : line_end (b ∷ bs) ≡ false). goes-refused (sym (rw t at h)))
    (test (line_end (b ∷ bs)))
look-refused join b bs k h =
    ⊎_elim (λ (t : eqb b 10 ≡ true). goes-refused (sym (rw t at h))) (λ (t : eqb b 10 ≡ false). goes-refused (sym (rw t at h))) (test (eqb b 10))

-- ---- words, cut
pub no_word : (j b : ℕ) (bs : List ℕ) → is_word b ≡ false → word_of (take j (b ∷ bs)) ≡ []
no_word zero b bs t = refl
no_word (suc j) b bs t = rw t refl

pub word-plain : (b : ℕ) (bs : List ℕ) → is_word b ≡ true → plain_byte b bs ≡ goes word
word-plain b bs t = rw t refl

word_of-cut : (l : List ℕ) → word_of (take (extent word l) l) ≡ word_of l
word_of-cut [] = refl
word_of-cut (b ∷ bs) =
    ⊎_elim
    (λ (t : is_word b ≡ true). rw t (rw t (ap (λ (r : List ℕ). b ∷ r) (word_of-cut bs))))
    (λ (t : is_word b ≡ false). no_word (extent word (b ∷ bs)) b bs t ∙ sym (no_word (suc (length bs)) b bs t) ∙ rw t refl)
    (test (is_word b))

pub in-word : (m n : Mode) → opens_word m n ≡ true → n ≡ word
in-word m gap h = never (and_right (is_gap m) false h)
in-word m word h = refl
in-word m comment h = never (and_right (is_gap m) false h)
in-word m join h = never (and_right (is_gap m) false h)

first_word : (m n : Mode) (p b : ℕ) (bs : List ℕ) (ws : List Word) (t : Bool) → opens_word m n ≡ t
    → cond t (record { place = p; bytes = word_of (b ∷ take (extent n bs) bs) } ∷ ws) ws ≡ cond t (record { place = p; bytes = word_of (b ∷ bs) } ∷ ws) ws
first_word m n p b bs ws true o =
    ap (λ (r : List ℕ). record { place = p; bytes = cond (is_word b) (b ∷ r) [] } ∷ ws)
    (let e : n ≡ word = in-word m n o in rw e (word_of-cut bs))
first_word m n p b bs ws false o = refl

words_step : (m : Mode) (p b : ℕ) (bs : List ℕ) → ((n : Mode) → words n (suc p) (take (extent n bs) bs) ≡ words n (suc p) bs)
    → (k : Look) → look m b bs ≡ k → words m p (take (extent m (b ∷ bs)) (b ∷ bs)) ≡ words m p (b ∷ bs)
words_step m p b bs ih (goes n) e =
    rw e (rw (look-goes m b bs n e) (rw (ih n) (first_word m n p b bs (words n (suc p) bs) (opens_word m n) refl)))
words_step m p b bs ih ends e = rw e refl
words_step m p b bs ih refused e = rw e (rw (look-refused m b bs (extent word bs) e) refl)

pub words-cut : (m : Mode) (p : ℕ) (l : List ℕ) → words m p (take (extent m l) l) ≡ words m p l
words-cut m p [] = refl
words-cut m p (b ∷ bs) = words_step m p b bs (λ n. words-cut n (suc p) bs) (look m b bs) refl

refused-step : (m : Mode) (p b : ℕ) (bs : List ℕ) → ((n : Mode) → refused_at n (suc p) (take (extent n bs) bs) ≡ refused_at n (suc p) bs)
    → (k : Look) → look m b bs ≡ k → refused_at m p (take (extent m (b ∷ bs)) (b ∷ bs)) ≡ refused_at m p (b ∷ bs)
refused-step m p b bs ih (goes n) e = rw e (rw (look-goes m b bs n e) (ih n))
refused-step m p b bs ih ends e = rw e refl
refused-step m p b bs ih refused e = rw e (rw (look-refused m b bs (extent word bs) e) refl)

pub refused-cut : (m : Mode) (p : ℕ) (l : List ℕ) → refused_at m p (take (extent m l) l) ≡ refused_at m p l
refused-cut m p [] = refl
refused-cut m p (b ∷ bs) = refused-step m p b bs (λ n. refused-cut n (suc p) bs) (look m b bs) refl
