-- The rest of a line in any mode, one byte on: by what the byte does.
use Prim.Native.Nat.{ℕ, suc, ◌+◌, ◌≤◌}
use mathlib.Core.Path.{◌≡◌, refl, sym, ap, ◌∙◌}
use mathlib.Core.List.{List, [], ◌∷◌}
use mathlib.Core.Bool.{Bool, true, false, cond, ◌&&◌, ◌||◌, not}
use mathlib.Core.Option.{Option, none, some}
use mathlib.Core.Logic.{◌⊎◌, inl, inr, ⊎_elim}
use lib.ListN.{length, drop}
use lib.Dec.{eqb}
use native.Mathlib.Omega.{arith}
use native.Mathlib.Nat.{add-zero}
use borrow.Author.Tests.{eqb-true, ne_eqb, not-true}
use Rattle.lists.proofs.Tests.{test, never, and_left, and_right}
use Rattle.text.specs.Bytes.{is_word, is_blank, lf, line_end}
use Rattle.text.specs.Tokens.{starts_word}
use Rattle.text.specs.Lines.{Mode, gap, word, comment, join, goes, ends, refused, look, onward, extent, ending}
use Rattle.text.specs.Words.{Word, word_of, opens_word, words, refused_at}
use Rattle.text.specs.Rest.{Rest, rest_at, push}
use Rattle.text.proofs.Cut.{words-cut, refused-cut, word-plain}

-- ---- what the tests of bytes tell
or_case : (x y : Bool) → (x || y) ≡ true → (x ≡ true) ⊎ (y ≡ true)
or_case true y h = inl refl
or_case false y h = inr h

pub blank-is : (b : ℕ) → is_blank b ≡ true → (b ≡ 32) ⊎ (b ≡ 9)
blank-is b h = ⊎_elim (λ t. inl (eqb-true b 32 t)) (λ t. inr (eqb-true b 9 t)) (or_case (eqb b 32) (eqb b 9) h)

pub end_is : (b : ℕ) (bs : List ℕ) → line_end (b ∷ bs) ≡ true → (b ≡ 10) ⊎ ((b ≡ 13) × (lf bs ≡ true))
end_is b bs h =
    ⊎_elim (λ t. inl (eqb-true b 10 t))
    (λ t. inr (eqb-true b 13 (and_left (eqb b 13) (lf bs) t), and_right (eqb b 13) (lf bs) t))
    (or_case (eqb b 10) (eqb b 13 && lf bs) h)

pub not-hash : (b : ℕ) → is_word b ≡ false → eqb b 35 ≡ false
not-hash b h = ne_eqb b 35 (λ e. let z : true ≡ false = ap is_word (sym e) ∙ h in let y : ◌≡◌ {A = ℕ} 0 1 = cc in omega arith)

pub starts-word : (b : ℕ) → starts_word b ≡ true → is_word b ≡ true
starts-word b h = and_left (is_word b) (not (eqb b 35)) h

pub starts-plain : (b : ℕ) → starts_word b ≡ true → eqb b 35 ≡ false
starts-plain b h = not-true (eqb b 35) (and_right (is_word b) (not (eqb b 35)) h)

-- ---- the rest of a line whose bytes are l and more, in a mode
abbrev pub stride_in : Mode → List ℕ → ℕ
stride_in m l = extent m l + ending (drop (extent m l) l)

abbrev pub rest_in : Mode → ℕ → List ℕ → Rest
rest_in m p l = record { words = words m p l; bad = refused_at m p l; next = p + stride_in m l }

pub rest_eq : {a b : List Word} {c d : Option ℕ} {e f : ℕ} → a ≡ b → c ≡ d → e ≡ f
    → ◌≡◌ {A = Rest} (record { words = a; bad = c; next = e }) (record { words = b; bad = d; next = f })
rest_eq p q r = cc

pub rest_in-gap : (s : List ℕ) (p : ℕ) → rest_at s p ≡ rest_in gap p (drop p s)
unfolding rest_at
rest_in-gap s p = rest_eq (words-cut gap p (drop p s)) (refused-cut gap p (drop p s)) refl

module _ (m : Mode) (p b : ℕ) (bs : List ℕ) where
  stride-goes : (n : Mode) → look m b bs ≡ goes n → p + stride_in m (b ∷ bs) ≡ suc p + stride_in n bs
  stride-goes n e = rw e (omega arith)

  pub rest_goes : (n : Mode) → look m b bs ≡ goes n → opens_word m n ≡ false → rest_in m p (b ∷ bs) ≡ rest_in n (suc p) bs
  rest_goes n e o = rest_eq (rw e (rw o refl)) (rw e refl) (stride-goes n e)

  pub rest-opens : (n : Mode) → look m b bs ≡ goes n → opens_word m n ≡ true
      → rest_in m p (b ∷ bs) ≡ push (record { place = p; bytes = word_of (b ∷ bs) }) (rest_in n (suc p) bs)
  rest-opens n e o = rest_eq (rw e (rw o refl)) (rw e refl) (stride-goes n e)

  pub rest-ends : look m b bs ≡ ends → rest_in m p (b ∷ bs) ≡ record { words = []; bad = none; next = p + ending (b ∷ bs) }
  rest-ends e = rest_eq (rw e refl) (rw e refl) (rw e (omega arith))

  pub rest-refused : look m b bs ≡ refused → (words m p (b ∷ bs) ≡ []) × (refused_at m p (b ∷ bs) ≡ some p)
  rest-refused e = (rw e refl, rw e refl)

pub rest-none : (m : Mode) (p : ℕ) → rest_in m p [] ≡ record { words = []; bad = none; next = p }
rest-none m p = rest_eq refl refl (omega arith)

-- ---- between words
pub blank-look : (b : ℕ) (bs : List ℕ) → is_blank b ≡ true → look gap b bs ≡ goes gap
blank-look b bs h = ⊎_elim (λ (e : b ≡ 32). rw e refl) (λ (e : b ≡ 9). rw e refl) (blank-is b h)

pub end-look : (b : ℕ) (bs : List ℕ) → line_end (b ∷ bs) ≡ true → look gap b bs ≡ ends
end-look b bs h =
    ⊎_elim (λ (e : b ≡ 10). rw e refl) (λ (e : (b ≡ 13) × (lf bs ≡ true)). let x : b ≡ 13 = e.0 in let y : lf bs ≡ true = e.1 in rw (x, y) refl) (end_is b bs h)

pub word-look : (b : ℕ) (bs : List ℕ) → starts_word b ≡ true → look gap b bs ≡ goes word
word-look b bs h = rw (starts-plain b h, starts-word b h) refl

pub join-look : (b : ℕ) (bs : List ℕ) → b ≡ 92 → line_end bs ≡ true → look gap b bs ≡ goes join
join-look b bs e h = rw (e, h) refl

-- the line end after a backslash
lf-joined : (p : ℕ) (l : List ℕ) → lf l ≡ true → rest_in join p l ≡ rest_in gap (suc p) (drop 1 l)
lf-joined p [] h = never h
lf-joined p (b ∷ bs) h = rest_goes join p b bs gap (rw h refl) refl

pub joined : (p : ℕ) (l : List ℕ) → line_end l ≡ true → rest_in join p l ≡ rest_in gap (p + ending l) (drop (ending l) l)
joined p [] h = never h
joined p (b ∷ bs) h =
    ⊎_elim
    (λ (e : b ≡ 10).
    let n : suc p ≡ p + 1 = omega arith in
    rest_goes join p b bs gap (rw e refl) refl ∙ ap (λ (q : ℕ). rest_in gap q bs) n ∙ rw e refl)
    (λ (e : (b ≡ 13) × (lf bs ≡ true)).
    let x : b ≡ 13 = e.0 in
    let n : suc (suc p) ≡ p + 2 = omega arith in
    rest_goes join p b bs join (rw x refl) refl ∙ lf-joined (suc p) bs e.1 ∙ ap (λ (q : ℕ). rest_in gap q (drop 1 bs)) n ∙ rw x refl)
    (end_is b bs h)

-- ---- in a comment: a CR before LF may count as the comment's or the ending's
lf-noted : (p : ℕ) (l : List ℕ) → lf l ≡ true → rest_in comment p l ≡ record { words = []; bad = none; next = p + 1 }
lf-noted p [] h = never h
lf-noted p (b ∷ bs) h =
    let e : b ≡ 10 = eqb-true b 10 h in
    rest-ends comment p b bs (rw e refl) ∙ rw e refl

pub noted-end : (p b : ℕ) (bs : List ℕ) → b ≡ 10 → rest_in comment p (b ∷ bs) ≡ record { words = []; bad = none; next = p + 1 }
noted-end p b bs e = rest-ends comment p b bs (rw e refl) ∙ rw e refl

pub noted : (p b : ℕ) (bs : List ℕ) → (b ≡ 10 → ⊥) → rest_in comment p (b ∷ bs) ≡ rest_in comment (suc p) bs
noted p b bs n =
    ⊎_elim
    (λ (t : line_end (b ∷ bs) ≡ true).
    ⊎_elim (λ (e : b ≡ 10). absurd (n e))
    (λ (e : (b ≡ 13) × (lf bs ≡ true)).
    let x : b ≡ 13 = e.0 in
    let z : p + 2 ≡ suc p + 1 = omega arith in
    let y : ending (b ∷ bs) ≡ 2 = rw x refl in
    rest-ends comment p b bs (rw t refl)
    ∙ ap (λ (q : ℕ). record { words = []; bad = none; next = p + q }) y
    ∙ ap (λ (q : ℕ). record { words = []; bad = none; next = q }) z
    ∙ sym (lf-noted (suc p) bs e.1))
    (end_is b bs t))
    (λ (t : line_end (b ∷ bs) ≡ false). rest_goes comment p b bs comment (rw t refl) refl)
    (test (line_end (b ∷ bs)))

-- ---- past a word
tame : {A : Type 0} (k e f g : Bool) (x y : Mode → A) (n r : A) → x gap ≡ y gap → x join ≡ y join
    → onward (cond k (goes gap) (cond e ends (cond f (cond g (goes join) refused) refused))) x n r
    ≡ onward (cond k (goes gap) (cond e ends (cond f (cond g (goes join) refused) refused))) y n r
tame true e f g x y n r p q = p
tame false true f g x y n r p q = refl
tame false false true true x y n r p q = q
tame false false true false x y n r p q = refl
tame false false false g x y n r p q = refl

outside : (p b : ℕ) (bs : List ℕ) → is_word b ≡ false → rest_in word p (b ∷ bs) ≡ rest_in gap p (b ∷ bs)
outside p b bs t =
    rest_eq
    (rw (not-hash b t, t)
    (tame (is_blank b) (line_end (b ∷ bs)) (eqb b 92) (line_end bs)
    (λ n. cond (opens_word word n) (record { place = p; bytes = [] } ∷ words n (suc p) bs) (words n (suc p) bs))
    (λ n. cond (opens_word gap n) (record { place = p; bytes = [] } ∷ words n (suc p) bs) (words n (suc p) bs))
    [] [] refl refl))
    (rw (not-hash b t) refl) (rw (not-hash b t) refl)

pub past_word : (p : ℕ) (l : List ℕ) → rest_in word p l ≡ rest_in gap (p + length (word_of l)) (drop (length (word_of l)) l)
past_word p [] = ap (λ (q : ℕ). rest_in gap q []) (sym (add-zero p))
past_word p (b ∷ bs) =
    ⊎_elim
    (λ (t : is_word b ≡ true).
    let k : ℕ = length (word_of bs) in
    let e : suc p + k ≡ p + suc k = omega arith in
    rest_goes word p b bs word (word-plain b bs t) refl ∙ past_word (suc p) bs ∙ ap (λ (q : ℕ). rest_in gap q (drop k bs)) e ∙ rw t refl)
    (λ (t : is_word b ≡ false).
    let e : word_of (b ∷ bs) ≡ [] = rw t refl in
    outside p b bs t ∙ ap (λ (q : ℕ). rest_in gap q (b ∷ bs)) (sym (add-zero p))
    ∙ ap (λ (l : List ℕ). rest_in gap (p + length l) (drop (length l) (b ∷ bs))) (sym e))
    (test (is_word b))

pub word-short : (l : List ℕ) → length (word_of l) ≤ length l
word-short [] = omega arith
word-short (b ∷ bs) =
    ⊎_elim
    (λ (t : is_word b ≡ true). let z = word-short bs in rw t (let y : length (word_of bs) ≤ length bs = z in omega arith))
    (λ (t : is_word b ≡ false). rw t (omega arith))
    (test (is_word b))
