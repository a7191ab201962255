-- The front of the text at a place: its word, and the digits and signs that the word starts with. By the list.
use Prim.Native.Nat.{ℕ, ◌+◌, ◌≤◌, ◌<◌}
use mathlib.Core.Path.{◌≡◌, refl, sym, ap, ◌∙◌}
use mathlib.Core.List.{List, [], ◌∷◌, ◌++◌, append-nil}
use mathlib.Core.Bool.{Bool, true, false, cond}
use mathlib.Core.Logic.{⊎_elim}
use lib.ListN.{length, drop, drop_of_length-le}
use lib.Seq.{drop-drop}
use lib.Dec.{leb, eqb}
use borrow.Author.Tests.{leb-true, leb-false, le-leb, lt-leb, ne_eqb, eq-eqb}
use native.Mathlib.Omega.{arith}
use Rattle.lists.proofs.Tests.{and_left, and_right, test, never}
use Rattle.text.specs.Bytes.{is_word}
use Rattle.text.specs.Words.{word_of}
use Rattle.digits.specs.Digits.{is_digit, digits}
use Rattle.digits.specs.Straight.{first, is_empty, run, past, front}
use Rattle.digits.proofs.Rows.{low_digit}

pub word_on : (l : List ℕ) → is_word (first l) ≡ true → false ≡ is_empty (word_of l)
word_on [] h = h
word_on (b ∷ bs) h = rw h refl

pub word_over : (l : List ℕ) → is_word (first l) ≡ false → true ≡ is_empty (word_of l)
word_over [] h = refl
word_over (b ∷ bs) h = rw h refl

-- the other way round
pub starts-word : (l : List ℕ) → false ≡ is_empty (word_of l) → is_word (first l) ≡ true
starts-word [] h = never h
starts-word (b ∷ bs) h = ⊎_elim (λ t. t) (λ (t : is_word b ≡ false). let q = rw t at h in never q) (test (is_word b))

pub starts_none : (l : List ℕ) → true ≡ is_empty (word_of l) → is_word (first l) ≡ false
starts_none [] h = refl
starts_none (b ∷ bs) h = ⊎_elim (λ (t : is_word b ≡ true). let q = rw t at h in never (sym q)) (λ t. t) (test (is_word b))

pub low-no-word : (b : ℕ) → b ≤ 32 → is_word b ≡ false
low-no-word b h = rw (lt-leb 33 b (omega arith)) refl

pub digit-word : (b : ℕ) → is_digit b ≡ true → is_word b ≡ true
digit-word b h =
    let l = leb-true 48 b (and_left (leb 48 b) (leb b 57) h) in
    let m = leb-true b 57 (and_right (leb 48 b) (leb b 57) h) in
    rw (le-leb 33 b (omega arith), le-leb b 126 (omega arith), ne_eqb b 92 (omega arith)) refl

-- at the front of what follows digits
pub low-stops : (l : List ℕ) (b : ℕ) → b ≡ first l → b ≤ 32 → is_digit (first l) ≡ false
low-stops l b e h = ap is_digit (sym e) ∙ low_digit b (omega arith)

pub slash-stops : (l : List ℕ) (b : ℕ) → b ≡ first l → b ≡ 47 → is_digit (first l) ≡ false
slash-stops l b e h = ap is_digit (sym e ∙ h)

-- where the digits stop no digit stands
pub past-digit : (l : List ℕ) → is_digit (first (past l)) ≡ false
past-digit [] = refl
past-digit (b ∷ bs) =
    ⊎_elim (λ (t : is_digit b ≡ true). rw t (past-digit bs)) (λ (t : is_digit b ≡ false). rw t t) (test (is_digit b))

pub run-nil : (l : List ℕ) → is_digit (first l) ≡ false → run l ≡ []
run-nil [] h = refl
run-nil (b ∷ bs) h = rw h refl

pub nothing_left : (l : List ℕ) → is_empty l ≡ true → l ≡ []
nothing_left [] h = refl
nothing_left (b ∷ bs) h = never h

-- what passes a test that digits pass: the digits at the front, and what passes after them
module _ (f : ℕ → Bool) (fd : (b : ℕ) → is_digit b ≡ true → f b ≡ true) where
  pub front-run : (l : List ℕ) → front f l ≡ run l ++ front f (past l)
  front-run [] = refl
  front-run (b ∷ bs) =
      ⊎_elim
      (λ (t : is_digit b ≡ true). rw (t, fd b t) (ap (λ (r : List ℕ). b ∷ r) (front-run bs)))
      (λ (t : is_digit b ≡ false). rw t refl)
      (test (is_digit b))

  pub front-all : (l : List ℕ) → is_empty (front f (past l)) ≡ true → front f l ≡ run l
  front-all l o = front-run l ∙ ap (λ (r : List ℕ). run l ++ r) (nothing_left (front f (past l)) o) ∙ append-nil (run l)

  pub front-not : (l : List ℕ) → is_empty (front f (past l)) ≡ false → digits (front f l) ≡ false
  front-not [] o = o
  front-not (b ∷ bs) o =
      ⊎_elim
      (λ (t : is_digit b ≡ true). let p = rw t at o in rw (fd b t, t) (front-not bs p))
      (λ (t : is_digit b ≡ false).
      let p = rw t at o in
      ⊎_elim (λ (u : f b ≡ true). rw (u, t) refl) (λ (u : f b ≡ false). let q = rw u at p in never (sym q)) (test (f b)))
      (test (is_digit b))

-- the word is what passes `is_word`
pub word-front : (l : List ℕ) → word_of l ≡ front is_word l
word-front [] = refl
word-front (b ∷ bs) = ap (λ (r : List ℕ). cond (is_word b) (b ∷ r) []) (word-front bs)

pub word-run : (l : List ℕ) → word_of l ≡ run l ++ word_of (past l)
word-run l = word-front l ∙ front-run is_word digit-word l ∙ ap (λ (r : List ℕ). run l ++ r) (sym (word-front (past l)))

pub word-all : (l : List ℕ) → is_empty (word_of (past l)) ≡ true → word_of l ≡ run l
word-all l o = word-front l ∙ front-all is_word digit-word l (ap is_empty (sym (word-front (past l))) ∙ o)

pub word-not : (l : List ℕ) → is_empty (word_of (past l)) ≡ false → digits (word_of l) ≡ false
word-not l o = ap digits (word-front l) ∙ front-not is_word digit-word l (ap is_empty (sym (word-front (past l))) ∙ o)

-- a word byte at the front starts the word
pub on_word : (l : List ℕ) → is_empty (word_of l) ≡ false → word_of l ≡ first l ∷ word_of (drop 1 l)
on_word [] o = never (sym o)
on_word (b ∷ bs) o =
    ⊎_elim
    (λ (u : is_word b ≡ true). rw u refl)
    (λ (u : is_word b ≡ false). let q = rw u at o in never (sym q))
    (test (is_word b))

pub byte_word : (l : List ℕ) (b : ℕ) → first l ≡ b → is_word b ≡ true → eqb b 10 ≡ false → word_of l ≡ b ∷ word_of (drop 1 l)
byte_word [] b e h n = never (sym n ∙ eq-eqb b 10 (sym e))
byte_word (c ∷ cs) b e h n = rw (e, h) refl

pub past_word : (l : List ℕ) (b : ℕ) → first (past l) ≡ b → is_word b ≡ true → eqb b 10 ≡ false → word_of (past l) ≡ b ∷ word_of (drop 1 (past l))
past_word l b = byte_word (past l) b

-- ---- at a place
pub past-at : (s : List ℕ) (at e : ℕ) → e ≡ at + length (run (drop at s)) → drop e s ≡ past (drop at s)
past-at s at e h = ap (λ (n : ℕ). drop n s) h ∙ sym (drop-drop (length (run (drop at s))) at s)

pub next-at : (s : List ℕ) (e : ℕ) → drop (e + 1) s ≡ drop 1 (drop e s)
next-at s e = sym (drop-drop 1 e s)

-- a byte other than LF is one of the text's
pub byte-in : (s : List ℕ) (e : ℕ) → eqb (first (drop e s)) 10 ≡ false → e < length s
byte-in s e h =
    ⊎_elim
    (λ (t : leb (length s) e ≡ true).
    never (sym h ∙ eq-eqb (first (drop e s)) 10 (ap first (drop_of_length-le s (leb-true (length s) e t)))))
    (λ (t : leb (length s) e ≡ false). leb-false (length s) e t)
    (test (leb (length s) e))
