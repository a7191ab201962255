-- The words of a line: what they are made of and where they stand, by the bytes; and the word at a place as a part of the text.
use Prim.Native.Nat.{ℕ, zero, suc, ◌+◌, ◌-◌, ◌≤◌, ◌<◌}
use mathlib.Core.Path.{◌≡◌, refl, sym, ap, ◌∙◌, subst}
use mathlib.Core.List.{List, [], ◌∷◌}
use mathlib.Core.Bool.{Bool, true, false, cond, ◌&&◌}
use mathlib.Core.Logic.{⊎_elim}
use lib.ListN.{length, take, drop, get_or, drop_of_length-le, length-drop}
use lib.Seq.{slice, slice_empty, slice-cons, take-add, drop_at, length-take-le, drop-cons, drop-drop}
use lib.Dec.{eqb, leb}
use native.Mathlib.Omega.{arith}
use native.Mathlib.Nat.{add-zero}
use native.Mathlib.Numerals.{add-one}
use borrow.Author.Tests.{le-leb, leb-true, leb-false}
use Rattle.lists.specs.Lists.{all, same}
use Rattle.lists.proofs.Tests.{test, never, and_left, and_right, and_both}
use Rattle.lists.proofs.Laws.{same_refl, same-eq}
use Rattle.text.specs.Bytes.{is_word, is_blank, line_end}
use Rattle.text.specs.Lines.{Mode, gap, word, comment, join, Look, goes, ends, refused, plain_byte, look, onward}
use Rattle.text.specs.Words.{Word, word_of, is_in_word, opens_word, words}
use Rattle.text.specs.Rest.{rest_at, end_of}
use Rattle.text.specs.Tokens.{is_token, starts_word}
use Rattle.text.proofs.Cut.{goes-ends, goes-refused, words-cut, in-word}
use Rattle.text.proofs.Places.{here}
use Rattle.text.proofs.Walk.{word-short, starts-word}

-- ---- the word at a place, as a part of the text
pub word-all : (l : List ℕ) → all is_word (word_of l) ≡ true
word-all [] = refl
word-all (b ∷ bs) =
    ⊎_elim (λ (t : is_word b ≡ true). rw t (rw t (word-all bs))) (λ (t : is_word b ≡ false). rw t refl) (test (is_word b))

word-take : (l : List ℕ) → take (length (word_of l)) l ≡ word_of l
word-take [] = refl
word-take (b ∷ bs) =
    ⊎_elim (λ (t : is_word b ≡ true). rw t (ap (λ (r : List ℕ). b ∷ r) (word-take bs))) (λ (t : is_word b ≡ false). rw t refl) (test (is_word b))

slice-take : (s : List ℕ) (i k : ℕ) → i ≤ length s → slice i (i + k) s ≡ take k (drop i s)
slice-take s i k h = ap (drop i) (take-add i k s) ∙ drop_at (take i s) (take k (drop i s)) i (length-take-le i s h)

pub word_slice : (s : List ℕ) (i e : ℕ) → i ≤ length s → e ≡ end_of s i → word_of (drop i s) ≡ slice i e s
word_slice s i e h d = sym (ap (λ (j : ℕ). slice i j s) d ∙ slice-take s i (length (word_of (drop i s))) h ∙ word-take (drop i s))

pub word_none : (s : List ℕ) (p : ℕ) → (p < length s → is_word (get_or s p 0) ≡ false) → word_of (drop p s) ≡ []
word_none s p n =
    ⊎_elim
    (λ (t : leb (suc p) (length s) ≡ true).
    let h : p < length s = leb-true (suc p) (length s) t in
    let u : is_word (get_or s p 0) ≡ false = n h in
    rw (here s p h, u) refl)
    (λ (t : leb (suc p) (length s) ≡ false).
    let h : length s ≤ p = (let z = leb-false (suc p) (length s) t in omega arith) in
    rw (drop_of_length-le s h) refl)
    (test (leb (suc p) (length s)))

-- word bytes from p to e and none at e
run : (s : List ℕ) (d p : ℕ) → p + d ≤ length s → ((k : ℕ) → p ≤ k → k < p + d → is_word (get_or s k 0) ≡ true)
    → (p + d < length s → is_word (get_or s (p + d) 0) ≡ false) → word_of (drop p s) ≡ slice p (p + d) s
run s zero p h a n =
    word_none s p (λ (l : p < length s). rw add-zero at (n (omega arith)))
    ∙ sym (slice_empty p s) ∙ ap (λ (j : ℕ). slice p j s) (sym (add-zero p))
run s (suc d) p h a n =
    let e : suc p + d ≡ p + suc d = omega arith in
    let u : is_word (get_or s p 0) ≡ true = a p (omega arith) (omega arith) in
    let l : p < length s = omega arith in
    let ih : word_of (drop (suc p) s) ≡ slice (suc p) (suc p + d) s =
    run s d (suc p) (omega arith) (λ k x y. a k (omega arith) (omega arith)) (λ q. subst (λ (j : ℕ). is_word (get_or s j 0) ≡ false) (sym e) (n (omega arith))) in
    rw (drop-cons s p 0 l, u)
    (ap (λ (r : List ℕ). get_or s p 0 ∷ r) (ih ∙ ap (λ (j : ℕ). slice (suc p) j s) e) ∙ sym (slice-cons p (p + suc d) s 0 (omega arith) h))

pub word-run : (s : List ℕ) (p e : ℕ) → p ≤ e → e ≤ length s → ((k : ℕ) → p ≤ k → k < e → is_word (get_or s k 0) ≡ true)
    → (e < length s → is_word (get_or s e 0) ≡ false) → word_of (drop p s) ≡ slice p e s
word-run s p e h l a n =
    let d : p + (e - p) ≡ e = omega arith in
    run s (e - p) p (omega arith) (λ k x y. a k x (omega arith)) (λ q. subst (λ (j : ℕ). is_word (get_or s j 0) ≡ false) (sym d) (n (omega arith)))
    ∙ ap (λ (j : ℕ). slice p j s) d

-- ---- each word of a line
-- what is known of a word w of the text s: a token; it ends within the text; its bytes are those at its place
abbrev pub stands : List ℕ → Word → Bool
stands s w = is_token w.bytes && leb (w.place + length w.bytes) (length s) && same (word_of (drop w.place s)) w.bytes

other : {A : Type 0} {m n : Mode} → goes m ≡ goes n → is_in_word m ≡ false → is_in_word n ≡ true → A
other h a b = let z : false ≡ true = cc in never z

word-tested : (w k e f g : Bool) → cond w (goes word) (cond k (goes gap) (cond e ends (cond f (cond g (goes join) refused) refused))) ≡ goes word → w ≡ true
word-tested true k e f g h = refl
word-tested false true e f g h = other h refl refl
word-tested false false true f g h = goes-ends h
word-tested false false false true true h = other h refl refl
word-tested false false false true false h = goes-refused h
word-tested false false false false g h = goes-refused h

starts : (m n : Mode) (b : ℕ) (bs : List ℕ) → look m b bs ≡ goes n → opens_word m n ≡ true → starts_word b ≡ true
starts gap n b bs e o =
    let w : n ≡ word = in-word gap n o in
    ⊎_elim
    (λ (t : eqb b 35 ≡ true). other {m = comment} {n = n} (rw t at e) refl (rw w refl))
    (λ (t : eqb b 35 ≡ false).
    let z : plain_byte b bs ≡ goes word = (rw t at e) ∙ ap goes w in
    let y : is_word b ≡ true = word-tested (is_word b) (is_blank b) (line_end (b ∷ bs)) (eqb b 92) (line_end bs) z in
    and_both y (rw t refl))
    (test (eqb b 35))
starts word n b bs e o = never o
starts comment n b bs e o = never o
starts join n b bs e o = never o

module _ (s : List ℕ) where
  token-here : (p b : ℕ) (bs : List ℕ) → drop p s ≡ b ∷ bs → starts_word b ≡ true → stands s (record { place = p; bytes = word_of (b ∷ bs) }) ≡ true
  token-here p b bs d t =
      let u : is_word b ≡ true = starts-word b t in
      let x : is_token (word_of (b ∷ bs)) ≡ true = rw u (and_both t (word-all bs)) in
      let y = word-short (b ∷ bs) in
      let z = length-drop p s in
      let v = ap length d in
      let l : p + length (word_of (b ∷ bs)) ≤ length s = omega arith in
      and_both (and_both x (le-leb (p + length (word_of (b ∷ bs))) (length s) l)) (rw d (same_refl (word_of (b ∷ bs))))

  step : (m : Mode) (p b : ℕ) (bs : List ℕ) → drop p s ≡ b ∷ bs → ((n : Mode) → all (stands s) (words n (suc p) bs) ≡ true)
      → (k : Look) → look m b bs ≡ k → (t : Bool) → opens_word m (onward k (λ n. n) gap gap) ≡ t → all (stands s) (words m p (b ∷ bs)) ≡ true
  step m p b bs d ih (goes n) e true o = rw e (rw o (and_both (token-here p b bs d (starts m n b bs e o)) (ih n)))
  step m p b bs d ih (goes n) e false o = rw e (rw o (ih n))
  step m p b bs d ih ends e t o = rw e refl
  step m p b bs d ih refused e t o = rw e refl

  next-drop : (p b : ℕ) (bs : List ℕ) → drop p s ≡ b ∷ bs → drop (suc p) s ≡ bs
  next-drop p b bs d = rw (sym (add-one p)) (sym (drop-drop 1 p s) ∙ ap (drop 1) d)

  stand : (m : Mode) (p : ℕ) (l : List ℕ) → drop p s ≡ l → all (stands s) (words m p l) ≡ true
  stand m p [] d = refl
  stand m p (b ∷ bs) d =
      step m p b bs d (λ n. stand n (suc p) bs (next-drop p b bs d)) (look m b bs) refl (opens_word m (onward (look m b bs) (λ n. n) gap gap)) refl

  pub words-stand : (at : ℕ) → all (stands s) (rest_at s at).words ≡ true
  unfolding rest_at
  words-stand at = rw (words-cut gap at (drop at s)) (stand gap at (drop at s) refl)

  -- the test, taken apart
  module _ (w : Word) (h : stands s w ≡ true) where
    abbrev front : (is_token w.bytes && leb (w.place + length w.bytes) (length s)) ≡ true
    front = and_left (is_token w.bytes && leb (w.place + length w.bytes) (length s)) (same (word_of (drop w.place s)) w.bytes) h

    pub word-token : is_token w.bytes ≡ true
    word-token = and_left (is_token w.bytes) (leb (w.place + length w.bytes) (length s)) front

    pub word-within : w.place + length w.bytes ≤ length s
    word-within = leb-true (w.place + length w.bytes) (length s) (and_right (is_token w.bytes) (leb (w.place + length w.bytes) (length s)) front)

    pub word_bytes : word_of (drop w.place s) ≡ w.bytes
    word_bytes =
        same-eq (word_of (drop w.place s)) w.bytes
        (and_right (is_token w.bytes && leb (w.place + length w.bytes) (length s)) (same (word_of (drop w.place s)) w.bytes) h)

    pub word-part : w.bytes ≡ slice w.place (w.place + length w.bytes) s
    word-part =
        let x = word-within in
        let e : w.place + length w.bytes ≡ end_of s w.place = ap (λ (l : List ℕ). w.place + length l) (sym word_bytes) in
        sym word_bytes ∙ word_slice s w.place (w.place + length w.bytes) (omega arith) e

-- ---- no more words than bytes
few-step : (m : Mode) (p b : ℕ) (bs : List ℕ) → ((n : Mode) → length (words n (suc p) bs) ≤ length bs)
    → (k : Look) → look m b bs ≡ k → (t : Bool) → opens_word m (onward k (λ n. n) gap gap) ≡ t → length (words m p (b ∷ bs)) ≤ suc (length bs)
few-step m p b bs ih (goes n) e true o = let z : length (words n (suc p) bs) ≤ length bs = ih n in rw e (rw o (omega arith))
few-step m p b bs ih (goes n) e false o = let z : length (words n (suc p) bs) ≤ length bs = ih n in rw e (rw o (omega arith))
few-step m p b bs ih ends e t o = rw e (omega arith)
few-step m p b bs ih refused e t o = rw e (omega arith)

pub few : (m : Mode) (p : ℕ) (l : List ℕ) → length (words m p l) ≤ length l
few m p [] = omega arith
few m p (b ∷ bs) = few-step m p b bs (λ n. few n (suc p) bs) (look m b bs) refl (opens_word m (onward (look m b bs) (λ n. n) gap gap)) refl
