-- A text is its first line, and then the lines from where the next one starts: each line takes a byte or more, so what is left never runs out of turns.
use Prim.Native.Nat.{ℕ, zero, suc, ◌+◌, ◌≤◌, ◌<◌}
use mathlib.Core.Path.{◌≡◌, refl, sym, ap, ◌∙◌}
use mathlib.Core.List.{List, [], ◌∷◌}
use mathlib.Core.Bool.{Bool, true, false, cond}
use mathlib.Core.Logic.{⊎_elim}
use lib.ListN.{length, take, drop, drop_of_length-le, length-take, length-drop}
use lib.Seq.{drop-drop}
use lib.Dec.{eqb}
use native.Mathlib.Omega.{arith}
use Rattle.lists.proofs.Tests.{test}
use Rattle.text.specs.Bytes.{is_word, is_blank, line_end}
use Rattle.text.specs.Lines.{Mode, gap, word, comment, join, Look, goes, ends, refused, plain_byte, look, extent, ending, stride_of, Line, line_of, lines_from, lines_of}
use Rattle.text.specs.Words.{words_of, bad_of}
use Rattle.text.specs.Rest.{rest_at, lines_at}
use Rattle.text.proofs.Cut.{goes-ends, ends-refused}
use Rattle.text.proofs.Walk.{stride_in}
use Rattle.text.proofs.Places.{ending-some}
use Rattle.text.proofs.Tokens.{few}

-- ---- a line's ending stands where a byte ends it
ends-tested : (w k e f g : Bool) → cond w (goes word) (cond k (goes gap) (cond e ends (cond f (cond g (goes join) refused) refused))) ≡ ends → e ≡ true
ends-tested true k e f g h = goes-ends (sym h)
ends-tested false true e f g h = goes-ends (sym h)
ends-tested false false true f g h = refl
ends-tested false false false true true h = goes-ends (sym h)
ends-tested false false false true false h = ends-refused (sym h)
ends-tested false false false false g h = ends-refused (sym h)

ends-plain : (b : ℕ) (bs : List ℕ) → plain_byte b bs ≡ ends → line_end (b ∷ bs) ≡ true
ends-plain b bs h = ends-tested (is_word b) (is_blank b) (line_end (b ∷ bs)) (eqb b 92) (line_end bs) h

ends-line : (m : Mode) (b : ℕ) (bs : List ℕ) → look m b bs ≡ ends → line_end (b ∷ bs) ≡ true
ends-line gap b bs h =
    ⊎_elim (λ (t : eqb b 35 ≡ true). goes-ends (sym (rw t at h))) (λ (t : eqb b 35 ≡ false). ends-plain b bs (rw t at h)) (test (eqb b 35))
ends-line word b bs h = ends-plain b bs h
ends-line comment b bs h =
    ⊎_elim (λ t. t) (λ (t : line_end (b ∷ bs) ≡ false). goes-ends (sym (rw t at h))) (test (line_end (b ∷ bs)))
ends-line join b bs h =
    ⊎_elim (λ (t : eqb b 10 ≡ true). goes-ends (sym (rw t at h))) (λ (t : eqb b 10 ≡ false). goes-ends (sym (rw t at h))) (test (eqb b 10))

-- ---- how far it is to the next line
stride-step : (m : Mode) (b : ℕ) (bs : List ℕ) → ((n : Mode) → stride_in n bs ≤ length bs) → (k : Look) → look m b bs ≡ k
    → (0 < stride_in m (b ∷ bs)) × (stride_in m (b ∷ bs) ≤ suc (length bs))
stride-step m b bs ih (goes n) e = let z : extent n bs + ending (drop (extent n bs) bs) ≤ length bs = ih n in rw e (omega arith, omega arith)
stride-step m b bs ih ends e =
    let z = ending-some (b ∷ bs) (ends-line m b bs e) in
    let x : 0 < ending (b ∷ bs) = z.0 in
    let y : ending (b ∷ bs) ≤ suc (length bs) = z.1 in
    rw e (omega arith, omega arith)
stride-step m b bs ih refused e = let z : extent word bs + ending (drop (extent word bs) bs) ≤ length bs = ih word in rw e (omega arith, omega arith)

stride-within : (m : Mode) (l : List ℕ) → stride_in m l ≤ length l
stride-within m [] = omega arith
stride-within m (b ∷ bs) = (stride-step m b bs (λ n. stride-within n bs) (look m b bs) refl).1

stride-some : (m : Mode) (l : List ℕ) → 0 < length l → 0 < stride_in m l
stride-some m [] h = absurd (omega arith)
stride-some m (b ∷ bs) h = (stride-step m b bs (λ n. stride-within n bs) (look m b bs) refl).0

-- the next line starts further on, and within the text
pub next-to : (s : List ℕ) (at : ℕ) → at ≤ length s → (at ≤ (rest_at s at).next) × ((rest_at s at).next ≤ length s)
unfolding rest_at
next-to s at h = let x = stride-within gap (drop at s) in let y = length-drop at s in (omega arith, omega arith)

-- a line has no more words than bytes
pub words-within : (s : List ℕ) (at : ℕ) → at + length (rest_at s at).words ≤ (rest_at s at).next
unfolding rest_at
words-within s at =
    let e : ℕ = extent gap (drop at s) in
    let a = few gap at (take e (drop at s)) in
    let b : length (take e (drop at s)) ≡ Prim.Native.Nat.min e (length (drop at s)) = length-take e (drop at s) in
    let c : ℕ = ending (drop e (drop at s)) in
    omega arith

pub next-ahead : (s : List ℕ) (at : ℕ) → at < length s → at < (rest_at s at).next
unfolding rest_at
next-ahead s at h = let y = length-drop at s in let x = stride-some gap (drop at s) (omega arith) in omega arith

-- ---- lines
turns : (n k p : ℕ) (l : List ℕ) → length l ≤ n → length l ≤ k → lines_from n p l ≡ lines_from k p l
turns zero zero p l a b = refl
turns zero (suc k) p [] a b = refl
turns zero (suc k) p (c ∷ cs) a b = absurd (omega arith)
turns (suc n) zero p [] a b = refl
turns (suc n) zero p (c ∷ cs) a b = absurd (omega arith)
turns (suc n) (suc k) p [] a b = refl
turns (suc n) (suc k) p (c ∷ cs) a b =
    let l : List ℕ = c ∷ cs in
    let x = stride-some gap (c ∷ cs) (omega arith) in
    let y = length-drop (stride_of (c ∷ cs)) (c ∷ cs) in
    ap (λ (r : List Line). record { place = p; bytes = line_of (c ∷ cs) } ∷ r)
    (turns n k (p + stride_of (c ∷ cs)) (drop (stride_of (c ∷ cs)) (c ∷ cs)) (omega arith) (omega arith))

-- the lines of bytes that stand at place p
abbrev pub lines_in : ℕ → List ℕ → List Line
lines_in p l = lines_from (length l) p l

pub lines_cons : (p : ℕ) (l : List ℕ) → 0 < length l → lines_in p l ≡ record { place = p; bytes = line_of l } ∷ lines_in (p + stride_of l) (drop (stride_of l) l)
lines_cons p [] h = absurd (omega arith)
lines_cons p (b ∷ bs) h =
    let x = stride-some gap (b ∷ bs) h in
    let y = length-drop (stride_of (b ∷ bs)) (b ∷ bs) in
    ap (λ (r : List Line). record { place = p; bytes = line_of (b ∷ bs) } ∷ r)
    (turns (length bs) (length (drop (stride_of (b ∷ bs)) (b ∷ bs))) (p + stride_of (b ∷ bs)) (drop (stride_of (b ∷ bs)) (b ∷ bs)) (omega arith) (omega arith))

-- at places: what a loop over lines walks
module _ (s : List ℕ) where
  pub lines_start : lines_of s ≡ lines_at s 0
  unfolding lines_of lines_at
  lines_start = refl

  module _ (p : ℕ) where
    -- any number of turns that is enough
    pub lines-turns : (n : ℕ) → length (drop p s) ≤ n → lines_from n p (drop p s) ≡ lines_at s p
    unfolding lines_at
    lines-turns n h = turns n (length (drop p s)) p (drop p s) h (omega arith)

    pub lines_end : length s ≤ p → lines_at s p ≡ []
    unfolding lines_at
    lines_end h = rw (drop_of_length-le s h) refl

    pub lines-on : p < length s → lines_at s p ≡ record { place = p; bytes = line_of (drop p s) } ∷ lines_at s (rest_at s p).next
    unfolding lines_at rest_at
    lines-on h =
        let y = length-drop p s in
        let d : drop (stride_of (drop p s)) (drop p s) ≡ drop (p + stride_of (drop p s)) s = drop-drop (stride_of (drop p s)) p s in
        lines_cons p (drop p s) (omega arith)
        ∙ ap (λ (l : List ℕ). record { place = p; bytes = line_of (drop p s) } ∷ lines_in (p + stride_of (drop p s)) l) d

    -- what that line says
    pub line-words : words_of (record { place = p; bytes = line_of (drop p s) }) ≡ (rest_at s p).words
    unfolding rest_at
    line-words = refl

    pub line-bad : bad_of (record { place = p; bytes = line_of (drop p s) }) ≡ (rest_at s p).bad
    unfolding rest_at
    line-bad = refl
