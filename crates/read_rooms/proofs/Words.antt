-- A word starts after a byte that is in no word, or at the text's start: of n bytes, at most (n + 1) / 2 are starts.
use Prim.Native.Nat.{ℕ, zero, suc, ◌+◌, ◌*◌, ◌≤◌, ◌<◌}
use mathlib.Core.Path.{◌≡◌, refl}
use mathlib.Core.List.{List, [], ◌∷◌}
use mathlib.Core.Bool.{Bool, true, false, cond}
use mathlib.Core.Logic.{◌⊎◌, inl, inr, ⊎_elim}
use native.Mathlib.Omega.{arith}
use lib.ListN.{length, take, drop, length-take, length-drop}
use lib.Dec.{eqb}
use Rattle.text.specs.Lines.{Mode, gap, word, comment, join, Look, goes, ends, refused, look, onward, extent, ending, line_of, stride_of, lines_from, lines_of}
use Rattle.text.specs.Words.{Word, word_of, opens_word, words, words_of}
use Rattle.text.specs.Rest.{rest_at}
use Rattle.model.specs.Room.{summed}
use Rattle.read_rooms.specs.Claims.{word_count, FewWords}

-- between words the next byte can start one
abbrev ready : Mode → ℕ
ready gap = 1
ready word = 0
ready comment = 0
ready join = 0

module _ (w : Word) (bs : List ℕ) (after : Mode → List Word) (few : (n : Mode) → 2 * length (after n) ≤ length bs + ready n) where
  step : (m : Mode) (k : Look) → 2 * length (onward k (λ n. cond (opens_word m n) (w ∷ after n) (after n)) [] []) ≤ suc (length bs) + ready m
  step m ends = omega arith
  step m refused = omega arith
  step gap (goes gap) = let i = few gap in omega arith
  step gap (goes word) = let i = few word in omega arith
  step gap (goes comment) = let i = few comment in omega arith
  step gap (goes join) = let i = few join in omega arith
  step word (goes gap) = let i = few gap in omega arith
  step word (goes word) = let i = few word in omega arith
  step word (goes comment) = let i = few comment in omega arith
  step word (goes join) = let i = few join in omega arith
  step comment (goes gap) = let i = few gap in omega arith
  step comment (goes word) = let i = few word in omega arith
  step comment (goes comment) = let i = few comment in omega arith
  step comment (goes join) = let i = few join in omega arith
  step join (goes gap) = let i = few gap in omega arith
  step join (goes word) = let i = few word in omega arith
  step join (goes comment) = let i = few comment in omega arith
  step join (goes join) = let i = few join in omega arith

words-few : (m : Mode) (p : ℕ) (l : List ℕ) → 2 * length (words m p l) ≤ length l + ready m
words-few m p [] = omega arith
words-few m p (b ∷ bs) =
    step (record { place = p; bytes = word_of (b ∷ bs) }) bs (λ n. words n (suc p) bs) (λ n. words-few n (suc p) bs) m (look m b bs)

-- no more words than bytes
pub rest-few : (s : List ℕ) (at : ℕ) → length (rest_at s at).words ≤ length s
unfolding rest_at
rest-few s at =
    let d : List ℕ = drop at s in
    let a = words-few gap at (line_of d) in
    let b = length-take (extent gap d) d in
    let c = length-drop at s in
    omega arith

-- ---- a line's ending stands between its last word and the next line's first
ending-or : (d : List ℕ) → (length d ≡ 0) ⊎ (0 < ending d)
ending-or [] = inl refl
ending-or (c ∷ cs) = inr (go (eqb c 10))
  where
    go : (t : Bool) → 0 < cond t 1 2
    go true = omega arith
    go false = omega arith

lines-few : (n p : ℕ) (l : List ℕ) → 2 * summed (λ l. length (words_of l)) (lines_from n p l) ≤ length l + 1
lines-few zero p l = omega arith
lines-few (suc n) p [] = omega arith
lines-few (suc n) p (b ∷ bs) =
    let l : List ℕ = b ∷ bs in
    let e : ℕ = extent gap l in
    let d : ℕ = ending (drop e l) in
    let here = words-few gap p (take e l) in
    let rest = lines-few n (p + stride_of l) (drop (stride_of l) l) in
    let cut = length-take e l in
    let left = length-drop (stride_of l) l in
    let last = length-drop e l in
    ⊎_elim (λ (z : length (drop e l) ≡ 0). omega arith) (λ (z : 0 < ending (drop e l)). omega arith) (ending-or (drop e l))

pub few_words : FewWords
unfolding word_count lines_of
few_words s = lines-few (length s) 0 s
