-- Must be believed: a promise reaches every definition of this file.
-- 01, "Bytes, lines, words": what the bytes of one joined line say. They end where the line ends, and nothing after them is looked at.
use Rattle.std.specs.Prelude.{ℕ, suc, List, [], ◌∷◌, Bool, true, false, cond, ◌&&◌}
use Rattle.std.proofs.Math.Option.{Option, none, some}
use Rattle.text.specs.Bytes.{is_word}
use Rattle.text.specs.Lines.{Mode, gap, word, comment, join, look, onward, Line}

-- a word, and the place of its first byte in the text
pub record Word : Type 0 where
  pub place : ℕ
  pub bytes : List ℕ

-- the word bytes at the front
abbrev pub word_of : List ℕ → List ℕ
word_of [] = []
word_of (b ∷ bs) = cond (is_word b) (b ∷ word_of bs) []

-- a word starts where a word byte follows a gap
abbrev pub is_gap : Mode → Bool
is_gap gap = true
is_gap word = false
is_gap comment = false
is_gap join = false

abbrev pub is_in_word : Mode → Bool
is_in_word gap = false
is_in_word word = true
is_in_word comment = false
is_in_word join = false

abbrev pub opens_word : Mode → Mode → Bool
opens_word m n = is_gap m && is_in_word n

-- the words of a line whose bytes are l, from place p on
abbrev pub words : Mode → ℕ → List ℕ → List Word
words m p [] = []
words m p (b ∷ bs) =
    onward (look m b bs) (λ n. cond (opens_word m n) (record { place = p; bytes = word_of (b ∷ bs) } ∷ words n (suc p) bs) (words n (suc p) bs)) [] []

-- the first byte that is not allowed
abbrev pub refused_at : Mode → ℕ → List ℕ → Option ℕ
refused_at m p [] = none
refused_at m p (b ∷ bs) = onward (look m b bs) (λ n. refused_at n (suc p) bs) none (some p)

-- a line says its words, or that a byte is not allowed
abbrev pub words_of : Line → List Word
words_of l = words gap l.place l.bytes

abbrev pub bad_of : Line → Option ℕ
bad_of l = refused_at gap l.place l.bytes
