-- What the walk over a table of spellings answers, and the table's bytes.
use Rattle.std.specs.Prelude.{ℕ, zero, suc, ◌+◌, ◌-◌, List, [], ◌∷◌, ◌++◌, Bool, true, false, cond, ◌&&◌, length, drop, get_or, replicate, eqb, ltb}
use Rattle.lists.specs.Lists.{same}
use Rattle.text.specs.Bytes.{is_word}
use Rattle.text.specs.Words.{word_of}
use Rattle.spellings.specs.declared.Found.{Found}
use Rattle.spellings.specs.Rows.{bytes, Row}

-- the kind whose letter in the code's table is k
abbrev pub kind_by : {K : Type 0} → (K → ℕ) → K → List (Row K) → ℕ → K
kind_by letter other [] k = other
kind_by letter other (r ∷ rs) k = cond (eqb k (letter r.kind)) r.kind (kind_by letter other rs k)

-- a row in the code: its spelling, blanks up to eleven bytes, the letter of its kind
abbrev pub line : {K : Type 0} → (K → ℕ) → Row K → List ℕ
line letter r = bytes r.spelling ++ (replicate (11 - length (bytes r.spelling)) 32 ++ (letter r.kind ∷ []))

-- the number of the first of n rows of the bytes t that the word w is the spelling of; n where there is none
abbrev pub row_in : ℕ → List ℕ → List ℕ → ℕ
row_in zero t w = 0
row_in (suc n) t w = cond (same w (word_of t)) 0 (suc (row_in n (drop 12 t) w))

abbrev pub found_in : ℕ → List ℕ → List ℕ → ℕ → Found
found_in n t w at = record { row = row_in n t w; end = cond (ltb (row_in n t w) n) (at + length w) at }

-- the spelling of the first of n rows of the bytes t whose letter is k
abbrev pub lettered_in : ℕ → List ℕ → ℕ → List ℕ
lettered_in zero t k = []
lettered_in (suc n) t k = cond (eqb k (get_or t 11 0)) (word_of t) (lettered_in n (drop 12 t) k)

-- a word byte at the front
abbrev pub word_ahead : List ℕ → Bool
word_ahead [] = false
word_ahead (b ∷ bs) = is_word b

-- each of n rows of the bytes t begins with a word byte
abbrev pub ahead_in : ℕ → List ℕ → Bool
ahead_in zero t = true
ahead_in (suc n) t = word_ahead t && ahead_in n (drop 12 t)
