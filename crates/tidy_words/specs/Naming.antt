-- 01, "The tidy text": "the names (as words)", as they stand in a part of the text.
use Rattle.std.specs.Prelude.{ℕ, ◌≡◌, List, [], ◌∷◌, Bool, true, false, ◌&&◌, Option, Some, None}
use Rattle.lists.specs.Lists.{same}
use Rattle.text.specs.Words.{words_of}
use Rattle.text.specs.Rest.{rest_at, WordMet}
use Rattle.text.specs.Written.{bytes_of}

-- the same bytes, word by word
abbrev pub same_bytes : List (List ℕ) → List (List ℕ) → Bool
same_bytes [] [] = true
same_bytes [] (c ∷ cs) = false
same_bytes (b ∷ bs) [] = false
same_bytes (b ∷ bs) (c ∷ cs) = same b c && same_bytes bs cs

-- the words that the bytes of a part hold, up to a line's end or a byte that is not allowed
abbrev pub part_names : List ℕ → List (List ℕ)
part_names l = bytes_of (words_of (record { place = 0; bytes = l }))

-- ---- what `next_word` finds from the place `at` on, which is between words: a word, at p, or none
abbrev pub NextIs : List ℕ → ℕ → Option ℕ → Type 0
NextIs s at (Some p) = WordMet s at p
NextIs s at None = (rest_at s at).words ≡ []
