-- Must be believed: a promise reaches every definition of this file.
-- A line as it is written: "One space between words, LF after each line" (01, "The tidy text"). No words make an empty line.
use Rattle.std.specs.Prelude.{ℕ, List, [], ◌∷◌, ◌++◌, map}
use Rattle.lists.specs.Lists.{flat}
use Rattle.text.specs.Words.{Word}

-- the words after the first, each with a space before it, and LF
abbrev pub written_after : List (List ℕ) → List ℕ
written_after [] = 10 ∷ []
written_after (w ∷ ws) = 32 ∷ (w ++ written_after ws)

abbrev pub written_line : List (List ℕ) → List ℕ
written_line [] = 10 ∷ []
written_line (w ∷ ws) = w ++ written_after ws

abbrev pub written_lines : List (List (List ℕ)) → List ℕ
written_lines ls = flat written_line ls

abbrev pub bytes_of : List Word → List (List ℕ)
bytes_of ws = map (λ w. w.bytes) ws
