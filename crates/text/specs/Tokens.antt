-- Bytes that are one word, lines of such words, and what a line says wherever it stands: what is shown of a written line that is read.
use Rattle.std.specs.Prelude.{ℕ, List, [], ◌∷◌, Bool, false, ◌&&◌, not, eqb}
use Rattle.std.proofs.Math.Option.{Option, none}
use Rattle.lists.specs.Lists.{all}
use Rattle.text.specs.Bytes.{is_word}
use Rattle.text.specs.Lines.{Line}
use Rattle.text.specs.Words.{words_of, bad_of}
use Rattle.text.specs.Written.{bytes_of}

-- "A # at the start of a word opens a comment": a word starts with any other word byte
abbrev pub starts_word : ℕ → Bool
starts_word b = is_word b && not (eqb b 35)

-- bytes that are one word: word bytes alone, at least one, and # not the first
abbrev pub is_token : List ℕ → Bool
is_token [] = false
is_token (b ∷ bs) = starts_word b && all is_word bs

-- lines whose words are tokens
abbrev pub are_lines : List (List (List ℕ)) → Bool
are_lines ls = all (all is_token) ls

-- what a line says, wherever it stands
pub record WrittenStatement : Type 0 where
  pub texts : List (List ℕ)
  pub bad : Option ℕ

abbrev pub said_by : Line → WrittenStatement
said_by l = record { texts = bytes_of (words_of l); bad = bad_of l }

-- these words, and no byte that is not allowed
abbrev pub saying_of : List (List ℕ) → WrittenStatement
saying_of ws = record { texts = ws; bad = none }
