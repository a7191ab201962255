-- What the code finds in a line from a place between words on: the line's words from there, its first byte that is not allowed, where the next line starts.
use Rattle.std.specs.Prelude.{ℕ, ◌≤◌, ◌<◌, ◌+◌, ◌≡◌, cond, Result, Ok, Err, List, [], ◌∷◌, length, drop}
use Rattle.std.proofs.Math.Option.{Option, none, some}
use Rattle.text.specs.Bytes.{line_end}
use Rattle.text.specs.Lines.{gap, line_of, stride_of, ending, Line, lines_from}
use Rattle.text.specs.Words.{Word, word_of, words, refused_at}
use Rattle.text.specs.declared.Turn.{Turn}
use Rattle.text.specs.declared.Turn.TheVariants.{On, End as Over, Refused}
use Rattle.text.specs.declared.AfterBlanks.{AfterBlanks}
use Rattle.text.specs.declared.AfterBlanks.TheVariants.{Start, End, Bad}
use Rattle.text.specs.declared.Parsed.{Parsed}

pub record Rest : Type 0 where
  pub words : List Word
  pub bad : Option ℕ
  pub next : ℕ

unfoldable pub rest_at : List ℕ → ℕ → Rest
rest_at s p =
    record {
      words = words gap p (line_of (drop p s));
      bad = refused_at gap p (line_of (drop p s));
      next = p + stride_of (drop p s);
    }

-- the same line with one word more at the front
abbrev pub push : Word → Rest → Rest
push w r = record { words = w ∷ r.words; bad = r.bad; next = r.next }

-- the word that starts at p, and where it ends
abbrev pub word_at : List ℕ → ℕ → Word
word_at s p = record { place = p; bytes = word_of (drop p s) }

abbrev pub end_of : List ℕ → ℕ → ℕ
end_of s p = p + length (word_of (drop p s))

-- ---- what `skip_blanks` finds from the place `at` on, which is between words
-- a word, at p
pub record WordMet (s : List ℕ) (at p : ℕ) : Type 0 where
  pub from : at ≤ p
  pub more : p < end_of s p
  pub to : end_of s p ≤ length s
  pub rest : rest_at s at ≡ push (word_at s p) (rest_at s (end_of s p))

-- no word and no byte that is not allowed; the next line starts at q, which is further on unless the text ends here
pub record EndMet (s : List ℕ) (at q : ℕ) : Type 0 where
  pub from : at ≤ q
  pub ahead : at < length s → at < q
  pub to : q ≤ length s
  pub rest : rest_at s at ≡ record { words = []; bad = none; next = q }

-- no word, and a byte that is not allowed, at p
pub record BadMet (s : List ℕ) (at p : ℕ) : Type 0 where
  pub from : at ≤ p
  pub to : p < length s
  pub no_words : (rest_at s at).words ≡ []
  pub bad-at : (rest_at s at).bad ≡ some p

-- a join up to p
pub record JoinMet (s : List ℕ) (at p : ℕ) : Type 0 where
  pub ahead : at < p
  pub to : p ≤ length s
  pub rest : rest_at s at ≡ rest_at s p

abbrev pub TurnIs : List ℕ → ℕ → Turn → Type 0
TurnIs s at (On p) = JoinMet s at p
TurnIs s at (Over q) = EndMet s at q
TurnIs s at Refused = BadMet s at at

abbrev pub AfterBlanksIs : List ℕ → ℕ → AfterBlanks → Type 0
AfterBlanksIs s at (Start p) = WordMet s at p
AfterBlanksIs s at (End q) = EndMet s at q
AfterBlanksIs s at (Bad p) = BadMet s at p

-- what `scan_line` answers
abbrev pub scanned : Option ℕ → ℕ → ℕ → Result (Parsed ℕ) ℕ
scanned none n q = Ok (record { value = n; next = q })
scanned (some p) n q = Err p

abbrev pub scan_of : Rest → Result (Parsed ℕ) ℕ
scan_of r = scanned r.bad (length r.words) r.next

-- how many bytes the line ending has that l begins with, 0 where no line ends there
abbrev pub break_of : List ℕ → ℕ
break_of l = cond (line_end l) (ending l) 0

-- the lines from place p on, where a line starts
unfoldable pub lines_at : List ℕ → ℕ → List Line
lines_at t p = lines_from (length (drop p t)) p (drop p t)
