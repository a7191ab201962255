-- The lines of tiny texts, computed from the definitions: one text for each rule. The program text_cases runs these and more.
use Prim.Native.Nat.{ℕ}
use mathlib.Core.Path.{◌≡◌, refl}
use mathlib.Core.List.{List, [], ◌∷◌, map}
use mathlib.Core.Option.{Option, none, some}
use lib.ListN.{length}
use Rattle.text.specs.Lines.{Line, lines_of}
use Rattle.text.specs.Words.{Word, words_of, bad_of}

-- a line: its place, how many bytes it has without its ending, its words up to its first byte that is not allowed, and the place of that byte
record SeenLine : Type 0 where
  place : ℕ
  size : ℕ
  words : List Word
  bad : Option ℕ

abbrev seen : Line → SeenLine
seen l = record { place = l.place; size = length l.bytes; words = words_of l; bad = bad_of l }

abbrev at : ℕ → List ℕ → Word
at p l = record { place = p; bytes = l }

abbrev line : ℕ → ℕ → List Word → Option ℕ → SeenLine
line p n ws b = record { place = p; size = n; words = ws; bad = b }

abbrev Lines : List ℕ → List SeenLine → Type 0
Lines text ls = map seen (lines_of text) ≡ ls

examples :
    -- v, a join, 1, and a comment, in which a backslash joins nothing; x is the next line
    Lines (118 ∷ 32 ∷ 92 ∷ 10 ∷ 49 ∷ 32 ∷ 35 ∷ 92 ∷ 13 ∷ 10 ∷ 120 ∷ []) (line 0 8 (at 0 (118 ∷ []) ∷ at 4 (49 ∷ []) ∷ []) none ∷ line 10 1 (at 10 (120 ∷ []) ∷ []) none ∷ [])
    -- a join parts two words, and may end with CR LF; a # within a word is a byte of it
    × Lines (97 ∷ 92 ∷ 13 ∷ 10 ∷ 98 ∷ 35 ∷ 99 ∷ 13 ∷ 10 ∷ []) (line 0 7 (at 0 (97 ∷ []) ∷ at 4 (98 ∷ 35 ∷ 99 ∷ []) ∷ []) none ∷ [])
    -- a join that leads to an empty line
    × Lines (97 ∷ 92 ∷ 10 ∷ 10 ∷ 98 ∷ []) (line 0 3 (at 0 (97 ∷ []) ∷ []) none ∷ line 4 1 (at 4 (98 ∷ []) ∷ []) none ∷ [])
    -- a # right after a join opens a comment, and its LF ends the line
    × Lines (97 ∷ 32 ∷ 92 ∷ 10 ∷ 35 ∷ 99 ∷ 92 ∷ 10 ∷ 98 ∷ []) (line 0 7 (at 0 (97 ∷ []) ∷ []) none ∷ line 8 1 (at 8 (98 ∷ []) ∷ []) none ∷ [])
    -- CR LF is the ending also after a comment; a comment may hold CR, NUL, 127 and 200
    × Lines (35 ∷ 99 ∷ 13 ∷ 10 ∷ 35 ∷ 13 ∷ 13 ∷ 0 ∷ 127 ∷ 200 ∷ 13 ∷ 10 ∷ []) (line 0 2 [] none ∷ line 4 6 [] none ∷ [])
    -- a CR before CR LF; a backslash before a blank and LF
    × Lines (13 ∷ 13 ∷ 10 ∷ 98 ∷ []) (line 0 1 [] (some 0) ∷ line 3 1 (at 3 (98 ∷ []) ∷ []) none ∷ [])
    × Lines (92 ∷ 32 ∷ 10 ∷ 98 ∷ []) (line 0 2 [] (some 0) ∷ line 3 1 (at 3 (98 ∷ []) ∷ []) none ∷ [])
    -- 11, 12, 127, 128 and 255 outside comments
    × Lines (97 ∷ 11 ∷ 10 ∷ 98 ∷ 32 ∷ 12 ∷ 10 ∷ 127 ∷ 10 ∷ 99 ∷ 128 ∷ 10 ∷ 255 ∷ []) (line 0 2 (at 0 (97 ∷ []) ∷ []) (some 1) ∷ line 3 3 (at 3 (98 ∷ []) ∷ []) (some 5) ∷ line 7 1 [] (some 7) ∷ line 9 2 (at 9 (99 ∷ []) ∷ []) (some 10) ∷ line 12 1 [] (some 12) ∷ [])
    -- a byte that is not allowed in a later physical line of the same joined line; only the first counts
    × Lines (120 ∷ 32 ∷ 92 ∷ 10 ∷ 127 ∷ 127 ∷ 32 ∷ 92 ∷ 10 ∷ 121 ∷ []) (line 0 10 (at 0 (120 ∷ []) ∷ []) (some 4) ∷ [])
    -- such a byte continues its word: a # right after it opens no comment, so the join holds; after a blank it does open one
    × Lines (97 ∷ 127 ∷ 35 ∷ 92 ∷ 10 ∷ 98 ∷ []) (line 0 6 (at 0 (97 ∷ []) ∷ []) (some 1) ∷ [])
    × Lines (97 ∷ 127 ∷ 32 ∷ 35 ∷ 92 ∷ 10 ∷ 98 ∷ []) (line 0 5 (at 0 (97 ∷ []) ∷ []) (some 1) ∷ line 6 1 (at 6 (98 ∷ []) ∷ []) none ∷ [])
    -- blanks and a comment alone
    × Lines (32 ∷ 10 ∷ 9 ∷ 35 ∷ 120 ∷ []) (line 0 1 [] none ∷ line 2 3 [] none ∷ [])
unfolding lines_of
examples = (refl, refl, refl, refl, refl, refl, refl, refl, refl, refl, refl, refl)
