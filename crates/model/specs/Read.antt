-- Must be believed: a promise reaches every definition of this file.
-- Reading a text: 01, "Numbers of refusal". A fold over its joined lines; room is asked between parsing and applying.
use Rattle.std.specs.Prelude.{ℕ, List, [], ◌∷◌, cond, length, leb}
use Rattle.std.proofs.Math.Option.{Option, none, some}
use Rattle.text.specs.Lines.{Line as JoinedLine, lines_of}
use Rattle.text.specs.Words.{Word, words_of, bad_of}
use Rattle.keywords.specs.Keywords.{statement_of}
use Rattle.statements.specs.declared.Statement.{Statement}
use Rattle.statements.specs.declared.Statement.TheVariants.{Carried, Refused, Unknown}
use Rattle.model.specs.Model.{Model, Open, State, start}
use Rattle.model.specs.Statements.{apply}
use Rattle.model.specs.Parse.{Parsed, fine, fault, then, must, unless, Keyword, parse}
use Rattle.model.specs.Room.{Rooms, fits}

-- 3 and 4, then what a keyword opens
abbrev pub carried_in : Statement → ℕ → Parsed Keyword
carried_in (Carried k) key = fine k
carried_in Refused key = fault 4 key
carried_in Unknown key = fault 3 key

-- a line of words, by the state before it: the state after it
unfoldable pub statement : Rooms → State → Word → List Word → Parsed State
statement R x w ws =
    then (carried_in (statement_of w.bytes) w.place) (λ k.
    then (parse k x w.place ws) (λ t.
    must (fits R (apply t x)) 14 w.place (fine (apply t x))))

abbrev pub step : Rooms → State → List Word → Parsed State
step R x [] = fine x
step R x (w ∷ ws) = statement R x w ws

-- "The first line at fault is reported"; 2 comes before all else of its line; "text ends in a body" is 10 at its length
pub data Answer : Type 0 where
  read : Model → Answer
  refused : ℕ → ℕ → Answer

abbrev pub finish : ℕ → Option Open → Model → Answer
finish n none m = read m
finish n (some o) m = refused 10 n

abbrev pub on_parsed : Parsed State → (State → Answer) → Answer
on_parsed (fine x) f = f x
on_parsed (fault n p) f = refused n p

abbrev pub read_lines : Rooms → ℕ → List JoinedLine → State → Answer
read_lines R n [] x = finish n x.open-body x.model
read_lines R n (l ∷ ls) x = on_parsed (unless (bad_of l) 2 (step R x (words_of l))) (read_lines R n ls)

-- "text over 16,777,216 bytes" is 1 at 0
unfoldable pub read_of : Rooms → List ℕ → Answer
read_of R t = cond (leb (length t) 16777216) (read_lines R (length t) (lines_of t) start) (refused 1 0)
