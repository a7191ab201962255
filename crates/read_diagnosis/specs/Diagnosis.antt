-- What a line is refused for, but for room (14) and what `end` finds in its body (11, 12, 13): the parser's own words, without those.
use Rattle.std.specs.Prelude.{ℕ, ◌*◌, ◌<◌, ◌≡◌, List, [], ◌∷◌, length, get_or, ℤ, pos, Result}
use Rattle.refusals.specs.declared.Refusal as Placed
use Rattle.text.specs.Words.{Word}
use Rattle.text.specs.Rest.{rest_at}
use Rattle.keywords.specs.Keywords.{statement_of}
use Rattle.model.specs.Model as model
use Rattle.model.specs.Statements.{Statement, end, passed}
use Rattle.model.specs.Parse.{Parsed, fine, fault, then, must, unless, Keyword, a-vertex, an-element, a-body, parm, trim, hole, ends, cstype, deg, g, s, usemtl, over, allowed, counted, form_of, values_of, Value, seen_in, checked}
use Rattle.model.specs.Read.{carried_in}
use Rattle.read_state.specs.State.{StateIs}
use Rattle.read_state.specs.declared.State.{State}
use Rattle.read_word_checks.specs.Faults.{Refusal, refusal_said, Refused, Nothing}

-- the number and the place of a refusal
abbrev pub diagnosis_of : {A : Type 0} → Parsed A → Refusal
diagnosis_of (fine a) = Nothing
diagnosis_of (fault n p) = Refused n p

-- `checked`, but for what `end` finds in its body
abbrev pub checked_before : Keyword → model.State → ℕ → List Word → List Value → Parsed Statement
checked_before (a-vertex k) x key ws xs = checked (a-vertex k) x key ws xs
checked_before (an-element k) x key ws xs = checked (an-element k) x key ws xs
checked_before (a-body k) x key ws xs = checked (a-body k) x key ws xs
checked_before parm x key ws xs = checked parm x key ws xs
checked_before trim x key ws xs = checked trim x key ws xs
checked_before hole x key ws xs = checked hole x key ws xs
checked_before ends x key ws xs = fine end
checked_before cstype x key ws xs = checked cstype x key ws xs
checked_before deg x key ws xs = checked deg x key ws xs
checked_before g x key ws xs = checked g x key ws xs
checked_before s x key ws xs = checked s x key ws xs
checked_before usemtl x key ws xs = checked usemtl x key ws xs
checked_before over x key ws xs = checked over x key ws xs

-- `parse`, with it
unfoldable pub parse_before : Keyword → model.State → ℕ → List Word → Parsed Statement
parse_before k x key ws =
    must (allowed k x.open-body ws) 10 key
    (must (counted k (length ws)) 5 key
    (then (values_of (seen_in x) (form_of k (length ws)) 0 ws) (λ xs.
    checked_before k x key ws xs)))

-- a line of words: 3 and 4 come first
unfoldable pub fault_before : model.State → List Word → Parsed Statement
fault_before x [] = fine passed
fault_before x (w ∷ ws) = then (carried_in (statement_of w.bytes) w.place) (λ k. parse_before k x w.place ws)

-- the table t holds how many coordinates of each vp were given, where its record begins
abbrev pub GivenIn : List (List ℤ) → List ℤ → Type 0
GivenIn vps t = (k : ℕ) → k < length vps → get_or t (4 * k) (pos 0) ≡ get_or (get_or vps k []) 0 (pos 0)

-- what `diagnose` answers for the line of the text that starts at `at`, where c stands for what is in force: 2 comes before all else
abbrev pub DiagnosisIs : {A : Type 0} → List ℕ → ℕ → State → List ℤ → Result A Placed.Refusal → Type 0
DiagnosisIs text at c t r =
    (x : model.State) → StateIs text x c → GivenIn x.model.vertices.vp t
    → refusal_said r ≡ diagnosis_of (unless (rest_at text at).bad 2 (fault_before x (rest_at text at).words))
