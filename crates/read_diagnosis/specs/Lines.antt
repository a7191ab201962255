-- What the code finds wrong with a line of m words after its keyword, in the order of 01's table; proofs/ say that it comes to the parser's refusal.
use Rattle.std.specs.Prelude.{ℕ, List, drop, ℤ}
use Rattle.text.specs.Words.{Word, word_of}
use Rattle.text.specs.Rest.{rest_at, end_of}
use Rattle.keywords.specs.Keywords.{statement_of}
use Rattle.statements.specs.declared.Carried as carried
use Rattle.statements.specs.declared.Statement.{Statement}
use Rattle.statements.specs.declared.Statement.TheVariants.{Carried, Refused as Unrecorded, Unknown}
use Rattle.statements.specs.declared.rules.Forms.{Forms}
use Rattle.statements.specs.declared.rules.Held.{Held}
use Rattle.statements.specs.declared.rules.Rules.{Rules}
use Rattle.statements.specs.Rules.{allowed_by, counted_by, rules_of}
use Rattle.statements.specs.Numbered.{free_numbered}
use Rattle.model.specs.Parse as parse
use Rattle.read_state.specs.declared.Form.{Form}
use Rattle.read_word_checks.specs.declared.tests.Tests.TheVariants.{Each}
use Rattle.read_word_checks.specs.Faults.{Refusal, Refused, fault_in, owed, or_else, held_fault}

abbrev pub words_fault : parse.Seen → List ℤ → Form → ℕ → Forms → Held → ℕ → List Word → Refusal
words_fault n t f key fs h m ws = or_else (fault_in n t (Each fs) m 0 ws) (held_fault n t f key h ws)

abbrev pub line_by : parse.Seen → List ℤ → Form → ℕ → ℕ → Rules → ℕ → List Word → Refusal
line_by n t f kind key r m ws =
    owed (allowed_by r.standing (free_numbered kind) (parse.says_v ws)) 10 key
    (owed (counted_by r.count m) 5 key
    (words_fault n t f key r.forms r.held m ws))

unfoldable pub line_fault : parse.Seen → List ℤ → Form → ℕ → ℕ → carried.Carried → ℕ → List Word → Refusal
line_fault n t f kind key k m ws = line_by n t f kind key (rules_of k) m ws

-- 3 and 4, and then the line
abbrev pub fault_for : parse.Seen → List ℤ → Form → ℕ → ℕ → Statement → ℕ → List Word → Refusal
fault_for n t f kind key (Carried k) m ws = line_fault n t f kind key k m ws
fault_for n t f kind key Unrecorded m ws = Refused 4 key
fault_for n t f kind key Unknown m ws = Refused 3 key

-- the keyword is the word of s at key
unfoldable pub statement_fault : parse.Seen → List ℤ → Form → ℕ → List ℕ → ℕ → ℕ → Refusal
statement_fault n t f kind s key m = fault_for n t f kind key (statement_of (word_of (drop key s))) m (rest_at s (end_of s key)).words
