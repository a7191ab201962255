-- What each answer of the code means: the value and where its word ends, or 01's number of the refusal.
use Rattle.std.specs.Prelude.{ℕ, List, Result, Ok, Err}
use Rattle.refusals.specs.declared.Reason.{Reason}
use Rattle.refusals.specs.Reasons.{reason_number}
use Rattle.text.specs.declared.Parsed.{Parsed}
use Rattle.digits.specs.Said.{Said, says, wrong}

-- of what a word is read as
abbrev pub said : {A : Type 0} → Result (Parsed A) Reason → Said (A × ℕ)
said (Ok p) = says (p.value, p.next)
said (Err r) = wrong (reason_number r)

-- a name's bytes are those from its place on
abbrev pub said_name : List ℕ → Result ℕ Reason → Said (List ℕ × ℕ)
said_name w (Ok e) = says (w, e)
said_name w (Err r) = wrong (reason_number r)

-- the value, and where its word ends
abbrev pub ends_at : {A : Type 0} → Said A → ℕ → Said (A × ℕ)
ends_at (says a) e = says (a, e)
ends_at (wrong n) e = wrong n
