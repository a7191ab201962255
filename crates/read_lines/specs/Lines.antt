-- All lines of a text: what reading starts from and comes to.
use Rattle.std.specs.Prelude.{ℕ, ◌≡◌, List, length, Result, Ok, Err}
use Rattle.refusals.specs.declared.Refusal.{Refusal}
use Rattle.refusals.specs.Reasons.{reason_number}
use Rattle.text.specs.Rest.{lines_at}
use Rattle.tables.specs.Tables.{Tables}
use Rattle.model.specs.Model.{start}
use Rattle.model.specs.Read.{refused, read_lines}
use Rattle.model.specs.Layout.{tables_of}
use Rattle.read_state.specs.declared.State.{State}
use Rattle.tables.specs.declared.Used.{Used}
use Rattle.read_lines.specs.Answered.{ReadAnswer, rooms_of, read_answer, answered}

abbrev pub begin : State
begin =
    record {
      used = record { v = 0; vt = 0; vn = 0; vp = 0; corners = 0; elements = 0; bodies = 0; parameters = 0; loops = 0 };
      curves = 0;
      names = record { group = record { place = 0; length = 0 }; material = record { place = 0; length = 0 }; smoothing = 0 };
      form = record { basis = 0; rational = 0; degree_u = 0; degree_v = 0 };
      «open» = record { kind = 0; controls = 0; parts = 0; u_at = 0; v_at = 0 };
    }

-- tables that hold nothing
abbrev pub Blank : Tables → Type 0
Blank t = t ≡ tables_of (rooms_of t) start.model

-- what all lines of the text come to with the tables t lent, which a refusal clears
abbrev pub lines_read : List ℕ → Tables → ReadAnswer
lines_read s t = answered t (read_lines (rooms_of t) (length s) (lines_at s 0) start)

-- the same before they are cleared: they held nothing and then hold u
abbrev pub LinesIs : List ℕ → Tables → Tables → Result Used Refusal → Type 0
LinesIs s t u (Ok n) = read_answer (Ok n) u ≡ lines_read s t
LinesIs s t u (Err r) = read_lines (rooms_of t) (length s) (lines_at s 0) start ≡ refused (reason_number r.reason) r.place
