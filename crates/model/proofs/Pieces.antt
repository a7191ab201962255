-- Pieces of the parser that proofs name: the count of a vertex's words, and what is held against the line of a body's element and against `end`.
use Prim.Native.Nat.{ℕ}
use mathlib.Core.List.{List}
use mathlib.Core.Bool.{Bool}
use mathlib.Core.Option.{Option}
use lib.IntN.{ℤ}
use Rattle.text.specs.Words.{Word}
use Rattle.references.specs.Corner.{Corner}
use Rattle.model.specs.Model.{VertexKind, Free, Open, State}
use Rattle.model.specs.Statements.{Statement, body, end}
use Rattle.model.specs.Parse.{Parsed, fine, a-vertex, counted, opened_body, opens, closes}

abbrev pub counted_vertex : VertexKind → ℕ → Bool
counted_vertex k n = counted (a-vertex k) n

abbrev pub opened : Free → State → ℕ → List Word → List Corner → List ℤ → Parsed Statement
opened k x key ws cs z = opens k x key ws cs (fine (body (opened_body k x.form z) cs))

abbrev pub finished : Option Open → ℕ → Parsed Statement
finished o key = closes o key (fine end)
