-- What functions below the entry points promise: of a text that is too long, and of what a tally counts in all.
use Rattle.std.specs.Prelude.{ℕ, ◌+◌, ◌≡◌}
use Rattle.read_advice.specs.declared.Advice.{Advice}
use Rattle.read_advice.specs.declared.lines_before.Tally.{Tally}
use Rattle.read_advice.specs.Tally.{start_tally}
use Rattle.read_advice.specs.Advice.{Needs}

-- the advice on a text that is too long
abbrev pub NothingTold : Advice → Type 0
NothingTold a = (a.tally ≡ start_tally) × Needs a

-- all that a word may refer to
abbrev pub vertex_total : Tally → ℕ
vertex_total t = t.v + t.vt + t.vn + t.vp + t.curves
