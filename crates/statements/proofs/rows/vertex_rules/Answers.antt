-- The row, by the count of its words.
use mathlib.Core.Path.{refl}
use Rattle.statements.proofs.rows.vertex_rules.Goals as goal

pub returns : goal.returns
returns c = rw (c.plain_rules.ensures, c.vertex_count.ensures) refl
