-- The row, by the words and the parts that it is made of.
use mathlib.Core.Path.{refl}
use Rattle.statements.proofs.rows.element_rules.Goals as goal

pub returns : goal.returns
returns c = rw (← c.fewest_corners.ensures, ← c.corner_parts-parts.ensures) refl
