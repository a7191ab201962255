-- The row, by the words and the form that it is made of.
use mathlib.Core.Path.{refl}
use native.Mathlib.Omega.{arith}
use Rattle.statements.proofs.RowLaws.{few_words}
use Rattle.statements.proofs.rows.body_rules.Goals as goal

pub overflow_add-result : goal.overflow_add-result
overflow_add-result c = let a = few_words c.args.free in let b = c.fewest_controls.ensures in let d = c.range_words-words.ensures in omega arith

pub returns : goal.returns
returns c = rw (← c.control_form.ensures, ← c.fewest_controls.ensures, ← c.range_words-words.ensures) refl
