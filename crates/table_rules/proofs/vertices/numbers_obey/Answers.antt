-- All numbers as one run.
use Rattle.std.proofs.Common.{◌∙◌}
use Rattle.table_rules.proofs.AllNumbers.{numbers-are}
use Rattle.table_rules.proofs.vertices.numbers_obey.Goals as goal

pub returns : goal.returns
returns c = let a = c.args in c.run_in_range.ensures ∙ numbers-are a.values.now a.width a.used
