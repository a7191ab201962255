-- The bytes of the table are those of the rows: both are computed.
use mathlib.Core.Path.{refl}
use Rattle.keywords.specs.Arguments.{arguments}
use Rattle.keywords.specs.Lookup.{table_of_arguments}
use Rattle.keywords.proofs.argument_table.Goals as goal

pub returns : goal.returns
unfolding arguments table_of_arguments
returns c = refl
