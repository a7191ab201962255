-- A row's letter is that of its kind.
use mathlib.Core.Path.{◌∙◌}
use Rattle.keywords.specs.declared.Argument.TheVariants.{Other}
use Rattle.spellings.proofs.Rows.{kind-in, kind-none}
use Rattle.keywords.proofs.Arguments.{laid}
use Rattle.keywords.proofs.row_sign.Goals as goal

pub returns-then-row-lt-ARGUMENT_ROWS : goal.returns-then-row-lt-ARGUMENT_ROWS
returns-then-row-lt-ARGUMENT_ROWS c =
    kind-in laid c.argument_table.result.now c.args.row c.argument_table.ensures c.if-row-lt-ARGUMENT_ROWS.true

pub returns : goal.returns
returns c = laid.told Other ∙ kind-none laid c.args.row c.if-row-lt-ARGUMENT_ROWS.false
