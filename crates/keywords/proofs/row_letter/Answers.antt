-- A row's letter is that of its kind.
use mathlib.Core.Path.{◌∙◌}
use Rattle.statements.specs.declared.Statement.TheVariants.{Unknown}
use Rattle.spellings.proofs.Rows.{kind-in, kind-none}
use Rattle.keywords.proofs.Keywords.{laid}
use Rattle.keywords.proofs.row_letter.Goals as goal

pub returns-then-row-lt-KEYWORD_ROWS : goal.returns-then-row-lt-KEYWORD_ROWS
returns-then-row-lt-KEYWORD_ROWS c =
    kind-in laid c.keyword_table.result.now c.args.row c.keyword_table.ensures c.if-row-lt-KEYWORD_ROWS.true

pub returns : goal.returns
returns c = laid.told Unknown ∙ kind-none laid c.args.row c.if-row-lt-KEYWORD_ROWS.false
