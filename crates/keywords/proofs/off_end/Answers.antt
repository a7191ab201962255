-- The row of off, compared.
use Rattle.keywords.proofs.Arguments.{off-is}
use Rattle.keywords.proofs.off_end.Goals as goal

pub returns : goal.returns
returns c =
    off-is c.args.text.now c.argument_table.result.now c.args.at c.same_word.result c.argument_table.ensures c.same_word.ensures
