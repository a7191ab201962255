-- The bytes of the table are those of the rows: both are computed.
use mathlib.Core.Path.{refl}
use Rattle.keywords.specs.Keywords.{keywords}
use Rattle.keywords.specs.Lookup.{table_of_keywords}
use Rattle.keywords.proofs.keyword_table.Goals as goal

pub returns : goal.returns
unfolding keywords table_of_keywords
returns c = refl
