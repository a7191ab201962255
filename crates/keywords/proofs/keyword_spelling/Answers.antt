-- The word in the row is its spelling.
use Prim.Native.Nat.{ℕ}
use mathlib.Core.Path.{subst}
use mathlib.Core.List.{List}
use lib.ListN.{length}
use Rattle.spellings.specs.Rows.{spelling_at}
use Rattle.keywords.specs.Keywords.{keywords}
use Rattle.spellings.proofs.Rows.{spelled-in, spelled_none}
use Rattle.keywords.proofs.Keywords.{laid}
use Rattle.spellings.proofs.Write.{Wrote, wrote_nothing, no_word}
use Rattle.keywords.proofs.keyword_spelling.Goals as goal

pub returns-then-row-lt-KEYWORD_ROWS : goal.returns-then-row-lt-KEYWORD_ROWS
returns-then-row-lt-KEYWORD_ROWS c =
    let a = c.args in
    subst (λ (x : List ℕ). Wrote a.out.now x c.write_row.result c.write_row.new.out) (spelled-in laid c.keyword_table.result.now a.row c.keyword_table.ensures c.if-row-lt-KEYWORD_ROWS.true) c.write_row.ensures

pub returns : goal.returns
returns c =
    let a = c.args in
    wrote_nothing a.out.now (spelling_at keywords a.row) (no_word (length a.out.now) _ (spelled_none laid a.row c.if-row-lt-KEYWORD_ROWS.false))
