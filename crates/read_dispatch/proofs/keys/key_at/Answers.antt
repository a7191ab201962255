-- Each answer of `skip_blanks`; at a word, what it is as a keyword.
use Rattle.keywords.proofs.Keywords.{keyword-is}
use Rattle.text.proofs.Found.{word-found, end-found, bad-found}
use Rattle.read_dispatch.proofs.keys.key_at.Goals as goal

pub returns-in-End : goal.returns-in-End
returns-in-End c =
    let a = c.args in
    end-found a.text.now a.at c.skip_blanks.result c.skip_blanks.ensures c.in-End.is

pub returns-in-Bad : goal.returns-in-Bad
returns-in-Bad c =
    let a = c.args in
    bad-found a.text.now a.at c.skip_blanks.result c.skip_blanks.ensures c.in-Bad.is

pub returns-in-Start : goal.returns-in-Start
returns-in-Start c =
    let f = c.keyword_row-found in
    let a = c.args in (
      word-found a.text.now a.at c.skip_blanks.result c.skip_blanks.ensures c.in-Start.is,
      keyword-is a.text.now _ c.keyword_row-found.result _ c.keyword_row-found.ensures.0 c.row_letter.ensures,
    )
