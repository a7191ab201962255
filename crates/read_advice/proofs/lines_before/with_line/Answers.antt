-- By what stands first in the line.
use mathlib.Core.Path.{◌∙◌}
use native.Mathlib.Omega.{arith}
use Rattle.text.proofs.Found.{word-found, end-found, bad-found}
use Rattle.read_advice.proofs.Going.{line-none, line-bad-first, line-said}
use Rattle.read_advice.proofs.lines_before.with_line.Goals as goal

pub word_end-end-requires : goal.word_end-end-requires
word_end-end-requires c =
    let met = word-found c.args.text.now c.args.at _ c.skip_blanks.ensures c.in-Start.is in
    let more = met.more in
    let to = met.to in
    omega arith

pub returns-in-Start : goal.returns-in-Start
returns-in-Start c =
    let met = word-found c.args.text.now c.args.at _ c.skip_blanks.ensures c.in-Start.is in
    c.after_keyword.ensures
    ∙ line-said c.args.text.now c.args.at c.args.said.tally met c.keyword_at-keyword.result c.keyword_at-keyword.ensures c.carried_of-carried.result c.carried_of-carried.ensures c.after_line-tally.result c.after_line-tally.ensures

pub returns-in-End : goal.returns-in-End
returns-in-End c =
    line-none c.args.text.now c.args.at c.args.said.tally (end-found c.args.text.now c.args.at _ c.skip_blanks.ensures c.in-End.is)

pub returns-in-Bad : goal.returns-in-Bad
returns-in-Bad c =
    line-bad-first c.args.text.now c.args.at c.args.said.tally (bad-found c.args.text.now c.args.at _ c.skip_blanks.ensures c.in-Bad.is)
