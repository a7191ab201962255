-- A line with a keyword: what `scan_line` finds after it, and the room for so many words.
use mathlib.Core.Path.{sym, ◌∙◌}
use native.Mathlib.Omega.{arith}
use Rattle.text.specs.Rest.{rest_at}
use Rattle.text.proofs.Found.{word-found}
use Rattle.text.proofs.Scans.{scan_good}
use Rattle.read_rooms.proofs.Words.{rest-few}
use Rattle.read_rooms.proofs.Going.{line-counted}
use Rattle.read_rooms.proofs.line_at.Goals as goal

pub room_for-requires : goal.room_for-requires
room_for-requires c =
    let g = scan_good (rest_at c.args.text.now c.word_end.result) _ _ (sym c.in-Ok.is ∙ c.scan_line.ensures) in
    let h = g.1 in
    let few = rest-few c.args.text.now c.word_end.result in
    let short = c.requires.1 in
    omega arith

pub returns-in-Ok : goal.returns-in-Ok
returns-in-Ok c =
    let met = word-found c.args.text.now c.args.at _ c.skip_blanks.ensures c.in-Start.is in
    line-counted c.args.text.now c.args.at met c.keyword_at-keyword.result c.keyword_at-keyword.ensures c.word_end.result c.word_end.ensures.0 _ _ _ (sym c.in-Ok.is ∙ c.scan_line.ensures) c.room_for.ensures
