-- What both slacks agree on is right (`sure`).
use mathlib.Core.Path.{sym, ◌∙◌}
use Rattle.lists.proofs.Tests.{and_right}
use Rattle.point_guess.proofs.Stepping.{sure}
use Rattle.point_guess.proofs.certain.Goals as goal

pub returns : goal.returns
returns c r t f =
    let other = c.lean-other in
    let e = c.same in
    sure c.args.guess c.lean-other.result c.requires.0 c.requires.1 f c.requires.2 c.lean-other.ensures (sym c.same.ensures ∙ and_right c.args.trusted c.same.result r)
