-- The literal is 2^-16.
use mathlib.Core.Path.{◌∙◌, ap}
use Rattle.doubles.specs.Doubles.{blend}
use Rattle.point_guess.specs.Steps.{on}
use Rattle.point_guess.proofs.Stepping.{raised_is}
use Rattle.point_guess.proofs.guessed.Goals as goal

pub returns : goal.returns
returns c k =
    let s = c.args in
    c.lean.ensures k ∙ ap (blend (on k s.a) (on k s.b) s.gap.part) raised_is
