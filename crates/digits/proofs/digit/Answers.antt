-- By the one test of `digit_of`; below 48 the byte wraps.
use mathlib.Core.Path.{◌≡◌}
use mathlib.Core.Bool.{true, false}
use mathlib.Core.Logic.{⊎_elim}
use lib.Dec.{leb}
use borrow.Author.Tests.{leb-true, leb-false}
use native.Mathlib.Omega.{arith}
use Rattle.lists.proofs.Tests.{test}
use Rattle.digits.proofs.digit.Goals as goal

pub returns : goal.returns
returns c =
    ⊎_elim
    (λ (t : leb 48 c.args.b ≡ true). let h = leb-true 48 c.args.b t in rw t (omega arith))
    (λ (t : leb 48 c.args.b ≡ false). let h = leb-false 48 c.args.b t in rw t (omega arith))
    (test (leb 48 c.args.b))
