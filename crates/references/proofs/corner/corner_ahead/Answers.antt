-- By the byte after the first part.
use mathlib.Core.Path.{subst, ap}
use mathlib.Core.Bool.{not}
use native.Mathlib.Omega.{arith}
use borrow.Author.Tests.{not-false}
use Rattle.references.specs.Answers.{AheadIs}
use Rattle.references.proofs.Corners.{counts}
use Rattle.references.proofs.Ahead.{ahead, near, first-slash, first-end}
use Rattle.references.proofs.corner.corner_ahead.Goals as goal

pub overflow_cast-v : goal.overflow_cast-v
overflow_cast-v c =
    let n = c.refers.ensures.fits (not-false c.refers.result (ap not c.if-not-refers.false)) in
    omega arith

pub byte_in-b-requires : goal.byte_in-b-requires
byte_in-b-requires c = let n = near (ahead c.digits_upto-w.ensures c.refers.ensures.value (not-false c.refers.result (ap not c.if-not-refers.false))) in omega arith

pub texture_ahead-requires : goal.texture_ahead-requires
texture_ahead-requires c =
    let a = ahead c.digits_upto-w.ensures c.refers.ensures.value (not-false c.refers.result (ap not c.if-not-refers.false)) in
    let n = near a in
    (omega arith, a.some)

pub returns-then-b-eq47 : goal.returns-then-b-eq47
returns-then-b-eq47 c =
    subst (λ x. AheadIs x c.texture_ahead.result) (first-slash (counts c.args.counts) c.args.parts (ahead c.digits_upto-w.ensures c.refers.ensures.value (not-false c.refers.result (ap not c.if-not-refers.false))) c.byte_in-b.ensures c.if-b-eq47.true) c.texture_ahead.ensures

pub returns : goal.returns
returns c =
    first-end (counts c.args.counts) c.args.parts (ahead c.digits_upto-w.ensures c.refers.ensures.value (not-false c.refers.result (ap not c.if-not-refers.false))) c.byte_in-b.ensures c.if-b-gt32.false
