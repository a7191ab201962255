-- The digits refer to a normal, and a byte that ends a word follows them.
use native.Mathlib.Omega.{arith}
use mathlib.Core.Path.{ap}
use mathlib.Core.Bool.{not}
use borrow.Author.Tests.{not-false}
use Rattle.references.proofs.Ahead.{ahead, near, normal-end}
use Rattle.references.proofs.corner.normal_ahead.Goals as goal

pub byte_in-requires : goal.byte_in-requires
byte_in-requires c =
    let n = near (ahead c.digits_upto-w.ensures c.refers.ensures.value (not-false c.refers.result (ap not c.if-not-refers.false))) in
    omega arith

pub overflow_cast-result : goal.overflow_cast-result
overflow_cast-result c =
    let n = c.refers.ensures.fits (not-false c.refers.result (ap not c.if-not-refers.false)) in
    omega arith

pub returns : goal.returns
returns c =
    normal-end (ahead c.digits_upto-w.ensures c.refers.ensures.value (not-false c.refers.result (ap not c.if-not-refers.false))) (not-false c.args.normal (ap not c.if-not-normal.false)) c.byte_in.ensures c.if-byte_in-gt32.false
