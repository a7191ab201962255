-- A slash, or digits that refer to a texture vertex.
use mathlib.Core.Path.{refl, sym, ap, ◌∙◌}
use mathlib.Core.Logic.{inl, inr}
use mathlib.Core.Bool.{not}
use borrow.Author.Tests.{not-false}
use native.Mathlib.Omega.{arith}
use Rattle.references.proofs.Ahead.{ahead}
use Rattle.references.proofs.corner.second_ahead.Goals as goal

pub returns-then-byte_in-eq47 : goal.returns-then-byte_in-eq47
returns-then-byte_in-eq47 c = inl (record { number_is = refl; end_is = refl; slash = sym c.byte_in.ensures ∙ c.if-byte_in-eq47.true })

pub overflow_cast-result : goal.overflow_cast-result
overflow_cast-result c =
    let n = c.refers.ensures.fits (not-false c.refers.result (ap not c.if-not-refers.false)) in
    omega arith

pub returns : goal.returns
returns c = inr (ahead c.digits_upto-w.ensures c.refers.ensures.value (not-false c.refers.result (ap not c.if-not-refers.false)))
