-- By the byte after the second part.
use mathlib.Core.Path.{subst}
use mathlib.Core.Bool.{not}
use native.Mathlib.Omega.{arith}
use borrow.Author.Tests.{not-false}
use Rattle.references.specs.Answers.{AheadIs}
use Rattle.references.proofs.Ahead.{second-near, second-slash, second-end}
use Rattle.references.proofs.corner.texture_ahead.Goals as goal

pub byte_in-b-requires : goal.byte_in-b-requires
byte_in-b-requires c = let n = second-near c.in_ok-vt.ensures in omega (arith, c.requires.0)

pub overflow_add-vt : goal.overflow_add-vt
overflow_add-vt c = let n = second-near c.in_ok-vt.ensures in omega (arith, c.requires.0)

pub normal_ahead-requires : goal.normal_ahead-requires
normal_ahead-requires c = let n = second-near c.in_ok-vt.ensures in omega (arith, c.requires.0)

pub returns-then-b-eq47 : goal.returns-then-b-eq47
returns-then-b-eq47 c =
    let a = c.args in
    subst (λ x. AheadIs x c.normal_ahead.result) (second-slash c.in_ok-vt.ensures a.counts.vn a.parts.vt a.parts.vn a.v (not-false a.parts.vt c.if-not-parts.false) c.requires.1 c.byte_in-b.ensures c.if-b-eq47.true) c.normal_ahead.ensures

pub returns : goal.returns
returns c =
    let a = c.args in
    second-end c.in_ok-vt.ensures a.counts.vn a.parts.vt a.parts.vn a.v (not-false a.parts.vt c.if-not-parts.false) c.requires.1 c.byte_in-b.ensures c.if-b-gt32.false
