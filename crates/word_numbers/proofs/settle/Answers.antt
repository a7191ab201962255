-- Five ten-millionths below the range is the last that rounds into it.
use mathlib.Core.Path.{refl, ◌∙◌}
use mir.Facts.{to_z-of_z}
use mir.Syntax.{w32}
use Rattle.decimals.specs.Straight.{settle_of}
use Rattle.digits.proofs.Saids.{says-ends, unsaid}
use Rattle.word_numbers.proofs.Signs.{settle-out, settle-in}
use Rattle.word_numbers.proofs.settle.Goals as goal

pub returns-then-size-gt20000000004 : goal.returns-then-size-gt20000000004
returns-then-size-gt20000000004 c = unsaid (settle_of c.args.minus c.args.size.value) 7 c.args.size.next (settle-out c.args.minus c.args.size.value c.if-size-gt20000000004.true)

pub returns : goal.returns
returns c =
    let a = c.args in
    says-ends (settle_of a.minus a.size.value) _ a.size.next a.size.next
    (settle-in a.minus a.size.value _ c.if-size-gt20000000004.false
    (to_z-of_z {w = w32} {z = c.signed_of.result} (record { sfits = c.signed_of.type_inv }) ∙ c.signed_of.ensures))
    refl
