-- The loop keeps the rest of the line (`InBlanks`): a blank or a join takes bytes off what is left, and one law says what else can stand there.
use mathlib.Core.Path.{refl, sym, ◌∙◌}
use native.Mathlib.Omega.{arith}
use Rattle.text.proofs.Places as P
use Rattle.text.proofs.Loops as L
use Rattle.text.proofs.skip_blanks.Goals as goal

pub loop-i-init : goal.loop-i-init
loop-i-init c = record { from = omega arith; to = c.requires; rest = refl }

pub loop-i-preserved-then-is_blank : goal.loop-i-preserved-then-is_blank
loop-i-preserved-then-is_blank c = L.gap-blank c.loop-i.invariant c.loop-i-test.true _ c.is_blank.ensures c.if-is_blank.true

pub returns-then-starts_word : goal.returns-then-starts_word
returns-then-starts_word c =
    L.gap_word c.loop-i.invariant (P.word-met c.args.text.now c.loop-i.i c.loop-i-test.true (sym c.starts_word.ensures ∙ c.if-starts_word.true))

pub turn_at-requires : goal.turn_at-requires
turn_at-requires c =
    (c.loop-i-test.true, sym c.is_blank.ensures ∙ c.if-is_blank.false, sym c.starts_word.ensures ∙ c.if-starts_word.false)

pub loop-i-smaller : goal.loop-i-smaller
loop-i-smaller c =
    let ahead = (L.gap-join c.loop-i.invariant c.loop-i-test.true _ c.turn_at.ensures c.in-On.is).1 in
    let more = c.loop-i-test.true in
    omega arith

pub loop-i-preserved : goal.loop-i-preserved
loop-i-preserved c =
    (L.gap-join c.loop-i.invariant c.loop-i-test.true _ c.turn_at.ensures c.in-On.is).0

pub returns-in-End : goal.returns-in-End
returns-in-End c =
    L.gap-end c.loop-i.invariant c.loop-i-test.true _ c.turn_at.ensures c.in-End.is

pub returns-in-Refused : goal.returns-in-Refused
returns-in-Refused c =
    L.gap-bad c.loop-i.invariant c.loop-i-test.true _ c.turn_at.ensures c.in-Refused.is

pub returns : goal.returns
returns c = L.gap-done c.loop-i.invariant c.loop-i-test.false
