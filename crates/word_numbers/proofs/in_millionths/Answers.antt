-- Each turn is a zero more, and the number with all of them fits.
use Prim.Native.Nat.{◌+◌, ◌-◌, ◌*◌, ◌^◌}
use mathlib.Core.Path.{◌≡◌, refl, ◌∙◌}
use native.Mathlib.Omega.{arith}
use Rattle.word_numbers.proofs.Rounding.{grows}
use Rattle.word_numbers.proofs.Ahead.{zero_more}
use Rattle.word_numbers.proofs.in_millionths.Goals as goal

pub loop-i-init : goal.loop-i-init
loop-i-init c = refl

pub overflow_mul-m : goal.overflow_mul-m
overflow_mul-m c =
    let l = c.loop-i in
    let p = c.requires in
    let g = grows (c.loop-i.m * 10) (6 - (c.loop-i.i + 1)) in
    let z = zero_more c.loop-i.m c.loop-i.i c.loop-i-test.true in
    let v = c.loop-i.invariant in
    omega arith

pub loop-i-preserved : goal.loop-i-preserved
loop-i-preserved c = let l = c.loop-i in zero_more c.loop-i.m c.loop-i.i c.loop-i-test.true ∙ c.loop-i.invariant

pub returns : goal.returns
returns c =
    let l = c.loop-i in
    let z : 6 - c.loop-i.i ≡ 0 = omega arith in
    let o : c.loop-i.m ≡ c.loop-i.m * 10 ^ (6 - c.loop-i.i) = rw z (omega arith) in
    o ∙ c.loop-i.invariant
