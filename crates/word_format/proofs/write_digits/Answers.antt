-- From the back: the digits that are left, stored, come to what all of them come to.
use Prim.Native.Nat.{◌+◌, ◌-◌}
use mathlib.Core.Path.{◌≡◌, refl}
use native.Mathlib.Omega.{arith}
use Rattle.word_format.proofs.Digits.{next-digit, all_digits}
use Rattle.word_format.proofs.write_digits.Goals as goal

pub loop-k-init : goal.loop-k-init
loop-k-init c =
    let e : c.args.count - 0 ≡ c.args.count = omega arith in
    rw e (record { rest = refl; within = omega arith; size = refl })

pub loop-k-preserved : goal.loop-k-preserved
loop-k-preserved c =
    let a = c.args in
    let e : c.args.count - (c.loop-k.k + 1) ≡ c.args.count - c.loop-k.k - 1 = omega arith in
    rw e (next-digit a.out.now a.at a.count a.n c.loop-k.out (c.args.count - c.loop-k.k) c.loop-k.m c.loop-k.invariant (omega arith) c.digit.result c.digit.ensures)

pub shape_of-out : goal.shape_of-out
shape_of-out c = c.loop-k.invariant.size

pub returns : goal.returns
returns c =
    let a = c.args in
    (refl, all_digits a.out.now a.at a.count a.n c.loop-k.out (c.args.count - c.loop-k.k) c.loop-k.m c.loop-k.invariant (omega arith))
