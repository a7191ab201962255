-- Past ten digits nothing is left.
use Prim.Native.Nat.{ℕ, ◌/◌, ◌<◌}
use mathlib.Core.Path.{◌≡◌, sym, ap, ◌∙◌, subst}
use native.Mathlib.Omega.{arith}
use Rattle.digits.specs.Straight.{cap}
use Rattle.digits.proofs.Rows.{ten-pos}
use Rattle.decimals.proofs.Shifts.{cut-none}
use Rattle.decimals.proofs.exponent.cut.Goals as goal

pub returns-then-digits-gt10 : goal.returns-then-digits-gt10
returns-then-digits-gt10 c = cut-none c.args.value c.args.digits c.requires c.if-digits-gt10.true

pub nonzero_div-left : goal.nonzero_div-left
nonzero_div-left c = subst (λ (n : ℕ). 0 < n) (sym c.power_of_ten.ensures) (ten-pos c.args.digits)

pub returns-then-left-gt-CAP : goal.returns-then-left-gt-CAP
returns-then-left-gt-CAP c =
    let a = c.args in
    let p = c.power_of_ten in
    let e : 20000000005 ≡ cap (a.value / c.power_of_ten.result) = (let y = c.if-left-gt-CAP.true in omega arith) in
    e ∙ ap (λ (n : ℕ). cap (a.value / n)) c.power_of_ten.ensures

pub returns : goal.returns
returns c =
    let a = c.args in
    let p = c.power_of_ten in
    let e : a.value / c.power_of_ten.result ≡ cap (a.value / c.power_of_ten.result) = (let y = c.if-left-gt-CAP.false in omega arith) in
    e ∙ ap (λ (n : ℕ). cap (a.value / n)) c.power_of_ten.ensures
