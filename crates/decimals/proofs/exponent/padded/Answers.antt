-- A product past the cap is seen from the quotient before it is made.
use Prim.Native.Nat.{ℕ, ◌*◌, ◌^◌, ◌<◌}
use mathlib.Core.Path.{◌≡◌, sym, ap, ◌∙◌, subst}
use native.Mathlib.Omega.{arith}
use Rattle.digits.specs.Straight.{cap}
use Rattle.digits.proofs.Rows.{ten-pos}
use Rattle.decimals.proofs.Shifts.{pad-none, pad-far, pad-over, pad-in}
use Rattle.decimals.proofs.exponent.padded.Goals as goal

pub returns-then-value-eq0 : goal.returns-then-value-eq0
returns-then-value-eq0 c = pad-none c.args.value (10 ^ c.args.zeros) c.if-value-eq0.true

pub returns-then-zeros-gt10 : goal.returns-then-zeros-gt10
returns-then-zeros-gt10 c = pad-far c.args.value c.args.zeros c.if-value-eq0.false c.if-zeros-gt10.true

pub nonzero_div-scale : goal.nonzero_div-scale
nonzero_div-scale c = subst (λ (n : ℕ). 0 < n) (sym c.power_of_ten-scale.ensures) (ten-pos c.args.zeros)

pub returns-then-scale-value : goal.returns-then-scale-value
returns-then-scale-value c =
    let a = c.args in
    let p = c.power_of_ten-scale in
    pad-over a.value c.power_of_ten-scale.result (subst (λ (n : ℕ). 0 < n) (sym c.power_of_ten-scale.ensures) (ten-pos a.zeros)) c.if-scale-value.true
    ∙ ap (λ (n : ℕ). cap (a.value * n)) c.power_of_ten-scale.ensures

pub overflow_mul-result : goal.overflow_mul-result
overflow_mul-result c =
    let a = c.args in
    let q = pad-in a.value c.power_of_ten-scale.result c.if-scale-value.false in
    omega arith

pub returns : goal.returns
returns c =
    let a = c.args in
    let p = c.power_of_ten-scale in
    let q = pad-in a.value c.power_of_ten-scale.result c.if-scale-value.false in
    let e : a.value * c.power_of_ten-scale.result ≡ cap (a.value * c.power_of_ten-scale.result) = omega arith in
    e ∙ ap (λ (n : ℕ). cap (a.value * n)) c.power_of_ten-scale.ensures
