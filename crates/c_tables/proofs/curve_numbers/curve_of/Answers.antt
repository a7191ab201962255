-- The invariant: the curv2 elements below i are counted, and none of them is the one looked for.
use mathlib.Core.Path.{◌≡◌, sym, ap, ◌∙◌}
use native.Mathlib.Omega.{arith}
use Rattle.c_tables.specs.CurveNumbers.{curve_among}
use Rattle.c_tables.proofs.CurveNumbers.{found, other-curve, no-curve, of-whole}
use Rattle.c_tables.proofs.curve_numbers.curve_of.Goals as goal
use Rattle.c_tables.proofs.curve_numbers.curve_of.Goals.{then-kind_in-eq-CURVE2+else-seen-curve, else-kind_in-eq-CURVE2}

pub returns-then-seen-curve : goal.returns-then-seen-curve
returns-then-seen-curve c =
    let a = c.args in
    of-whole a.used a.elements.now a.curve c.whole_elements-whole.ensures (found a.elements.now a.curve c.loop-i.i c.loop-i.seen c.loop-i.invariant.1 c.whole_elements-whole.result (omega arith) (sym c.kind_in.ensures ∙ c.if-kind_in-eq-CURVE2.true) c.if-seen-curve.true)

pub loop-i-preserved : goal.loop-i-preserved
loop-i-preserved c =
    let a = c.args in
    let kind = c.kind_in.ensures in
    elim c.if-kind_in-eq-CURVE2.branch [
      | then-kind_in-eq-CURVE2+else-seen-curve w ↦
          let p = other-curve a.elements.now a.curve c.loop-i.i c.loop-i.seen c.loop-i.invariant.1 c.loop-i.invariant.2 (sym kind ∙ w.if-kind_in-eq-CURVE2.true) w.if-seen-curve.false in
          (omega arith, w.seen-is ∙ p.0, p.1)
      | else-kind_in-eq-CURVE2 w ↦
          let p = no-curve a.elements.now a.curve c.loop-i.i c.loop-i.seen c.loop-i.invariant.1 c.loop-i.invariant.2 (λ f. w.if-kind_in-eq-CURVE2.false (kind ∙ f)) in
          (omega arith, w.seen-is ∙ p.0, p.1)
    ]

pub returns : goal.returns
returns c =
    let a = c.args in
    let end : c.loop-i.i ≡ c.whole_elements-whole.result = omega arith in
    of-whole a.used a.elements.now a.curve c.whole_elements-whole.ensures (sym c.loop-i.invariant.2 ∙ ap (curve_among a.elements.now a.curve) end)
