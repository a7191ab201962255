-- One line, or on a surface two.
use Prim.Native.Nat.{◌+◌}
use mathlib.Core.Path.{sym, ap, ◌∙◌}
use mathlib.Core.List.{[], ◌∷◌}
use mathlib.Core.Bool.{Bool, cond}
use borrow.Author.Tests.{eq-eqb, ne_eqb}
use lib.ListN.{take, drop}
use Rattle.text.specs.Written.{written_lines}
use Rattle.keywords.specs.declared.Argument.TheVariants.{DirectionU, DirectionV}
use Rattle.tidy_writer.specs.Rows.{parameter_line}
use Rattle.tidy_words.proofs.Emissions.{emitted_then, emitted-is}
use Rattle.tidy_writer.proofs.Turns.{one_line, two-lines}
use Rattle.tidy_writer.proofs.body.parameter_lines.Goals as goal

pub returns-then-kind-eq-SURFACE : goal.returns-then-kind-eq-SURFACE
returns-then-kind-eq-SURFACE c =
    let a = c.args in
    let b = a.body in
    let u = parameter_line DirectionU (take b.count_u (drop b.first_parameter a.parameters.now)) in
    let v = parameter_line DirectionV (take b.count_v (drop (b.first_parameter + b.count_u) a.parameters.now)) in
    emitted-is (two-lines u v ∙ ap (λ (t : Bool). written_lines (u ∷ cond t (v ∷ []) [])) (sym (eq-eqb a.kind 6 c.if-kind-eq-SURFACE.true)))
    (emitted_then c.parameter_line-second.ensures c.parameter_line.ensures)

pub returns : goal.returns
returns c =
    let a = c.args in
    let b = a.body in
    let u = parameter_line DirectionU (take b.count_u (drop b.first_parameter a.parameters.now)) in
    let v = parameter_line DirectionV (take b.count_v (drop (b.first_parameter + b.count_u) a.parameters.now)) in
    emitted-is (one_line u ∙ ap (λ (t : Bool). written_lines (u ∷ cond t (v ∷ []) [])) (sym (ne_eqb a.kind 6 c.if-kind-eq-SURFACE.false)))
    c.parameter_line-second.ensures
