-- Each kind by its own call; the list grows by a kind at a time.
use Rattle.sweep.proofs.Fronts.{vertices-swept}
use Rattle.tables.specs.Tables.{tables}
use mathlib.Core.List.{[]}
use native.Mathlib.Omega.{arith}
use Rattle.sweep.proofs.vertices.sweep_vertices.Goals as goal

pub sweep_part-kept_vp-requires : goal.sweep_part-kept_vp-requires
sweep_part-kept_vp-requires c = (omega (arith, c.requires.4, c.numbers-3-1.given, c.numbers-2-1.given, c.numbers-1.given), c.requires.3, omega arith)

pub returns : goal.returns
returns c = let a = c.args in vertices-swept a.used (tables a.v.now a.vt.now a.vn.now a.vp.now a.corners.now a.elements.now [] [] [] [] []) a.numbers.now c.sweep_part-kept_v.ensures c.sweep_part-kept_vt.ensures c.sweep_part-kept_vn.ensures c.sweep_part-kept_vp.ensures
