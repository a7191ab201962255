-- The vertex and what stands after it.
use mathlib.Core.Path.{ap}
use native.Mathlib.Omega.{arith}
use lib.ListN.{length, length-append}
use Rattle.references.specs.Written.{written_whole}
use Rattle.word_format.specs.Parts.{written_parts}
use Rattle.word_format.proofs.Corners.{corner-is, whole-few, parts-few}
use Rattle.word_format.proofs.corner_length.Goals as goal

pub overflow_add-result : goal.overflow_add-result
overflow_add-result c =
    omega (arith, whole-few c.args.v c.ranges.v.fits, parts-few c.args.vt c.args.vn c.ranges.vt.fits c.ranges.vn.fits, c.parts_length.ensures, c.whole_length.ensures)

pub returns : goal.returns
returns c =
    let a = c.args in
    let k = ap length (corner-is a.v a.vt a.vn) in
    let e = length-append (written_whole a.v) (written_parts a.vt a.vn) in
    omega (arith, c.parts_length.ensures, c.whole_length.ensures)
