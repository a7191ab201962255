-- By the parts that are there.
use mathlib.Core.Path.{sym, ap}
use native.Mathlib.Omega.{arith}
use lib.ListN.{length, length-append}
use Rattle.word_format.specs.Parts.{written_part}
use Rattle.word_format.proofs.Corners.{whole-few, alone, with-texture, with-normal, with-both}
use Rattle.word_format.proofs.parts_length.Goals as goal

pub returns-then-vt-eq0 : goal.returns-then-vt-eq0
returns-then-vt-eq0 c =
    let a = c.args in
    sym (ap length (alone a.vt a.vn c.if-vn-eq0.true c.if-vt-eq0.true))

pub overflow_add-result : goal.overflow_add-result
overflow_add-result c =
    omega (arith, whole-few c.args.vt c.ranges.vt.fits, c.whole_length.ensures)

pub returns-then-vn-eq0 : goal.returns-then-vn-eq0
returns-then-vn-eq0 c =
    let a = c.args in
    let k = ap length (with-texture a.vt a.vn c.if-vn-eq0.true c.if-vt-eq0.false) in
    omega (arith, c.whole_length.ensures)

pub overflow_add-result-then-vt-eq0-2 : goal.overflow_add-result-then-vt-eq0-2
overflow_add-result-then-vt-eq0-2 c =
    omega (arith, whole-few c.args.vn c.ranges.vn.fits, c.whole_length-then-vt-eq0-2.ensures)

pub returns-then-vt-eq0-2 : goal.returns-then-vt-eq0-2
returns-then-vt-eq0-2 c =
    let a = c.args in
    let k = ap length (with-normal a.vt a.vn c.if-vn-eq0.false c.if-vt-eq0-2.true) in
    omega (arith, c.whole_length-then-vt-eq0-2.ensures)

pub overflow_add-result-2 : goal.overflow_add-result-2
overflow_add-result-2 c =
    omega (arith, whole-few c.args.vt c.ranges.vt.fits, c.whole_length-2.ensures)

pub overflow_add-result-3 : goal.overflow_add-result-3
overflow_add-result-3 c =
    omega (arith, whole-few c.args.vt c.ranges.vt.fits, c.whole_length-2.ensures)

pub overflow_add-result-4 : goal.overflow_add-result-4
overflow_add-result-4 c =
    omega (arith, whole-few c.args.vt c.ranges.vt.fits, whole-few c.args.vn c.ranges.vn.fits, c.whole_length-2.ensures, c.whole_length-3.ensures)

pub returns : goal.returns
returns c =
    let a = c.args in
    let k = ap length (with-both a.vt a.vn c.if-vn-eq0.false c.if-vt-eq0-2.false) in
    let e = length-append (written_part a.vt) (written_part a.vn) in
    omega (arith, c.whole_length-2.ensures, c.whole_length-3.ensures)
