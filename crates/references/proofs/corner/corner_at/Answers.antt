-- By the byte after the first part.
use mathlib.Core.Path.{◌∙◌, sym}
use native.Mathlib.Omega.{arith}
use Rattle.std.proofs.lemmas.Result.{err_from_is_err_and}
use Rattle.digits.specs.Answers.{said}
use Rattle.references.proofs.Corners.{some_number, counts}
use Rattle.references.proofs.Patterns.{corner-bad, corner-not, corner-in, corner-slash, corner-end}
use Rattle.references.proofs.corner.corner_at.Goals as goal

pub returns-in_err-v : goal.returns-in_err-v
returns-in_err-v c =
    let p = err_from_is_err_and c.from_residual.result c.from_residual.ensures.1 in
    let q = c.in_err-v.ensures in
    rw (p.1, p.2, q.0) (corner-bad (counts c.args.counts) c.args.parts c.args.text.now c.args.at q.1)

pub overflow_add-v : goal.overflow_add-v
overflow_add-v c =
    let q = corner-in (counts c.args.counts) c.args.parts _ _ c.in_ok-v.ensures c.byte_at-b.ensures c.if-b-eq47.true in
    omega arith

pub texture_at-requires : goal.texture_at-requires
texture_at-requires c = corner-in (counts c.args.counts) c.args.parts _ _ c.in_ok-v.ensures c.byte_at-b.ensures c.if-b-eq47.true

pub returns-then-b-eq47 : goal.returns-then-b-eq47
returns-then-b-eq47 c =
    corner-slash (counts c.args.counts) c.args.parts _ _ c.in_ok-v.ensures c.byte_at-b.ensures c.if-b-eq47.true (said c.texture_at.result) c.texture_at.ensures

pub returns-then-is_word : goal.returns-then-is_word
returns-then-is_word c =
    corner-not (counts c.args.counts) c.args.parts _ _ c.in_ok-v.ensures c.byte_at-b.ensures c.if-b-eq47.false (sym c.is_word.ensures ∙ c.if-is_word.true)

pub returns : goal.returns
returns c =
    corner-end (counts c.args.counts) c.args.parts _ _ c.in_ok-v.ensures c.byte_at-b.ensures (sym c.is_word.ensures ∙ c.if-is_word.false) (said c.made.result) _ (some_number c.in_ok-v.v.value) c.made.ensures
