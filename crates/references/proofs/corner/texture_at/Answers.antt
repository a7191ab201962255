-- By the byte after the second part.
use mathlib.Core.Path.{◌∙◌, sym}
use mathlib.Core.Bool.{not}
use borrow.Author.Tests.{not-true, not-false}
use native.Mathlib.Omega.{arith}
use Rattle.std.proofs.lemmas.Result.{err_from_is_err_and}
use Rattle.digits.specs.Answers.{said}
use Rattle.references.proofs.Corners.{some_number}
use Rattle.references.proofs.Patterns.{texture-slash, texture-in, texture-none, texture-bad, texture-not, texture-on, texture-normal, texture-end}
use Rattle.references.proofs.corner.texture_at.Goals as goal

pub overflow_add-at : goal.overflow_add-at
overflow_add-at c =
    let a = c.args in
    let q = texture-in a.counts.vt a.counts.vn a.parts.vt a.parts.vn a.v a.text.now a.at c.byte_at.ensures c.if-byte_at-eq47.true in
    omega arith

pub normal_at-requires : goal.normal_at-requires
normal_at-requires c =
    let a = c.args in
    texture-in a.counts.vt a.counts.vn a.parts.vt a.parts.vn a.v a.text.now a.at c.byte_at.ensures c.if-byte_at-eq47.true

pub returns-then-byte_at-eq47 : goal.returns-then-byte_at-eq47
returns-then-byte_at-eq47 c =
    let a = c.args in
    texture-slash a.counts.vt a.counts.vn a.parts.vt a.parts.vn a.v a.text.now a.at c.byte_at.ensures c.if-byte_at-eq47.true (said c.normal_at.result) _ (some_number a.v) c.normal_at.ensures

pub returns-then-not-parts : goal.returns-then-not-parts
returns-then-not-parts c =
    let a = c.args in
    texture-none a.counts.vt a.counts.vn a.parts.vt a.parts.vn a.v a.text.now a.at c.byte_at.ensures c.if-byte_at-eq47.false (not-true a.parts.vt c.if-not-parts.true)

pub returns-in_err-vt : goal.returns-in_err-vt
returns-in_err-vt c =
    let a = c.args in
    let p = err_from_is_err_and c.from_residual.result c.from_residual.ensures.1 in
    let q = c.in_err-vt.ensures in
    rw (p.1, p.2, q.0) (texture-bad a.counts.vt a.counts.vn a.parts.vt a.parts.vn a.v a.text.now a.at c.byte_at.ensures c.if-byte_at-eq47.false q.1)

pub overflow_add-vt : goal.overflow_add-vt
overflow_add-vt c =
    let a = c.args in
    let q = texture-on a.counts.vt a.counts.vn a.parts.vt a.parts.vn a.v _ _ c.byte_at.ensures c.if-byte_at-eq47.false c.in_ok-vt.ensures c.byte_at-b.ensures c.if-b-eq47.true in
    omega arith

pub normal_at-requires-then-b-eq47 : goal.normal_at-requires-then-b-eq47
normal_at-requires-then-b-eq47 c =
    let a = c.args in
    texture-on a.counts.vt a.counts.vn a.parts.vt a.parts.vn a.v _ _ c.byte_at.ensures c.if-byte_at-eq47.false c.in_ok-vt.ensures c.byte_at-b.ensures c.if-b-eq47.true

pub returns-then-b-eq47 : goal.returns-then-b-eq47
returns-then-b-eq47 c =
    let a = c.args in
    texture-normal a.counts.vt a.counts.vn a.parts.vt a.parts.vn a.v _ _ c.byte_at.ensures c.if-byte_at-eq47.false c.in_ok-vt.ensures c.byte_at-b.ensures
    (not-false a.parts.vt c.if-not-parts.false) c.if-b-eq47.true (said c.normal_at-then-b-eq47.result) c.both-there.result c.both-there.ensures c.normal_at-then-b-eq47.ensures

pub returns-then-is_word : goal.returns-then-is_word
returns-then-is_word c =
    let a = c.args in
    texture-not a.counts.vt a.counts.vn a.parts.vt a.parts.vn a.v _ _ c.byte_at.ensures c.if-byte_at-eq47.false c.in_ok-vt.ensures c.byte_at-b.ensures c.if-b-eq47.false (sym c.is_word.ensures ∙ c.if-is_word.true)

pub returns : goal.returns
returns c =
    let a = c.args in
    texture-end a.counts.vt a.counts.vn a.parts.vt a.parts.vn a.v _ _ c.byte_at.ensures c.if-byte_at-eq47.false c.in_ok-vt.ensures c.byte_at-b.ensures
    (not-false a.parts.vt c.if-not-parts.false) (sym c.is_word.ensures ∙ c.if-is_word.false) (said c.made.result) c.both-there.result c.both-there.ensures c.made.ensures
