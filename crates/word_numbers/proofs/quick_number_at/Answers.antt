-- The sign apart, what was read straight ahead is the magnitude, and within the range it is exact.
use Prim.Native.Nat.{ℕ, ◌+◌, ◌*◌}
use mathlib.Core.Path.{subst, ap, ◌∙◌}
use lib.Dec.{eqb}
use lib.ListN.{drop}
use native.Mathlib.Omega.{arith}
use mir.Facts.{to_z-of_z}
use mir.Syntax.{w32}
use Rattle.text.specs.Words.{word_of}
use Rattle.text.specs.Rest.{end_of}
use Rattle.digits.specs.Answers.{ends_at}
use Rattle.decimals.specs.Straight.{magnitude_of, size_of, MantissaAhead}
use Rattle.std.proofs.lemmas.Result.{err_from_is_err_and}
use Rattle.refusals.specs.Reasons.{reason_number}
use Rattle.digits.specs.Said.{says, wrong}
use Rattle.word_numbers.specs.Answers.{ExactIs}
use Rattle.decimals.proofs.Signed.{sign-most}
use Rattle.word_numbers.proofs.Numbers.{number-not, number_read}
use Rattle.word_numbers.proofs.Decimals.{size-plain, size-scaled}
use Rattle.word_numbers.proofs.Ahead.{settle-exact}
use Rattle.decimals.proofs.Ahead.{ahead-no-decimal}
use Rattle.word_numbers.proofs.quick_number_at.Goals as goal

pub overflow_add-start : goal.overflow_add-start
overflow_add-start c =
    let m = sign-most c.byte_in-b.result c.sign_length.result c.sign_length.ensures in
    let p = c.if-text-at-gt12.true in
    omega arith

pub measure_ahead-requires : goal.measure_ahead-requires
measure_ahead-requires c =
    let m = sign-most c.byte_in-b.result c.sign_length.result c.sign_length.ensures in
    let p = c.if-text-at-gt12.true in
    omega arith

pub returns-then-millionths-le2000000000 : goal.returns-then-millionths-le2000000000
returns-then-millionths-le2000000000 c =
    let s = c.args.text.now in
    let at = c.args.at + c.sign_length.result in
    let q =
    subst (ExactIs (at + 11) (ends_at (magnitude_of (word_of (drop at s))) (end_of s at)) (MantissaAhead s at)) c.in-Of.is c.measure_ahead.ensures in
    let l = sign-most c.byte_in-b.result c.sign_length.result c.sign_length.ensures in
    let far = q.1 in
    number_read c.args.text.now c.args.at c.byte_in-b.result c.sign_length.result c.requires c.byte_in-b.ensures c.sign_length.ensures (10 * c.in-Of.millionths) c.in-Of.end (size-plain (word_of (drop at s)) (10 * c.in-Of.millionths) c.in-Of.end (end_of s at) q.0) (omega arith) _
    (settle-exact (eqb c.byte_in-b.result 45) c.in-Of.millionths c.in-Of.end _ c.if-millionths-le2000000000.true
    (to_z-of_z {w = w32} {z = c.signed_of.result} (record { sfits = c.signed_of.type_inv }) ∙ c.signed_of.ensures))

pub shifted-requires : goal.shifted-requires
shifted-requires c =
    let s = c.args.text.now in
    let at = c.args.at + c.sign_length.result in
    subst (ExactIs (at + 11) (ends_at (magnitude_of (word_of (drop at s))) (end_of s at)) (MantissaAhead s at)) c.in-Scaled.is c.measure_ahead.ensures

pub settled-requires : goal.settled-requires
settled-requires c =
    let s = c.args.text.now in
    let at = c.args.at + c.sign_length.result in
    let q =
    subst (ExactIs (at + 11) (ends_at (magnitude_of (word_of (drop at s))) (end_of s at)) (MantissaAhead s at)) c.in-Scaled.is c.measure_ahead.ensures in record {
      at_in_bounds = (c.requires, c.byte_in-b.ensures);
      size_value = size-scaled (word_of (drop at s)) 6 (end_of s at) (says (c.in_ok-size-in-Scaled.size.value, c.in_ok-size-in-Scaled.size.next)) (ahead-no-decimal s at c.in-Scaled.millionths c.in-Scaled.end q) c.in_ok-size-in-Scaled.ensures
          ∙ ap (λ (i : ℕ). ends_at (size_of (word_of (drop (c.args.at + i) s))) (end_of s (c.args.at + i))) c.sign_length.ensures;
    }

pub returns-in_err-size-in-Scaled : goal.returns-in_err-size-in-Scaled
returns-in_err-size-in-Scaled c =
    let s = c.args.text.now in
    let at = c.args.at + c.sign_length.result in
    let q =
    subst (ExactIs (at + 11) (ends_at (magnitude_of (word_of (drop at s))) (end_of s at)) (MantissaAhead s at)) c.in-Scaled.is c.measure_ahead.ensures in
    let p = err_from_is_err_and c.from_residual.result c.from_residual.ensures.1 in
    rw (p.1, p.2)
    (number-not s c.args.at c.byte_in-b.result c.sign_length.result c.requires c.byte_in-b.ensures c.sign_length.ensures _
    (size-scaled (word_of (drop at s)) 6 (end_of s at) (wrong (reason_number c.in_err-size-in-Scaled.field-0.0)) (ahead-no-decimal s at c.in-Scaled.millionths c.in-Scaled.end q) c.in_err-size-in-Scaled.ensures))
