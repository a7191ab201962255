-- The sign apart, the word is what `size` finds.
use Prim.Native.Nat.{ℕ, ◌+◌}
use mathlib.Core.Path.{◌∙◌, ap}
use lib.ListN.{drop}
use native.Mathlib.Omega.{arith}
use Rattle.text.specs.Words.{word_of}
use Rattle.text.specs.Rest.{end_of}
use Rattle.digits.specs.Answers.{ends_at}
use Rattle.decimals.specs.Straight.{size_of}
use Rattle.decimals.proofs.Signed.{sign_fits}
use Rattle.std.proofs.lemmas.Result.{err_from_is_err_and}
use Rattle.word_numbers.proofs.Numbers.{number-not}
use Rattle.word_numbers.proofs.number_at.Goals as goal

pub overflow_add-at : goal.overflow_add-at
overflow_add-at c =
    let q = sign_fits c.args.text.now c.args.at c.byte_at-b.result c.sign_length.result c.requires c.byte_at-b.ensures c.sign_length.ensures in
    omega arith

pub size-requires : goal.size-requires
size-requires c =
    sign_fits c.args.text.now c.args.at c.byte_at-b.result c.sign_length.result c.requires c.byte_at-b.ensures c.sign_length.ensures

pub settled-requires : goal.settled-requires
settled-requires c =
    let s = c.args.text.now in
    record { at_in_bounds = (c.requires, c.byte_at-b.ensures); size_value = c.in_ok-size.ensures ∙ ap (λ (i : ℕ). ends_at (size_of (word_of (drop (c.args.at + i) s))) (end_of s (c.args.at + i))) c.sign_length.ensures }

pub returns-in_err-size : goal.returns-in_err-size
returns-in_err-size c =
    let p = err_from_is_err_and c.from_residual.result c.from_residual.ensures.1 in
    rw (p.1, p.2)
    (number-not c.args.text.now c.args.at c.byte_at-b.result c.sign_length.result c.requires c.byte_at-b.ensures c.sign_length.ensures _ c.in_err-size.ensures)
