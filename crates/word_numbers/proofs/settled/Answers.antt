-- By the bytes of the word.
use mathlib.Core.Path.{refl}
use mathlib.Core.Bool.{cond}
use Rattle.decimals.specs.Number.{is_sign}
use Rattle.digits.specs.Answers.{said}
use Rattle.word_numbers.proofs.Numbers.{number-from, number-over, number_read}
use Rattle.word_numbers.proofs.settled.Goals as goal

pub overflow_sub-size : goal.overflow_sub-size
overflow_sub-size c =
    number-from c.args.text.now c.args.at c.args.b (cond (is_sign c.args.b) 1 0) c.requires.at_in_bounds.0 c.requires.at_in_bounds.1 refl c.args.size.value c.args.size.next c.requires.size_value

pub returns-then-size-at-gt64 : goal.returns-then-size-at-gt64
returns-then-size-at-gt64 c =
    number-over c.args.text.now c.args.at c.args.b (cond (is_sign c.args.b) 1 0) c.requires.at_in_bounds.0 c.requires.at_in_bounds.1 refl c.args.size.value c.args.size.next c.requires.size_value c.if-size-at-gt64.true

pub returns : goal.returns
returns c =
    number_read c.args.text.now c.args.at c.args.b (cond (is_sign c.args.b) 1 0) c.requires.at_in_bounds.0 c.requires.at_in_bounds.1 refl c.args.size.value c.args.size.next c.requires.size_value c.if-size-at-gt64.false (said c.settle.result) c.settle.ensures
