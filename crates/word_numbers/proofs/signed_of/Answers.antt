-- A number within range fits with either sign.
use mathlib.Core.Path.{◌∙◌, sym, ap}
use mathlib.Core.Bool.{Bool}
use Rattle.lists.specs.Signs.{with_sign}
use Rattle.word_numbers.proofs.Signs.{reads, minus-fits, minus-back}
use Rattle.word_numbers.proofs.signed_of.Goals as goal

pub overflow_sub-result : goal.overflow_sub-result
overflow_sub-result c = minus-fits c.args.m c.requires

pub returns-then-minus : goal.returns-then-minus
returns-then-minus c =
    minus-back c.args.m c.requires ∙ sym (ap (λ (b : Bool). with_sign b c.args.m) c.if-minus.true)

pub returns-else-minus : goal.returns-else-minus
returns-else-minus c =
    reads c.args.m c.requires ∙ sym (ap (λ (b : Bool). with_sign b c.args.m) c.if-minus.false)
