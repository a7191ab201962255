-- The length first, then the line where it has room.
use Rattle.tidy_output.proofs.Prints.{refusal-roomless, refusal-printed}
use Rattle.tidy_output.proofs.print_line.Goals as goal

pub returns-then-out-refusal_length : goal.returns-then-out-refusal_length
returns-then-out-refusal_length c = let a = c.args in refusal-roomless a.number a.place c.refusal_length.result a.out.now c.refusal_length.ensures c.if-out-refusal_length.true

pub returns : goal.returns
returns c = let a = c.args in refusal-printed a.number a.place c.refusal_length.result a.out.now c.refusal_length.ensures c.if-out-refusal_length.false c.emit_refusal.ensures
