-- The tables cleared, then 1 or what all lines come to.
use mathlib.Core.Path.{ap, ◌∙◌}
use Rattle.tables.specs.Lent.{lent_mut}
use Rattle.read_lines.specs.Answered.{rooms_of}
use Rattle.read_lines.proofs.Cleared.{cleared-blank, zeros-rooms}
use Rattle.reader.proofs.Whole.{read-too-long, read_whole}
use Rattle.reader.proofs.read.Goals as goal

pub returns-then-text-gt16777216-clause-answer : goal.returns-then-text-gt16777216-clause-answer
returns-then-text-gt16777216-clause-answer c = read-too-long c.args.text.now (lent_mut c.args.t.now) (lent_mut c.clear.new.self) c.clear.ensures.zeros c.if-text-gt16777216.true

pub returns-then-text-gt16777216-clause-lengths : goal.returns-then-text-gt16777216-clause-lengths
returns-then-text-gt16777216-clause-lengths c = ap rooms_of c.clear.ensures.zeros ∙ zeros-rooms (lent_mut c.args.t.now)

pub lines_of-requires-clause-blank : goal.lines_of-requires-clause-blank
lines_of-requires-clause-blank c = cleared-blank (lent_mut c.args.t.now) (lent_mut c.clear.new.self) c.clear.ensures.zeros

pub returns-clause-answer : goal.returns-clause-answer
returns-clause-answer c =
    read_whole c.args.text.now (lent_mut c.args.t.now) (lent_mut c.clear.new.self) c.clear.ensures.zeros c.if-text-gt16777216.false (lent_mut c.lines_of.new.t) c.lines_of.result c.lines_of.ensures.read

pub returns-clause-lengths : goal.returns-clause-lengths
returns-clause-lengths c = c.lines_of.ensures.lengths ∙ ap rooms_of c.clear.ensures.zeros ∙ zeros-rooms (lent_mut c.args.t.now)
