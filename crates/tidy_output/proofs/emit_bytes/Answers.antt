-- What is left of the bytes comes to all of them.
use Rattle.std.proofs.Common.{arith}
use lib.ListN.{drop_of_length-le}
use Rattle.text.proofs.Places.{here}
use Rattle.tidy_words.proofs.Emissions.{left-start, left-turn, left-ends, emitted-whole}
use Rattle.tidy_output.proofs.emit_bytes.Goals as goal

pub loop-b-init : goal.loop-b-init
loop-b-init c = let a = c.args in left-start a.at a.bytes.now a.out.now c.requires

pub loop-b-preserved : goal.loop-b-preserved
loop-b-preserved c = left-turn c.loop-b.invariant (here c.args.bytes.now c.loop-b.b-index (omega arith)) (emitted-whole c.emit-to.ensures)

pub returns : goal.returns
returns c = left-ends c.loop-b.invariant (drop_of_length-le c.args.bytes.now (omega arith))
