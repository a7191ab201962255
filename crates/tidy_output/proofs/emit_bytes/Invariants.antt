use Rattle.std.proofs.Common.{drop}
use Rattle.tidy_words.proofs.Emissions.{Left}
use Rattle.tidy_output.proofs.emit_bytes.Given as goal

abbrev pub invariant-loop-b : goal.invariant-loop-b
invariant-loop-b l = Left l.at l.bytes l.initial.out l.to (drop l.b-index l.bytes) l.out
