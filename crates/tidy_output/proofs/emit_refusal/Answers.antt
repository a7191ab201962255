-- The words and numbers of the line, one after the other.
use Rattle.std.proofs.Common.{arith}
use Rattle.tidy_output.specs.Output.{refusal_line}
use Rattle.tidy_words.proofs.Emissions.{emitted_then, emitted-whole, emitted-spaced}
use Rattle.tidy_output.proofs.emit_refusal.Goals as goal

pub emit_bytes-third-requires : goal.emit_bytes-third-requires
emit_bytes-third-requires c = omega (arith, (emitted-spaced c.emit_spaced-second.ensures).ends)

pub returns : goal.returns
unfolding refusal_line
returns c =
    emitted_then c.emit_bytes-first.ensures (emitted_then (emitted-spaced c.emit_spaced-second.ensures)
    (emitted_then c.emit_bytes-third.ensures (emitted_then (emitted-spaced c.emit_spaced-fourth.ensures) (emitted-whole c.emit.ensures))))
