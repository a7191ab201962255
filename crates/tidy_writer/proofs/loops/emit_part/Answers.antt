-- Three words, one after the other.
use Rattle.std.proofs.Common.{◌∷◌, ℤ, ap, arith}
use Rattle.tables.proofs.Bits.{fitted}
use Rattle.references.specs.Written.{written_whole, written_number}
use Rattle.tidy_words.proofs.Emissions.{emitted_then, emitted-is, emitted-spaced}
use Rattle.tidy_writer.proofs.Turns.{three-spaced}
use Rattle.tidy_writer.proofs.loops.emit_part.Goals as goal

pub returns : goal.returns
returns c =
    let p = c.args.part in
    let x = ap (λ (z : ℤ). 32 ∷ written_number z) (fitted {z = p.from} (omega arith)) in
    let y = ap (λ (z : ℤ). 32 ∷ written_number z) (fitted {z = p.to} (omega arith)) in
    emitted-is (three-spaced (written_number p.from) (written_number p.to) (written_whole p.curve))
    (emitted_then (emitted-is x (emitted-spaced c.emit_spaced-to.ensures))
    (emitted_then (emitted-is y (emitted-spaced c.emit_spaced-curve.ensures)) (emitted-spaced c.emit_spaced.ensures)))
