-- The keyword, the direction, the numbers, the line's end.
use mathlib.Core.List.{◌∷◌, map}
use native.Mathlib.Omega.{arith}
use lib.ListN.{take, drop}
use Rattle.references.specs.Written.{written_number}
use Rattle.keywords.specs.Keywords.{keyword_of}
use Rattle.keywords.specs.Arguments.{argument_bytes}
use Rattle.statements.specs.declared.Carried.TheVariants.{Parameters}
use Rattle.tidy_words.proofs.Emissions.{emitted_then, emitted-spaced, emitted-whole}
use Rattle.tidy_writer.proofs.Turns.{emitted-line}
use Rattle.tidy_writer.proofs.body.parameter_line.Goals as goal

pub emit_numbers-end-requires : goal.emit_numbers-end-requires
emit_numbers-end-requires c = omega (arith, (emitted-spaced c.emit_spaced-numbers.ensures).ends)

pub returns : goal.returns
returns c =
    let a = c.args in
    emitted-line (keyword_of Parameters) (argument_bytes a.direction ∷ map written_number (take a.count (drop a.first a.parameters.now))) (emitted-whole c.emit-words.ensures)
    (emitted_then (emitted-spaced c.emit_spaced-numbers.ensures) c.emit_numbers-end.ensures) (emitted-whole c.emit.ensures)
