-- The elements from the one that the loop has come to are left.
use Rattle.std.proofs.Common.{◌-◌}
use Rattle.tables.specs.Lent.{lent}
use Rattle.tidy_words.proofs.Emissions.{Left}
use Rattle.tidy_writer.proofs.ElementTurns.{onward}
use Rattle.tidy_writer.proofs.elements.elements_lines.Given as goal

abbrev pub invariant-loop-number : goal.invariant-loop-number
invariant-loop-number l =
    Left l.at (onward l.text l.used (lent l.t) l.used.elements 0) l.initial.out l.end (onward l.text l.used (lent l.t) (l.used.elements - l.number) l.number) l.out
