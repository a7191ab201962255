-- A part that breaks a rule, or every part passed.
use Rattle.std.proofs.Common.{◌≡◌, [], false, sym, arith, rules}
use Rattle.tables.specs.Tables.{tables}
use Rattle.record_rules.proofs.EachPart.{at_part, part-fails, part-holds}
use Rattle.record_rules.proofs.loops.each_part.Goals as goal

pub returns-then-not-part_obeys : goal.returns-then-not-part_obeys
returns-then-not-part_obeys c =
    let s = c.args in
    let t = tables [] [] [] [] [] [] [] [] [] s.loops.now s.spans.now in
    let broken : at_part t s.curves s.first c.loop-k.k ≡ false = search rules in
    sym (part-fails t s.curves s.first s.count c.loop-k.k (omega arith) broken)

pub returns : goal.returns
returns c =
    let s = c.args in
    let t = tables [] [] [] [] [] [] [] [] [] s.loops.now s.spans.now in
    sym (part-holds t s.curves s.first s.count c.loop-k.k c.loop-k.invariant (omega arith) (omega arith))
