-- A corner that breaks a rule, or every corner passed.
use Rattle.std.proofs.Common.{◌≡◌, false, sym, arith, rules}
use Rattle.tables.specs.Lent.{lent}
use Rattle.record_rules.proofs.EachCorner.{at_corner, each-fails, each_holds}
use Rattle.record_rules.proofs.corners.each_corner.Goals as goal

pub returns-then-not-corner_obeys : goal.returns-then-not-corner_obeys
returns-then-not-corner_obeys c =
    let s = c.args in
    let broken : at_corner s.used (lent s.t.now) s.kind s.run c.loop-k.k ≡ false = search rules in
    sym (each-fails s.used (lent s.t.now) s.kind s.run c.loop-k.k (omega arith) broken)

pub returns : goal.returns
returns c =
    let s = c.args in
    sym (each_holds s.used (lent s.t.now) s.kind s.run c.loop-k.k c.loop-k.invariant (omega arith) (omega arith))
