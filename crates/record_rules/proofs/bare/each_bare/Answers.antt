-- A corner that breaks a rule, or every corner passed.
use Rattle.std.proofs.Common.{◌≡◌, sym, arith, rules}
use Rattle.record_rules.proofs.Below.{below_more}
use Rattle.record_rules.proofs.EachBare.{at_bare, bare-here, bare-fails, bare-holds}
use Rattle.record_rules.proofs.bare.each_bare.Goals as goal

pub returns-then-not-bare_corner : goal.returns-then-not-bare_corner
returns-then-not-bare_corner c =
    let s = c.args in
    let here : c.bare_corner.result ≡ at_bare s.values.now s.used s.corners.now s.run c.loop-k.k = bare-here s.values.now s.used s.corners.now s.run _ c.reach-reach.ensures c.loop-k.k (rw c.lent_corner.ensures at c.bare_corner.ensures) in
    sym (bare-fails s.values.now s.used s.corners.now s.run c.loop-k.k (omega arith) (search rules))

pub loop-k-preserved : goal.loop-k-preserved
loop-k-preserved c =
    let s = c.args in
    let here : c.bare_corner.result ≡ at_bare s.values.now s.used s.corners.now s.run c.loop-k.k = bare-here s.values.now s.used s.corners.now s.run _ c.reach-reach.ensures c.loop-k.k (rw c.lent_corner.ensures at c.bare_corner.ensures) in
    below_more (at_bare s.values.now s.used s.corners.now s.run) c.loop-k.k c.loop-k.invariant (search rules)

pub returns : goal.returns
returns c =
    let s = c.args in
    sym (bare-holds s.values.now s.used s.corners.now s.run c.loop-k.k c.loop-k.invariant (omega arith) (omega arith))
