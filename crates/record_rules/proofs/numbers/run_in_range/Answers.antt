-- The run is not lent, or a number of it is out of range, or each one passed is in range.
use Rattle.std.proofs.Common.{◌≡◌, ◌+◌, false, sym, get_or, pos, arith, rules}
use Rattle.record_rules.specs.Numbers.{in_range}
use Rattle.record_rules.proofs.Runs.{run-fails, run_holds}
use Rattle.record_rules.proofs.numbers.run_in_range.Goals as goal

pub returns-then-not-in_range : goal.returns-then-not-in_range
returns-then-not-in_range c =
    let s = c.args in
    let out : in_range (get_or s.values.now (s.first + c.loop-k.k) (pos 0)) ≡ false = search rules in
    sym (run-fails s.values.now s.first s.count c.loop-k.k (omega arith) out)

pub returns : goal.returns
returns c =
    let s = c.args in
    sym (run_holds s.values.now s.first s.count c.loop-k.k (omega arith) c.loop-k.invariant (omega arith) (omega arith))
