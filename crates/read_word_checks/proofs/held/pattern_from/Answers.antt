-- By the first corner.
use native.Mathlib.Omega.{arith}
use Rattle.read_word_checks.specs.Faults.{seen_by}
use Rattle.read_word_checks.proofs.Steps as S
use Rattle.read_word_checks.proofs.held.pattern_from.Goals as goal

pub first_fault-requires : goal.first_fault-requires
first_fault-requires c =
    let a = c.args in
    let e = S.pattern-end (seen_by a.seen) a.vp.now a.parts a.text.now a.at c.in-Ok.ensures in
    let p = c.requires.end_in_bounds in
    omega arith

pub returns : goal.returns
returns c =
    let a = c.args in
    S.pattern-found (seen_by a.seen) a.vp.now a.parts a.text.now a.at c.in-Ok.ensures c.first_fault.ensures

pub returns-in_default : goal.returns-in_default
returns-in_default c =
    let a = c.args in
    S.pattern-none (seen_by a.seen) a.vp.now a.parts a.text.now a.at c.in_default.ensures
