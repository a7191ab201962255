-- By what the line goes on with.
use mathlib.Core.Path.{sym, ap, ◌∙◌}
use native.Mathlib.Omega.{arith}
use Rattle.read_word_checks.specs.Faults.{seen_by, pattern_fault}
use Rattle.read_word_checks.proofs.Walks as W
use Rattle.read_word_checks.proofs.held.pattern_fault.Goals as goal

pub pattern_from-requires : goal.pattern_from-requires
pattern_from-requires c =
    let more = c.in-Start.ensures.more in
    let to = c.in-Start.ensures.to in
    record { at_in_bounds = omega arith; end_in_bounds = to }

pub returns-in-Start : goal.returns-in-Start
returns-in-Start c = let a = c.args in c.pattern_from.ensures ∙ sym (ap (pattern_fault (seen_by a.seen) a.vp.now a.parts.vt a.parts.vn) (W.start-words a.text.now a.at c.in-Start.ensures))

pub returns-in-End : goal.returns-in-End
returns-in-End c = let a = c.args in sym (ap (pattern_fault (seen_by a.seen) a.vp.now a.parts.vt a.parts.vn) (W.end-words a.text.now a.at c.in-End.ensures))

pub returns-in-Bad : goal.returns-in-Bad
returns-in-Bad c = let a = c.args in sym (ap (pattern_fault (seen_by a.seen) a.vp.now a.parts.vt a.parts.vn) c.in-Bad.ensures.no_words)
