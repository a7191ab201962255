-- By the kind of the element.
use Rattle.text.specs.Rest.{rest_at}
use Rattle.read_word_checks.specs.Faults.{seen_by}
use Rattle.read_word_checks.proofs.Steps as S
use Rattle.read_word_checks.proofs.held.free_fault.Goals as goal

pub returns-in-Curve : goal.returns-in-Curve
returns-in-Curve c = let a = c.args in S.by-free (seen_by a.seen) a.vp.now a.form a.key (rest_at a.text.now a.at).words c.in-Curve.is c.body_fault.ensures

pub returns-in-Curve2 : goal.returns-in-Curve2
returns-in-Curve2 c = let a = c.args in S.by-free (seen_by a.seen) a.vp.now a.form a.key (rest_at a.text.now a.at).words c.in-Curve2.is c.curve2_fault.ensures

pub returns-in-Surface : goal.returns-in-Surface
returns-in-Surface c = let a = c.args in S.by-free (seen_by a.seen) a.vp.now a.form a.key (rest_at a.text.now a.at).words c.in-Surface.is c.body_fault-in-Surface.ensures
