-- By the test: its own function finds the fault.
use Rattle.text.specs.Rest.{word_at}
use Rattle.read_word_checks.specs.Faults.{seen_by}
use Rattle.read_word_checks.proofs.Words.{by-test}
use Rattle.read_word_checks.proofs.word.word_fault.Goals as goal

pub returns-in-Form : goal.returns-in-Form
returns-in-Form c = let a = c.args in by-test (seen_by a.seen) a.vp.now (word_at a.text.now a.at) c.in-Form.is c.form_fault.ensures

pub returns-in-Alike : goal.returns-in-Alike
returns-in-Alike c = let a = c.args in by-test (seen_by a.seen) a.vp.now (word_at a.text.now a.at) c.in-Alike.is c.alike_fault.ensures

pub returns-in-Wide : goal.returns-in-Wide
returns-in-Wide c = let a = c.args in by-test (seen_by a.seen) a.vp.now (word_at a.text.now a.at) c.in-Wide.is c.wide_fault.ensures
