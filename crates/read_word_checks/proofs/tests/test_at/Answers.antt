-- By the arm.
use mathlib.Core.Path.{ap}
use Rattle.read_word_checks.specs.declared.tests.Test.TheVariants.{Form}
use Rattle.read_word_checks.proofs.tests.test_at.Goals as goal

pub returns-in-Each : goal.returns-in-Each
returns-in-Each c = rw c.in-Each.is (ap Form c.form_at.ensures)
