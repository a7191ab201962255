-- By the arm.
use mathlib.Core.Path.{refl}
use Rattle.statements.proofs.rules.control_form.Goals as goal

pub returns-in-Curve : goal.returns-in-Curve
returns-in-Curve c = rw c.in-Curve.is refl

pub returns-in-Surface : goal.returns-in-Surface
returns-in-Surface c = rw c.in-Surface.is refl
