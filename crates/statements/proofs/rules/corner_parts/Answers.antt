-- By the arm.
use mathlib.Core.Path.{refl}
use Rattle.statements.proofs.rules.corner_parts.Goals as goal

pub returns-in-Point : goal.returns-in-Point
returns-in-Point c = rw c.in-Point.is refl

pub returns-in-Line : goal.returns-in-Line
returns-in-Line c = rw c.in-Line.is refl

pub returns-in-Face : goal.returns-in-Face
returns-in-Face c = rw c.in-Face.is refl
