-- By the arm.
use Rattle.keyword_rules.proofs.form_number.Goals as goal

pub returns-in-Corner : goal.returns-in-Corner
returns-in-Corner c = rw c.in-Corner.is c.corner_number.ensures
