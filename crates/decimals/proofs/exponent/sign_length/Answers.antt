-- By the byte.
use mathlib.Core.Path.{refl}
use mathlib.Core.Logic.{⊎_elim}
use Rattle.std.proofs.Common.{rules, tests}
use Rattle.decimals.proofs.exponent.sign_length.Goals as goal

pub returns-in-43 : goal.returns-in-43
returns-in-43 c = ⊎_elim (λ h. rw h refl) (λ h. rw h refl) c.in-43.is

pub returns-in_default : goal.returns-in_default
returns-in_default c = search (tests, rules)
