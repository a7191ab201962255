-- 11, and then 12.
use mathlib.Core.Path.{sym, ◌∙◌}
use mathlib.Core.Bool.{false}
use Rattle.text.specs.Rest.{rest_at}
use Rattle.read_word_checks.specs.declared.tests.Test.TheVariants.{Wide}
use Rattle.read_word_checks.specs.declared.tests.Tests.TheVariants.{All}
use Rattle.read_word_checks.specs.Faults.{seen_by, in_force_by, fault_in}
use Rattle.read_word_checks.proofs.Steps as S
use Rattle.read_word_checks.proofs.held.curve2_fault.Goals as goal

pub returns-then-in_force : goal.returns-then-in_force
returns-then-in_force c = let a = c.args in S.owed-is (in_force_by false a.form) 11 a.key (sym c.in_force.ensures ∙ c.if-in_force.true) c.first_fault.ensures

pub returns : goal.returns
returns c = let a = c.args in S.owed-not (in_force_by false a.form) 11 a.key (fault_in (seen_by a.seen) a.vp.now (All Wide) 0 0 (rest_at a.text.now a.at).words) (sym c.in_force.ensures ∙ c.if-in_force.false)
