-- By what is held against the line.
use Prim.Native.Nat.{ℕ}
use mathlib.Core.Path.{refl, ap, ◌∙◌}
use lib.ListN.{drop}
use Rattle.text.specs.Rest.{rest_at}
use Rattle.read_word_checks.specs.Faults.{seen_by, free_fault}
use Rattle.read_word_checks.proofs.Steps as S
use Rattle.read_word_checks.proofs.held.held_fault.Goals as goal

pub returns-in-Nothing : goal.returns-in-Nothing
returns-in-Nothing c = let a = c.args in S.by-held (seen_by a.seen) a.vp.now a.form a.key (rest_at a.text.now a.at).words c.in-Nothing.is refl

pub returns-in-Corners : goal.returns-in-Corners
returns-in-Corners c = let a = c.args in S.by-held (seen_by a.seen) a.vp.now a.form a.key (rest_at a.text.now a.at).words c.in-Corners.is c.pattern_fault.ensures

pub returns-in-Body : goal.returns-in-Body
returns-in-Body c = let a = c.args in S.by-held (seen_by a.seen) a.vp.now a.form a.key (rest_at a.text.now a.at).words c.in-Body.is (c.free_fault.ensures ∙ ap (free_fault (seen_by a.seen) a.vp.now a.form a.key c.in-Body.free) (c.skip-controls.ensures.1 ∙ ap (λ (n : ℕ). drop n (rest_at a.text.now a.at).words) c.range_words.ensures))

pub returns-in-End : goal.returns-in-End
returns-in-End c = let a = c.args in S.by-held (seen_by a.seen) a.vp.now a.form a.key (rest_at a.text.now a.at).words c.in-End.is refl
