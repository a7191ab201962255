-- 10, 5, and then the words.
use mathlib.Core.Path.{ap}
use mathlib.Core.Bool.{not}
use borrow.Author.Tests.{not-true, not-false}
use Rattle.text.specs.Rest.{rest_at}
use Rattle.read_word_checks.specs.Faults.{seen_by}
use Rattle.read_diagnosis.proofs.Steps as S
use Rattle.read_diagnosis.proofs.line_fault.Goals as goal

pub returns-then-not-allowed : goal.returns-then-not-allowed
returns-then-not-allowed c =
    let a = c.args in
    let ws = (rest_at a.text.now a.at).words in
    S.line-out (seen_by a.seen) a.vp.now a.form a.kind a.key a.statement a.words ws _ c.rules_of-rules.ensures c.says_v-v.ensures c.allowed.ensures (not-true _ (ap not c.if-not-allowed.true))

pub returns-then-not-counted : goal.returns-then-not-counted
returns-then-not-counted c =
    let a = c.args in
    let ws = (rest_at a.text.now a.at).words in
    S.line-count (seen_by a.seen) a.vp.now a.form a.kind a.key a.statement a.words ws _ c.rules_of-rules.ensures c.says_v-v.ensures c.allowed.ensures (not-false _ (ap not c.if-not-allowed.false)) c.counted.ensures (not-true _ (ap not c.if-not-counted.true))

pub returns : goal.returns
returns c =
    let a = c.args in
    let ws = (rest_at a.text.now a.at).words in
    S.line-goes (seen_by a.seen) a.vp.now a.form a.kind a.key a.statement a.words ws _ c.rules_of-rules.ensures c.says_v-v.ensures c.allowed.ensures (not-false _ (ap not c.if-not-allowed.false)) c.counted.ensures (not-false _ (ap not c.if-not-counted.false)) c.words_fault.ensures
