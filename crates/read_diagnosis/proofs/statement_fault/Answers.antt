-- 3 and 4, and then the line.
use Rattle.read_word_checks.specs.Faults.{seen_by}
use Rattle.read_diagnosis.proofs.Steps as S
use Rattle.read_diagnosis.proofs.statement_fault.Goals as goal

pub returns-in-Carried : goal.returns-in-Carried
returns-in-Carried c = let a = c.args in S.statement-known (seen_by a.seen) a.vp.now a.form a.kind a.text.now a.key a.words _ c.keyword_at-keyword.ensures c.in-Carried.is c.word_end-at.ensures.0 c.line_fault.ensures

pub returns-in-Refused : goal.returns-in-Refused
returns-in-Refused c = let a = c.args in S.statement-refused (seen_by a.seen) a.vp.now a.form a.kind a.text.now a.key a.words _ c.keyword_at-keyword.ensures c.in-Refused.is

pub returns-in-Unknown : goal.returns-in-Unknown
returns-in-Unknown c = let a = c.args in S.statement-unknown (seen_by a.seen) a.vp.now a.form a.kind a.text.now a.key a.words _ c.keyword_at-keyword.ensures c.in-Unknown.is
