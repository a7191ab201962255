-- By what the line goes on with after its first word.
use native.Mathlib.Omega.{arith}
use borrow.Author.Rules.{rules}
use Rattle.text.specs.Rest.{rest_at}
use Rattle.read_settings.proofs.Lines as L
use Rattle.read_settings.proofs.words.words_after.Goals as goal

pub word_end-requires : goal.word_end-requires
word_end-requires c =
    let more = c.in-Start.ensures.more in
    let to = c.in-Start.ensures.to in
    omega arith

pub overflow_add-result : goal.overflow_add-result
overflow_add-result c =
    let a = c.args in
    let m = L.scanned-ok _ c.scan_line.ensures c.in_ok-others-in-Start.ensures.value in
    let small = L.line_small a.text.now a.first a.at c.requires.0 c.requires.1 c.in-Start.ensures c.word_end.ensures.0 m in
    search rules

pub returns-in-End : goal.returns-in-End
returns-in-End c = let a = c.args in L.line-one a.text.now a.first a.at c.requires.0 c.requires.1 c.in-End.ensures

pub returns-in_ok-others-in-Start : goal.returns-in_ok-others-in-Start
returns-in_ok-others-in-Start c =
    let a = c.args in
    let m = L.scanned-ok _ c.scan_line.ensures c.in_ok-others-in-Start.ensures.value in
    L.line-more a.text.now a.first a.at c.requires.0 c.requires.1 c.in-Start.ensures c.word_end.ensures.0 m

pub returns-in_err-others-in-Start : goal.returns-in_err-others-in-Start
returns-in_err-others-in-Start c =
    let a = c.args in
    let m = L.scanned-err _ c.scan_line.ensures c.in_err-others-in-Start.ensures.value in
    rw c.from_residual.ensures (L.line-spoilt a.text.now a.first a.at c.requires.0 c.requires.1 c.in-Start.ensures c.word_end.ensures.0 m.1)

pub returns-in-Bad : goal.returns-in-Bad
returns-in-Bad c = let a = c.args in L.bad-line (rest_at a.text.now a.at).bad c.in-Bad.ensures.bad-at
