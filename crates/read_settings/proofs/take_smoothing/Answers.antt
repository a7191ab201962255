-- By the count of the words, and by what the one word says.
use lib.ListN.{drop}
use Rattle.text.specs.Words.{word_of}
use Rattle.text.specs.Rest.{rest_at, end_of}
use Rattle.statements.specs.declared.Carried.TheVariants.{Smoothing}
use Rattle.statements.proofs.RowLaws.{row-counted}
use Rattle.digits.specs.Degree.{smoothing_of}
use Rattle.read_state.proofs.Read.{read-says, read-wrong}
use Rattle.read_settings.specs.Steps.{smoothing_words}
use Rattle.read_settings.proofs.Lines as L
use Rattle.read_settings.proofs.take_smoothing.Goals as goal

pub returns-in_err-line : goal.returns-in_err-line
returns-in_err-line c =
    let a = c.args in
    let r = rest_at a.text.now a.at in
    rw c.from_residual.ensures (L.row-refused Smoothing r (λ ws. smoothing_words a.names ws r.next) _ c.smoothing_rules-rules.ensures c.in_err-line.ensures)

pub smoothing_at-requires : goal.smoothing_at-requires
smoothing_at-requires c = c.in_ok-line.ensures.0.first-in

pub returns-in_err-smoothing : goal.returns-in_err-smoothing
returns-in_err-smoothing c =
    let a = c.args in
    let l = c.in_ok-line.line in
    let w = c.in_ok-line.ensures in
    let x = read-wrong (smoothing_of (word_of (drop l.first a.text.now))) (end_of a.text.now l.first) _ c.smoothing_at.ensures c.in_err-smoothing.ensures.value in
    rw c.from_residual-in_err-smoothing.ensures (L.smoothing-not a.text.now _ _ _ _ _ w.0 a.names (row-counted Smoothing l.count c.smoothing_rules-rules.ensures w.1) x.1)

pub returns : goal.returns
returns c =
    let a = c.args in
    let l = c.in_ok-line.line in
    let w = c.in_ok-line.ensures in
    let x = read-says (smoothing_of (word_of (drop l.first a.text.now))) (end_of a.text.now l.first) _ c.smoothing_at.ensures c.in_ok-smoothing.ensures.value in
    L.smoothing-is a.text.now _ _ _ _ _ w.0 a.names (row-counted Smoothing l.count c.smoothing_rules-rules.ensures w.1) _ x.0
