-- By the count of the words, and by what each says.
use lib.ListN.{drop}
use Rattle.text.specs.Words.{word_of}
use Rattle.text.specs.Rest.{rest_at, end_of}
use Rattle.statements.specs.declared.Carried.TheVariants.{Degree}
use Rattle.statements.proofs.RowLaws.{row-counted}
use Rattle.digits.specs.Degree.{degree_of}
use Rattle.read_state.proofs.Read.{read-says, read-wrong}
use Rattle.read_settings.specs.Steps.{degrees_from, second_said, second_end}
use Rattle.read_settings.proofs.Lines as L
use Rattle.read_settings.proofs.take_degree.Goals as goal

pub returns-in_err-line : goal.returns-in_err-line
returns-in_err-line c =
    let a = c.args in
    let r = rest_at a.text.now a.at in
    rw c.from_residual.ensures (L.row-refused Degree r (λ ws. degrees_from a.form ws r.next) _ c.degree_rules-rules.ensures c.in_err-line.ensures)

pub degree_at-requires : goal.degree_at-requires
degree_at-requires c = c.in_ok-line.ensures.0.first-in

pub second_degree-requires : goal.second_degree-requires
second_degree-requires c = c.in_ok-line.ensures.0.second-in

pub returns-in_err-degree_u : goal.returns-in_err-degree_u
returns-in_err-degree_u c =
    let a = c.args in
    let l = c.in_ok-line.line in
    let w = c.in_ok-line.ensures in
    let x = read-wrong (degree_of (word_of (drop l.first a.text.now))) (end_of a.text.now l.first) _ c.degree_at.ensures c.in_err-degree_u.ensures.value in
    rw c.from_residual-in_err-degree_u.ensures (L.degree-wrong a.text.now _ _ _ _ _ w.0 a.form (row-counted Degree l.count c.degree_rules-rules.ensures w.1) x.1)

pub returns-in_err-degree_v : goal.returns-in_err-degree_v
returns-in_err-degree_v c =
    let a = c.args in
    let s = a.text.now in
    let l = c.in_ok-line.line in
    let w = c.in_ok-line.ensures in
    let x = read-says (degree_of (word_of (drop l.first s))) (end_of s l.first) _ c.degree_at.ensures c.in_ok-degree_u.ensures.value in
    let y = read-wrong (second_said s l.second l.count) (second_end s l.second l.count) _ c.second_degree.ensures c.in_err-degree_v.ensures.value in
    rw c.from_residual-in_err-degree_v.ensures (L.degree-second s _ _ _ _ _ w.0 a.form (row-counted Degree l.count c.degree_rules-rules.ensures w.1) _ x.0 y.1)

pub returns : goal.returns
returns c =
    let a = c.args in
    let s = a.text.now in
    let l = c.in_ok-line.line in
    let w = c.in_ok-line.ensures in
    let x = read-says (degree_of (word_of (drop l.first s))) (end_of s l.first) _ c.degree_at.ensures c.in_ok-degree_u.ensures.value in
    let y = read-says (second_said s l.second l.count) (second_end s l.second l.count) _ c.second_degree.ensures c.in_ok-degree_v.ensures.value in
    L.degree-second s _ _ _ _ _ w.0 a.form (row-counted Degree l.count c.degree_rules-rules.ensures w.1) _ x.0 y.0
