-- What `numbers_into` found is closed and long enough, or not (`Rows`).
use Rattle.read_vertices.proofs.Rows as R
use Rattle.read_vertices.proofs.row_into.Goals as goal

pub returns-in_err-count : goal.returns-in_err-count
returns-in_err-count c =
    let a = c.args in
    rw c.from_residual.ensures (R.no_row a.least a.most a.text.now a.at a.first a.table.now _ c.in_err-count.ensures)

pub returns-then-count-least : goal.returns-then-count-least
returns-then-count-least c =
    let a = c.args in
    R.row-few a.least a.most a.text.now a.at a.first a.table.now _ (R.is-ended a.least a.most a.text.now a.at a.first a.table.now _ c.in_ok-count.ensures c.in-Ended.is) c.if-count-least.true

pub returns-else-count-least : goal.returns-else-count-least
returns-else-count-least c =
    let a = c.args in
    R.row-ended a.least a.most a.text.now a.at a.first a.table.now _ (R.is-ended a.least a.most a.text.now a.at a.first a.table.now _ c.in_ok-count.ensures c.in-Ended.is) c.if-count-least.false

pub returns-then-most-least : goal.returns-then-most-least
returns-then-most-least c =
    let a = c.args in
    R.full-few a.least a.most a.text.now a.at a.first a.table.now _ (R.is-full a.least a.most a.text.now a.at a.first a.table.now _ c.in_ok-count.ensures c.in-Full.is) c.if-most-least.true

pub skip_blanks-requires : goal.skip_blanks-requires
skip_blanks-requires c =
    let a = c.args in
    (R.is-full a.least a.most a.text.now a.at a.first a.table.now _ c.in_ok-count.ensures c.in-Full.is).to

pub returns-in-Start : goal.returns-in-Start
returns-in-Start c =
    let a = c.args in
    R.full-word a.least a.most a.text.now a.at a.first a.table.now _ (R.is-full a.least a.most a.text.now a.at a.first a.table.now _ c.in_ok-count.ensures c.in-Full.is) c.in-Start.ensures

pub returns-in-End : goal.returns-in-End
returns-in-End c =
    let a = c.args in
    R.full-end a.least a.most a.text.now a.at a.first a.table.now _ (R.is-full a.least a.most a.text.now a.at a.first a.table.now _ c.in_ok-count.ensures c.in-Full.is) c.in-End.ensures c.if-most-least.false

pub returns-in-Bad : goal.returns-in-Bad
returns-in-Bad c =
    let a = c.args in
    R.full-bad a.least a.most a.text.now a.at a.first a.table.now _ (R.is-full a.least a.most a.text.now a.at a.first a.table.now _ c.in_ok-count.ensures c.in-Full.is) c.in-Bad.ensures
