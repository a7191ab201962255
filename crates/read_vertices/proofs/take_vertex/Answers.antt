-- The blank record, the line's numbers over it and the count before them come to the record (`Taking`).
use native.Mathlib.Omega.{arith}
use borrow.Author.Tests.{not-true, not-false}
use Rattle.word_numbers.proofs.Signs.{reads}
use Rattle.read_vertices.proofs.Taking as T
use mathlib.Core.Path.{ap}
use mathlib.Core.Bool.{not}
use Rattle.read_vertices.proofs.take_vertex.Goals as goal

pub overflow_mul-first : goal.overflow_mul-first
overflow_mul-first c =
    let a = c.args in
    let fits = T.product a.kind a.text.now a.at a.used a.table.now c.layout_of-layout.ensures (omega (arith, c.ranges.used)) in
    omega arith

pub returns-then-not-put_blank : goal.returns-then-not-put_blank
returns-then-not-put_blank c =
    let a = c.args in
    T.no_room a.kind a.text.now a.at a.used a.table.now c.layout_of-layout.ensures (c.put_blank.ensures.value, c.put_blank.ensures.table_after) (not-true _ (ap not c.if-not-put_blank.true))

pub overflow_add-first : goal.overflow_add-first
overflow_add-first c =
    let a = c.args in
    let fits = T.inside a.kind a.text.now a.at a.used a.table.now c.layout_of-layout.ensures (c.put_blank.ensures.value, c.put_blank.ensures.table_after) (not-false _ (ap not c.if-not-put_blank.false)) in
    omega (arith, c.well_formed)

pub returns-in_err-row : goal.returns-in_err-row
returns-in_err-row c =
    let a = c.args in
    rw c.from_residual.ensures
    (T.no-vertex a.kind a.text.now a.at a.used a.table.now c.layout_of-layout.ensures (c.put_blank.ensures.value, c.put_blank.ensures.table_after) (not-false _ (ap not c.if-not-put_blank.false)) c.in_err-row.ensures)

pub overflow_cast-table : goal.overflow_cast-table
overflow_cast-table c =
    let a = c.args in
    let small = T.count_small a.kind a.text.now a.at a.used a.table.now c.layout_of-layout.ensures (c.put_blank.ensures.value, c.put_blank.ensures.table_after) (not-false _ (ap not c.if-not-put_blank.false)) c.in_ok-row.ensures in
    omega arith

pub bounds-table-first : goal.bounds-table-first
bounds-table-first c =
    let a = c.args in
    T.in_table a.kind a.text.now a.at a.used a.table.now c.layout_of-layout.ensures (c.put_blank.ensures.value, c.put_blank.ensures.table_after) (not-false _ (ap not c.if-not-put_blank.false)) c.in_ok-row.ensures c.if-layout-ne0.true

pub returns-then-layout-ne0 : goal.returns-then-layout-ne0
returns-then-layout-ne0 c =
    let a = c.args in
    let small = T.count_small a.kind a.text.now a.at a.used a.table.now c.layout_of-layout.ensures (c.put_blank.ensures.value, c.put_blank.ensures.table_after) (not-false _ (ap not c.if-not-put_blank.false)) c.in_ok-row.ensures in
    T.taken-led a.kind a.text.now a.at a.used a.table.now c.layout_of-layout.ensures (c.put_blank.ensures.value, c.put_blank.ensures.table_after) (not-false _ (ap not c.if-not-put_blank.false)) c.in_ok-row.ensures c.if-layout-ne0.true _ (reads c.in_ok-row.row.value (omega arith))

pub returns-else-layout-ne0 : goal.returns-else-layout-ne0
returns-else-layout-ne0 c =
    let a = c.args in
    T.taken-plain a.kind a.text.now a.at a.used a.table.now c.layout_of-layout.ensures (c.put_blank.ensures.value, c.put_blank.ensures.table_after) (not-false _ (ap not c.if-not-put_blank.false)) c.in_ok-row.ensures c.if-layout-ne0.false
