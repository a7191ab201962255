-- Each way out by the law of its answer, lent to the four tables.
use mathlib.Core.Path.{◌∙◌}
use native.Mathlib.Omega.{arith}
use Rattle.tables.specs.VertexTables.{vertex_tables}
use Rattle.model.specs.Parse.{a-vertex}
use Rattle.read_state.specs.Changed.{kind_in}
use Rattle.read_vertex_lines.specs.Stepping.{accepted, rejected}
use Rattle.read_vertex_lines.proofs.Bounds.{count_small}
use Rattle.read_vertex_lines.proofs.Opened.{row-says, outside-none}
use Rattle.read_vertex_lines.proofs.Stepped.{vertex-open, vertex-gave, vertex-took, none-stored, lent}
use Rattle.read_vertex_lines.proofs.vertex_line.Goals as goal

pub returns-then-not-allowed : goal.returns-then-not-allowed
returns-then-not-allowed c =
    let a = c.args in
    let l = kind_in a.kind (vertex_tables a.v.now a.vt.now a.vn.now a.vp.now) in
    lent a.kind a.text.now a.at a.state (vertex_tables a.v.now a.vt.now a.vn.now a.vp.now) (vertex_tables a.v.now a.vt.now a.vn.now a.vp.now) rejected (none-stored a.kind (vertex_tables a.v.now a.vt.now a.vn.now a.vp.now)) (vertex-open a.kind a.text.now a.at a.state l (row-says (a-vertex a.kind) a.state.open.kind _ c.vertex_rules-rules.ensures c.allowed.ensures ∙ c.if-not-allowed.true))

pub overflow_add-count : goal.overflow_add-count
overflow_add-count c =
    let small = count_small c.requires c.args.kind in
    let is = c.count_of-count.ensures in
    record { fits = omega (arith, small, is) }

pub returns-in_default : goal.returns-in_default
returns-in_default c =
    let f = c.vertex_into in
    let a = c.args in
    let l = kind_in a.kind (vertex_tables a.v.now a.vt.now a.vn.now a.vp.now) in
    let m = kind_in a.kind (vertex_tables c.vertex_into.new.v c.vertex_into.new.vt c.vertex_into.new.vn c.vertex_into.new.vp) in
    lent a.kind a.text.now a.at a.state (vertex_tables a.v.now a.vt.now a.vn.now a.vp.now) (vertex_tables c.vertex_into.new.v c.vertex_into.new.vt c.vertex_into.new.vn c.vertex_into.new.vp) rejected c.vertex_into.ensures.1 (vertex-gave a.kind a.text.now a.at a.state l c.count_of-count.result c.count_of-count.ensures m c.vertex_into.result c.vertex_into.ensures.0 c.in_default.is)

pub returns : goal.returns
returns c =
    let f = c.vertex_into in
    let a = c.args in
    let l = kind_in a.kind (vertex_tables a.v.now a.vt.now a.vn.now a.vp.now) in
    let m = kind_in a.kind (vertex_tables c.vertex_into.new.v c.vertex_into.new.vt c.vertex_into.new.vn c.vertex_into.new.vp) in
    let out = outside-none a.state.open.kind (row-says (a-vertex a.kind) a.state.open.kind _ c.vertex_rules-rules.ensures c.allowed.ensures ∙ c.if-not-allowed.false) in
    lent a.kind a.text.now a.at a.state (vertex_tables a.v.now a.vt.now a.vn.now a.vp.now) (vertex_tables c.vertex_into.new.v c.vertex_into.new.vt c.vertex_into.new.vn c.vertex_into.new.vp) (accepted c.with_used.result c.in-Some.next) c.vertex_into.ensures.1 (vertex-took a.kind a.text.now a.at a.state l c.count_of-count.result c.count_of-count.ensures m c.vertex_into.result c.vertex_into.ensures.0 _ _ _
    c.in-Some.is c.counted.ensures c.with_used.ensures c.requires.to out)
