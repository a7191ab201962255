-- Each way out by what its family's function promises of the tables.
use mathlib.Core.Path.{refl}
use Rattle.tables.specs.VertexTables.{vertex_tables}
use Rattle.tables.specs.Lent.{lent_mut}
use Rattle.read_state.specs.Changed.{with_vertices, element_stored, range_stored, loops_stored, body_stored}
use Rattle.read_dispatch.proofs.Sorted.{family-step}
use Rattle.read_dispatch.proofs.by_family.take_line.Goals as goal

pub returns-in-Vertex-clause-taken : goal.returns-in-Vertex-clause-taken
returns-in-Vertex-clause-taken c =
    let a = c.args in
    let t = lent_mut a.t.now in
    let n = c.vertex_line.new in
    family-step a.text.now a.at a.state c.vertex_line.result t (with_vertices (vertex_tables n.v n.vt n.vn n.vp) t) c.in-Vertex.is (c.vertex_line.ensures t)

pub returns-in-Element-clause-taken : goal.returns-in-Element-clause-taken
returns-in-Element-clause-taken c =
    let a = c.args in
    let t = lent_mut a.t.now in
    let n = c.element_line.new in
    family-step a.text.now a.at a.state c.element_line.result t (element_stored n.corners n.elements t) c.in-Element.is (c.element_line.ensures t refl)

pub returns-in-Body-clause-taken : goal.returns-in-Body-clause-taken
returns-in-Body-clause-taken c =
    let a = c.args in
    let t = lent_mut a.t.now in
    let n = c.body_line.new in
    family-step a.text.now a.at a.state c.body_line.result t (range_stored n.ranges (element_stored n.corners n.elements t)) c.in-Body.is (c.body_line.ensures t refl refl refl refl)

pub returns-in-Parameters-clause-taken : goal.returns-in-Parameters-clause-taken
returns-in-Parameters-clause-taken c =
    let a = c.args in
    let t = lent_mut a.t.now in
    family-step a.text.now a.at a.state c.parm_line.result t t c.in-Parameters.is (c.parm_line.ensures t)

pub returns-in-Loop-clause-taken : goal.returns-in-Loop-clause-taken
returns-in-Loop-clause-taken c =
    let a = c.args in
    let t = lent_mut a.t.now in
    let n = c.loop_line.new in
    family-step a.text.now a.at a.state c.loop_line.result t (loops_stored n.loops n.spans t) c.in-Loop.is (c.loop_line.ensures t refl refl)

pub returns-in-End-clause-taken : goal.returns-in-End-clause-taken
returns-in-End-clause-taken c =
    let a = c.args in
    let t = lent_mut a.t.now in
    let n = c.end_line.new in
    family-step a.text.now a.at a.state c.end_line.result t (body_stored n.bodies n.ranges n.parameters t) c.in-End.is (c.end_line.ensures t refl refl refl)

pub returns-in-Set-clause-taken : goal.returns-in-Set-clause-taken
returns-in-Set-clause-taken c =
    let a = c.args in
    let t = lent_mut a.t.now in
    family-step a.text.now a.at a.state c.setting_line.result t t c.in-Set.is (c.setting_line.ensures t)
