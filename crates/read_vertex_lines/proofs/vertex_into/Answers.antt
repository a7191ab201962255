-- Each way out by the law of its kind.
use Rattle.tables.specs.VertexTables.{vertex_tables}
use Rattle.model.specs.Model.{geometric, texture, normal, parametric}
use Rattle.read_vertex_lines.proofs.Stepped.{into}
use Rattle.read_vertex_lines.proofs.vertex_into.Goals as goal

pub returns-in-Geometric : goal.returns-in-Geometric
returns-in-Geometric c =
    let f = c.take_vertex in
    let a = c.args in
    into a.text.now a.at a.used c.take_vertex.result a.kind (vertex_tables a.v.now a.vt.now a.vn.now a.vp.now) c.take_vertex.new.table geometric c.in-Geometric.is c.take_vertex.ensures

pub returns-in-Texture : goal.returns-in-Texture
returns-in-Texture c =
    let f = c.take_vertex-in-Texture in
    let a = c.args in
    into a.text.now a.at a.used c.take_vertex-in-Texture.result a.kind (vertex_tables a.v.now a.vt.now a.vn.now a.vp.now) c.take_vertex-in-Texture.new.table texture c.in-Texture.is c.take_vertex-in-Texture.ensures

pub returns-in-Normal : goal.returns-in-Normal
returns-in-Normal c =
    let f = c.take_vertex-in-Normal in
    let a = c.args in
    into a.text.now a.at a.used c.take_vertex-in-Normal.result a.kind (vertex_tables a.v.now a.vt.now a.vn.now a.vp.now) c.take_vertex-in-Normal.new.table normal c.in-Normal.is c.take_vertex-in-Normal.ensures

pub returns-in-Parametric : goal.returns-in-Parametric
returns-in-Parametric c =
    let f = c.take_vertex-in-Parametric in
    let a = c.args in
    into a.text.now a.at a.used c.take_vertex-in-Parametric.result a.kind (vertex_tables a.v.now a.vt.now a.vn.now a.vp.now) c.take_vertex-in-Parametric.new.table parametric c.in-Parametric.is c.take_vertex-in-Parametric.ensures
