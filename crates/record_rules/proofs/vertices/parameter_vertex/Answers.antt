-- What the vertex's test says of its entries lends the read.
use Rattle.std.proofs.Common.{◌≡◌, true, arith, rules}
use Rattle.record_rules.specs.Vertices.{vertex_obeys}
use Rattle.record_rules.proofs.OneVertex.{vertex-facts}
use Rattle.record_rules.proofs.vertices.parameter_vertex.Goals as goal

pub overflow_sub-number : goal.overflow_sub-number
overflow_sub-number c =
    let s = c.args in
    let obeyed : vertex_obeys 4 s.values.now s.used s.number ≡ true = search rules in
    omega (arith, vertex-facts 4 s.values.now s.used s.number obeyed)

pub lent_parameter_vertex-own-requires : goal.lent_parameter_vertex-own-requires
lent_parameter_vertex-own-requires c =
    let s = c.args in
    let obeyed : vertex_obeys 4 s.values.now s.used s.number ≡ true = search rules in
    (vertex-facts 4 s.values.now s.used s.number obeyed).lent
