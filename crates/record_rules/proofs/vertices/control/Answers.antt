-- What the vertex's test says of its entries lends the read.
use Rattle.std.proofs.Common.{◌≡◌, true, arith, rules}
use Rattle.record_rules.specs.Vertices.{parameter_vertex_obeys}
use Rattle.record_rules.proofs.OneVertex.{parameter-facts}
use Rattle.record_rules.proofs.vertices.control.Goals as goal

pub overflow_sub-number : goal.overflow_sub-number
overflow_sub-number c =
    let s = c.args in
    let obeyed : parameter_vertex_obeys s.values.now s.used s.number ≡ true = search rules in
    omega (arith, parameter-facts s.values.now s.used s.number obeyed)

pub lent_parameter_vertex-requires : goal.lent_parameter_vertex-requires
lent_parameter_vertex-requires c =
    let s = c.args in
    let obeyed : parameter_vertex_obeys s.values.now s.used s.number ≡ true = search rules in
    (parameter-facts s.values.now s.used s.number obeyed).lent
