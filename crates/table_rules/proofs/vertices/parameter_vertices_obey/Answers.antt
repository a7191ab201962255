-- A vp that breaks a rule.
use Rattle.std.proofs.Common.{◌≡◌, suc, false, sym, add-one, arith, rules}
use Rattle.record_rules.specs.Vertices.{parameter_vertex_obeys}
use Rattle.record_rules.proofs.Below.{below_fails}
use Rattle.table_rules.proofs.vertices.parameter_vertices_obey.Goals as goal

pub returns-then-not-parameter_vertex : goal.returns-then-not-parameter_vertex
returns-then-not-parameter_vertex c =
    let s = c.args in
    let broken : parameter_vertex_obeys s.values.now s.used (suc c.loop-k.k) ≡ false = rw (← add-one) (search rules) in
    sym (below_fails (λ k. parameter_vertex_obeys s.values.now s.used (suc k)) s.used c.loop-k.k (omega arith) broken)
