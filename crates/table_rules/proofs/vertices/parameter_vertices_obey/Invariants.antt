use Rattle.std.proofs.Common.{◌≡◌, true, suc}
use Rattle.record_rules.specs.Numbers.{all_below}
use Rattle.record_rules.specs.Vertices.{parameter_vertex_obeys}
use Rattle.table_rules.proofs.vertices.parameter_vertices_obey.Given as goal

abbrev pub invariant-loop-k : goal.invariant-loop-k
invariant-loop-k l = all_below l.k (λ k. parameter_vertex_obeys l.values l.used (suc k)) ≡ true
