-- A v and a vp as records of their numbers, which the accessors answer.
use Rattle.std.specs.Prelude.{ℕ, List, ℤ}
use Rattle.tables.specs.Records.{v_width, vp_width, value_at}
use Rattle.tables.specs.declared.vertices.Vertex.{Vertex}
use Rattle.tables.specs.declared.vertices.ParameterVertex.{ParameterVertex}

-- "v holds x y z w (w 1.000000 if absent)"; "vp the count given and u v w"
abbrev pub vertex_in : List ℤ → ℕ → Vertex
vertex_in v i = record { x = value_at v_width v i 0; y = value_at v_width v i 1; z = value_at v_width v i 2; w = value_at v_width v i 3 }

abbrev pub parameter_vertex_in : List ℤ → ℕ → ParameterVertex
parameter_vertex_in vp i = record { given = value_at vp_width vp i 0; u = value_at vp_width vp i 1; v = value_at vp_width vp i 2; w = value_at vp_width vp i 3 }
