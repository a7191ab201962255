-- A face and a curv2 swept, their tables longer than what they hold: the whole answer, computed. v 1, vn 1 and vp 2 are named by no corner.
use Prim.Native.Nat.{ℕ}
use mathlib.Core.Path.{◌≡◌, refl}
use mathlib.Core.List.{List, [], ◌∷◌}
use lib.IntN.{ℤ, pos}
use Rattle.tables.specs.Tables.{Tables, tables}
use Rattle.tables.specs.Bodies.{in_order, curve_count}
use Rattle.tables.specs.Asking.{held, body_held}
use Rattle.tables.specs.declared.Used.{Used}
use Rattle.basis.specs.Widest.{widest}
use Rattle.record_rules.specs.Numbers.{in_range, run_in_range}
use Rattle.record_rules.specs.Vertices.{vertex_obeys, given_obeys, parameter_vertex_obeys, control_obeys}
use Rattle.record_rules.specs.Corners.{least_corners, with_texture, with_normal, attribute_obeys, point_obeys, corner_obeys, each_corner, corners_obey}
use Rattle.record_rules.specs.Directions.{degree_obeys, type_obeys, parameters_obey}
use Rattle.record_rules.specs.Bodies.{flat_obeys, curve_obeys, record_obeys, body_obeys}
use Rattle.record_rules.specs.Rules.{element_obeys, obeys}
use Rattle.table_rules.specs.Whole.{lent_all, vertices_obey, elements_obey, runs_follow, whole_obeys}
use Rattle.sweep_marks.specs.Counting.{new_numbers, kept_rows}
use Rattle.sweep.specs.Named.{named, corners_after}
use Rattle.sweep.specs.Swept.{swept_used, dropped_of, swept_tables, swept_numbers, sweep_into}
use Rattle.std.specs.Prelude.{Ok}

abbrev pub m : ℤ
m = pos 1000000

abbrev pub z : ℤ
z = pos 0

-- the tables with these v, vn, vp and corners, and with n in the last entry of each
abbrev pub with : (n : ℕ) → (v vn vp : List ℤ) → List ℕ → Tables
with n v vn vp corners =
    tables v (z ∷ m ∷ z ∷ pos n ∷ []) vn vp corners
    (3 ∷ 0 ∷ 3 ∷ 0 ∷ 1 ∷ 30 ∷ 4 ∷ 0 ∷ 0 ∷ 5 ∷ 9 ∷ 2 ∷ 1 ∷ 0 ∷ 0 ∷ 0 ∷ 40 ∷ 2 ∷ n ∷ [])
    (1 ∷ 0 ∷ 1 ∷ 0 ∷ 0 ∷ 2 ∷ 0 ∷ 0 ∷ 0 ∷ n ∷ []) (z ∷ m ∷ z ∷ z ∷ pos n ∷ []) (z ∷ m ∷ pos n ∷ []) (n ∷ []) (pos n ∷ [])

abbrev pub counts : (v vn vp : ℕ) → Used
counts v vn vp = record { v = v; vt = 1; vn = vn; vp = vp; corners = 15; elements = 2; bodies = 1; parameters = 2; loops = 0 }

abbrev pub before : Tables
before =
    with 7 (pos 1 ∷ z ∷ z ∷ m ∷ pos 2 ∷ z ∷ z ∷ m ∷ pos 3 ∷ z ∷ z ∷ m ∷ pos 7 ∷ []) (z ∷ z ∷ pos 1 ∷ z ∷ z ∷ pos 2 ∷ pos 7 ∷ [])
    (pos 2 ∷ pos 1 ∷ z ∷ m ∷ pos 2 ∷ pos 2 ∷ z ∷ m ∷ pos 2 ∷ pos 3 ∷ z ∷ m ∷ pos 7 ∷ [])
    (2 ∷ 1 ∷ 2 ∷ 3 ∷ 1 ∷ 2 ∷ 2 ∷ 1 ∷ 2 ∷ 1 ∷ 0 ∷ 0 ∷ 3 ∷ 0 ∷ 0 ∷ 7 ∷ [])

abbrev pub after : Tables
after =
    with 0 (pos 2 ∷ z ∷ z ∷ m ∷ pos 3 ∷ z ∷ z ∷ m ∷ z ∷ z ∷ z ∷ z ∷ z ∷ []) (z ∷ z ∷ pos 2 ∷ z ∷ z ∷ z ∷ z ∷ [])
    (pos 2 ∷ pos 1 ∷ z ∷ m ∷ pos 2 ∷ pos 3 ∷ z ∷ m ∷ z ∷ z ∷ z ∷ z ∷ z ∷ [])
    (1 ∷ 1 ∷ 1 ∷ 2 ∷ 1 ∷ 1 ∷ 1 ∷ 1 ∷ 1 ∷ 1 ∷ 0 ∷ 0 ∷ 2 ∷ 0 ∷ 0 ∷ 0 ∷ [])

pub one-swept : sweep_into (counts 3 2 3) before (7 ∷ 7 ∷ 7 ∷ 7 ∷ 7 ∷ 7 ∷ 7 ∷ 7 ∷ 7 ∷ 7 ∷ [])
    ≡ record {
      answer = Ok (record { used = counts 2 1 2; dropped = record { v = 1; vt = 0; vn = 1; vp = 1 } });
      outcome = record { number = 0; used = counts 2 1 2; dropped = record { v = 1; vt = 0; vn = 1; vp = 1 } };
      tables = after;
      numbers = 0 ∷ 1 ∷ 2 ∷ 1 ∷ 0 ∷ 1 ∷ 1 ∷ 0 ∷ 2 ∷ 7 ∷ [];
    }
unfolding sweep_into whole_obeys lent_all vertices_obey elements_obey runs_follow obeys element_obeys corners_obey each_corner corner_obeys point_obeys attribute_obeys least_corners with_texture with_normal vertex_obeys parameter_vertex_obeys control_obeys given_obeys run_in_range in_range body_obeys body_held held record_obeys type_obeys degree_obeys parameters_obey curve_obeys flat_obeys curve_count in_order widest swept_used dropped_of swept_tables swept_numbers named new_numbers kept_rows corners_after
one-swept = refl
