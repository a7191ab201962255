-- A face, a curv, a curv2 and a surf that obey, each broken in one number at a time: one table, one claim, computed.
use Prim.Native.Nat.{ℕ}
use mathlib.Core.Path.{◌≡◌, refl}
use mathlib.Core.List.{List, [], ◌∷◌}
use mathlib.Core.Bool.{Bool, true, false, cond, not}
use lib.ListN.{set}
use lib.IntN.{ℤ, pos, negsuc}
use Rattle.lists.specs.Lists.{all}
use Rattle.tables.specs.Tables.{Tables, tables}
use Rattle.tables.specs.Bodies.{in_order, curve_count, surface_count}
use Rattle.tables.specs.Asking.{held, body_held}
use Rattle.tables.specs.declared.Used.{Used}
use Rattle.record_rules.specs.Numbers.{in_range, run_in_range}
use Rattle.record_rules.specs.Vertices.{vertex_obeys, given_obeys, parameter_vertex_obeys, control_obeys}
use Rattle.record_rules.specs.Corners.{least_corners, with_texture, with_normal, attribute_obeys, point_obeys, corner_obeys, each_corner, corners_obey}
use Rattle.record_rules.specs.Directions.{degree_obeys, type_obeys, parameters_obey}
use Rattle.basis.specs.Widest.{widest}
use Rattle.record_rules.specs.Loops.{begins_obeys, part_obeys, each_part, loops_obey}
use Rattle.record_rules.specs.Bodies.{flat_obeys, curve_obeys, directions_obey, surface_obeys, record_obeys, body_obeys}
use Rattle.record_rules.specs.Rules.{obeys, element_obeys, curves_before}

abbrev m : ℤ
m = pos 1000000

abbrev z : ℤ
z = pos 0

abbrev v : List ℤ
v = z ∷ z ∷ z ∷ m ∷ m ∷ z ∷ z ∷ m ∷ z ∷ m ∷ z ∷ m ∷ m ∷ m ∷ z ∷ m ∷ []

abbrev vt : List ℤ
vt = z ∷ z ∷ z ∷ []

abbrev vn : List ℤ
vn = z ∷ z ∷ m ∷ []

abbrev vp : List ℤ
vp = pos 2 ∷ z ∷ z ∷ m ∷ pos 2 ∷ m ∷ z ∷ m ∷ pos 1 ∷ m ∷ z ∷ m ∷ []

abbrev ranges : List ℤ
ranges = z ∷ m ∷ z ∷ z ∷ z ∷ m ∷ z ∷ z ∷ z ∷ m ∷ z ∷ m ∷ []

abbrev parameters : List ℤ
parameters = z ∷ m ∷ z ∷ z ∷ m ∷ m ∷ z ∷ m ∷ z ∷ m ∷ []

abbrev spans : List ℤ
spans = z ∷ m ∷ []

abbrev corners : List ℕ
corners =
    1 ∷ 0 ∷ 0 ∷ 2 ∷ 0 ∷ 0 ∷ 3 ∷ 0 ∷ 0 ∷ 1 ∷ 0 ∷ 0 ∷ 2 ∷ 0 ∷ 0 ∷ 1 ∷ 0 ∷ 0 ∷ 2 ∷ 0 ∷ 0 ∷ 1 ∷ 1 ∷ 0 ∷ 2 ∷ 1 ∷ 0 ∷ 3 ∷ 1 ∷ 0 ∷ 4 ∷ 1 ∷ 0 ∷ []

abbrev elements : List ℕ
elements =
    3 ∷ 0 ∷ 3 ∷ 0 ∷ 0 ∷ 0 ∷ 0 ∷ 0 ∷ 0 ∷ 4 ∷ 9 ∷ 2 ∷ 1 ∷ 0 ∷ 0 ∷ 0 ∷ 0 ∷ 0 ∷ 5 ∷ 15 ∷ 2 ∷ 2 ∷ 0 ∷ 0 ∷ 0 ∷ 0 ∷ 0 ∷ 6 ∷ 21 ∷ 4 ∷ 3 ∷ 0 ∷ 0 ∷ 0 ∷ 0 ∷ 0 ∷ []

abbrev bodies : List ℕ
bodies =
    1 ∷ 0 ∷ 1 ∷ 0 ∷ 0 ∷ 2 ∷ 0 ∷ 0 ∷ 0 ∷ 2 ∷ 0 ∷ 1 ∷ 0 ∷ 2 ∷ 4 ∷ 0 ∷ 0 ∷ 0 ∷ 1 ∷ 0 ∷ 1 ∷ 1 ∷ 6 ∷ 2 ∷ 2 ∷ 0 ∷ 1 ∷ []

abbrev loops : List ℕ
loops = 1 ∷ 1 ∷ []

-- four v, three vp, a body for each of the last three elements
abbrev counts : ℕ → ℕ → Used
counts vs numbers =
    record { v = vs; vt = 1; vn = 1; vp = 3; corners = numbers; elements = 4; bodies = 3; parameters = 10; loops = 1 }

abbrev used : Used
used = counts 4 33

abbrev good : Tables
good = tables v vt vn vp corners elements bodies ranges parameters loops spans

-- one entry of a table changed

abbrev with-v : ℕ → ℤ → Tables
with-v n x = tables (set v n x) vt vn vp corners elements bodies ranges parameters loops spans

abbrev with-vp : ℕ → ℤ → Tables
with-vp n x = tables v vt vn (set vp n x) corners elements bodies ranges parameters loops spans

abbrev with-range : ℕ → ℤ → Tables
with-range n x = tables v vt vn vp corners elements bodies (set ranges n x) parameters loops spans

abbrev with-parameter : ℕ → ℤ → Tables
with-parameter n x = tables v vt vn vp corners elements bodies ranges (set parameters n x) loops spans

abbrev with-span : ℕ → ℤ → Tables
with-span n x = tables v vt vn vp corners elements bodies ranges parameters loops (set spans n x)

abbrev with-corner : ℕ → ℕ → Tables
with-corner n x = tables v vt vn vp (set corners n x) elements bodies ranges parameters loops spans

abbrev with-element : ℕ → ℕ → Tables
with-element n x = tables v vt vn vp corners (set elements n x) bodies ranges parameters loops spans

abbrev with-body : ℕ → ℕ → Tables
with-body n x = tables v vt vn vp corners elements (set bodies n x) ranges parameters loops spans

abbrev with-loop : ℕ → ℕ → Tables
with-loop n x = tables v vt vn vp corners elements bodies ranges parameters (set loops n x) spans

record Row : Type 0 where
  counts : Used
  its-tables : Tables
  index : ℕ
  says : Bool

abbrev row : Used → Tables → ℕ → Bool → Row
row u t i b = record { counts = u; its-tables = t; index = i; says = b }

abbrev right : Row → Bool
right r = let b = obeys r.counts r.its-tables (curves_before r.its-tables r.index) r.index in cond r.says b (not b)

abbrev rows : List Row
rows =
    row used good 0 true
    ∷ row used good 1 true
    ∷ row used good 2 true
    ∷ row used good 3 true
    -- a used count past its slice is no fault by itself; one too small is
    ∷ row (counts 99 33) good 1 true
    ∷ row (counts 1 33) good 1 false
    ∷ row (counts 4 32) good 3 false
    ∷ row (counts 4 32) good 2 true
    -- the face: its kind, count, body number, smoothing, a v past the last, a pattern of its own
    ∷ row used (with-element 0 7) 0 false
    ∷ row used (with-element 2 2) 0 false
    ∷ row used (with-element 3 1) 0 false
    ∷ row used (with-element 4 65535) 0 true
    ∷ row used (with-element 4 65536) 0 false
    ∷ row used (with-element 5 9) 0 true
    ∷ row used (with-corner 3 5) 0 false
    ∷ row used (with-corner 3 0) 0 false
    ∷ row used (with-corner 4 1) 0 false
    ∷ row used (with-v 7 (pos 2000000001)) 0 false
    ∷ row used (with-v 7 (negsuc 1999999999)) 0 true
    ∷ row used (with-v 13 (pos 2000000001)) 0 true
    -- the curv: its body number, type, flag, degrees, range, parameters, entries of a surface, a vt
    ∷ row used (with-element 12 0) 1 false
    ∷ row used (with-element 12 4) 1 false
    ∷ row used (with-body 0 5) 1 false
    ∷ row used (with-body 1 2) 1 false
    ∷ row used (with-body 1 1) 1 true
    ∷ row used (with-body 2 2) 1 false
    ∷ row used (with-body 3 1) 1 false
    ∷ row used (with-body 4 9) 1 false
    ∷ row used (with-body 8 1) 1 false
    ∷ row used (with-range 1 (pos 1000001)) 1 false
    ∷ row used (with-range 0 m) 1 false
    ∷ row used (with-range 0 (pos 1)) 1 true
    ∷ row used (with-range 2 m) 1 false
    ∷ row used (with-parameter 1 z) 1 false
    ∷ row used (with-corner 10 1) 1 false
    -- the curv2: a vp with one coordinate, a range that is not the widest, knots that fall
    ∷ row used (with-corner 18 3) 2 false
    ∷ row used (with-vp 3 z) 2 false
    ∷ row used (with-range 4 (pos 1)) 2 false
    ∷ row used (with-parameter 3 (negsuc 0)) 2 false
    -- the surf: its product of controls, its loop's first part and curve, a number of the loop, no loop
    ∷ row used (with-body 20 2) 3 false
    ∷ row used (with-element 29 3) 3 false
    ∷ row used (with-loop 0 0) 3 false
    ∷ row used (with-loop 0 2) 3 true
    ∷ row used (with-loop 1 2) 3 false
    ∷ row used (with-element 18 4) 3 false
    ∷ row used (with-span 0 (pos 2000000001)) 3 false
    ∷ row used (with-body 26 0) 3 true
    ∷ row used (with-corner 22 0) 3 false
    ∷ []

claim : all right rows ≡ true
unfolding obeys element_obeys corners_obey each_corner corner_obeys point_obeys attribute_obeys with_texture with_normal least_corners vertex_obeys control_obeys parameter_vertex_obeys given_obeys run_in_range in_range body_obeys body_held held record_obeys type_obeys degree_obeys parameters_obey curve_obeys directions_obey surface_obeys flat_obeys widest loops_obey each_part part_obeys begins_obeys in_order curve_count surface_count
claim = refl
