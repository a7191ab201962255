-- Must be believed: a promise reaches every definition of this file.
-- The numbers of each record, as docs/RECORDS.md lists them. A record has a number that counts from 1, and an index that counts from 0.
use Rattle.std.specs.Prelude.{ℕ, ◌+◌, ◌*◌, List, get_or, take, drop, ℤ, pos}
use Rattle.tables.specs.Tables.{Tables}
use Rattle.tables.specs.declared.CornerRun.{CornerRun}
use Rattle.tables.specs.declared.Element.{Element}
use Rattle.tables.specs.declared.Body.{Body}
use Rattle.tables.specs.declared.Corner.{Corner}
use Rattle.tables.specs.declared.parts.LoopPart.{LoopPart}

-- how many numbers a record has in each table
abbrev pub v_width : ℕ
v_width = 4

abbrev pub vt_width : ℕ
vt_width = 3

abbrev pub vn_width : ℕ
vn_width = 3

abbrev pub vp_width : ℕ
vp_width = 4

abbrev pub corner_width : ℕ
corner_width = 3

abbrev pub element_width : ℕ
element_width = 9

abbrev pub body_width : ℕ
body_width = 9

abbrev pub range_width : ℕ
range_width = 4

abbrev pub loop_width : ℕ
loop_width = 2

abbrev pub span_width : ℕ
span_width = 2

-- number k of the record of w numbers at index i
abbrev pub number_at : ℕ → List ℕ → ℕ → ℕ → ℕ
number_at w l i k = get_or l (w * i + k) 0

abbrev pub value_at : ℕ → List ℤ → ℕ → ℕ → ℤ
value_at w l i k = get_or l (w * i + k) (pos 0)

-- "An element holds kind, corners, smoothing, and the place and length of its group run and material in the text."
abbrev pub element_in : List ℕ → ℕ → Element
element_in elements i =
    record {
      kind = number_at element_width elements i 0;
      corners = record { first = number_at element_width elements i 1; count = number_at element_width elements i 2 };
      body = number_at element_width elements i 3;
      smoothing = number_at element_width elements i 4;
      group = record { place = number_at element_width elements i 5; length = number_at element_width elements i 6 };
      material = record { place = number_at element_width elements i 7; length = number_at element_width elements i 8 };
    }

abbrev pub element_at : Tables → ℕ → Element
element_at t i = element_in t.elements.elements i

-- "A corner is v, vt, vn (0 for none); a curv2 control holds its vp number in the first place."
abbrev pub corner_in : List ℕ → ℕ → Corner
corner_in corners at = record { v = get_or corners at 0; vt = get_or corners (at + 1) 0; vn = get_or corners (at + 2) 0 }

-- the number that corner k begins at, of those from the number `first` on, and of a run
abbrev pub corner_start : ℕ → ℕ → ℕ
corner_start first k = first + corner_width * k

abbrev pub corner_place : CornerRun → ℕ → ℕ
corner_place run k = corner_start run.first k

-- how many numbers a run has, and the number after its last
abbrev pub corners_length : CornerRun → ℕ
corners_length run = corner_width * run.count

abbrev pub corners_end : CornerRun → ℕ
corners_end run = run.first + corners_length run

abbrev pub corner_at : Tables → CornerRun → ℕ → Corner
corner_at t run k = corner_in t.elements.corners (corner_place run k)

-- "A body holds type, rational or not, degrees, ranges, parameters (u, then v), loops; a curve's v entries are 0."
abbrev pub body_in : List ℕ → List ℤ → ℕ → Body
body_in bodies ranges i =
    record {
      basis = number_at body_width bodies i 0;
      rational = number_at body_width bodies i 1;
      degree_u = number_at body_width bodies i 2;
      degree_v = number_at body_width bodies i 3;
      first_parameter = number_at body_width bodies i 4;
      count_u = number_at body_width bodies i 5;
      count_v = number_at body_width bodies i 6;
      first_loop = number_at body_width bodies i 7;
      loops = number_at body_width bodies i 8;
      start_u = value_at range_width ranges i 0;
      end_u = value_at range_width ranges i 1;
      start_v = value_at range_width ranges i 2;
      end_v = value_at range_width ranges i 3;
    }

abbrev pub body_at : Tables → ℕ → Body
body_at t i = body_in t.bodies.bodies t.bodies.ranges i

-- the parameters of a body along u, and along v
abbrev pub parameters_u : Tables → Body → List ℤ
parameters_u t b = take b.count_u (drop b.first_parameter t.bodies.parameters)

abbrev pub parameters_v : Tables → Body → List ℤ
parameters_v t b = take b.count_v (drop (b.first_parameter + b.count_u) t.bodies.parameters)

-- a part of a trimming loop: what begins with it (1 a trim, 2 a hole, 0 nothing), its curv2's number, its two numbers
abbrev pub part_in : List ℕ → List ℤ → ℕ → LoopPart
part_in loops spans i =
    record {
      begins = number_at loop_width loops i 0;
      curve = number_at loop_width loops i 1;
      from = value_at span_width spans i 0;
      to = value_at span_width spans i 1;
    }

abbrev pub part_at : Tables → ℕ → LoopPart
part_at t i = part_in t.bodies.loops t.bodies.spans i

-- ---- the numbers of kinds and types
abbrev pub point_kind : ℕ
point_kind = 1

abbrev pub line_kind : ℕ
line_kind = 2

abbrev pub face_kind : ℕ
face_kind = 3

abbrev pub curve_kind : ℕ
curve_kind = 4

abbrev pub curve2_kind : ℕ
curve2_kind = 5

abbrev pub surface_kind : ℕ
surface_kind = 6
