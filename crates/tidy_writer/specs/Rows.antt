-- The lines of the tidy text as the tables give them: 01, "The tidy text", over records read one after the other. A read past a table's end gives 0.
use Rattle.std.specs.Prelude.{ℕ, zero, suc, ◌+◌, ◌*◌, ◌-◌, List, [], ◌∷◌, ◌++◌, map, Bool, true, false, cond, get_or, take, drop, eqb, leb, ℤ, pos}
use Rattle.references.specs.Written.{written_whole, written_number, written_corner}
use Rattle.references.specs.Corner.{Corner}
use Rattle.keywords.specs.Keywords.{keyword_of}
use Rattle.keywords.specs.Arguments.{argument_bytes}
use Rattle.keywords.specs.declared.Argument.{Argument}
use Rattle.keywords.specs.declared.Argument.TheVariants.{Rational, Bezier, Bspline, Cardinal, Taylor, DirectionU, DirectionV}
use Rattle.statements.specs.declared.Carried.{Carried}
use Rattle.statements.specs.declared.Carried.TheVariants.{BodyType, Degree, Parameters, End}
use Rattle.statements.specs.declared.Carried.TheVariants as carried
use Rattle.statements.specs.declared.Shape.TheVariants.{Point, Line, Face}
use Rattle.statements.specs.declared.Free.TheVariants.{Curve, Curve2, Surface}
use Rattle.tables.specs.Tables.{Tables}
use Rattle.tables.specs.Rows.{range_numbers}
use Rattle.tables.specs.Records.{corner_width, loop_width, span_width, body_in, point_kind, line_kind, face_kind, curve_kind, curve2_kind, surface_kind}
use Rattle.tables.specs.declared.Element.{Element}
use Rattle.tables.specs.declared.Body.{Body}
use Rattle.model.specs.Model.{geometric, parametric}
use Rattle.tidy_form.specs.declared.Weights.{Weights}
use Rattle.tidy_form.specs.Printed.{coordinates, degree_words, loop_keyword}

-- ---- "All v, vt, vn (every coordinate), vp (those given)": n records of w numbers, which begin, or not, with how many were given; of a v the weight by the
-- caller's choice
abbrev pub row_numbers : Bool → Weights → List ℤ → List ℤ
row_numbers true c z = coordinates c parametric z
row_numbers false c z = coordinates c geometric z

abbrev pub vertex_rows : Carried → Bool → Weights → ℕ → ℕ → List ℤ → List (List (List ℕ))
vertex_rows k counted c w zero l = []
vertex_rows k counted c w (suc n) l = (keyword_of k ∷ map written_number (row_numbers counted c (take w l))) ∷ vertex_rows k counted c w n (drop w l)

-- ---- an element's own line: its keyword, "two numbers" of range on a curve, four on a surface, its corners
abbrev pub kind_keyword : ℕ → Carried
kind_keyword n =
    cond (eqb n point_kind) (carried.Element Point) (cond (eqb n line_kind) (carried.Element Line) (cond (eqb n face_kind) (carried.Element Face) (cond (eqb n curve_kind) (carried.Body Curve) (cond (eqb n curve2_kind) (carried.Body Curve2) (carried.Body Surface)))))

abbrev pub range_count : ℕ → ℕ
range_count n = cond (eqb n curve_kind) 2 (cond (eqb n surface_kind) 4 0)

-- an element's body counts from 1
abbrev pub body_index : ℕ → ℕ
body_index number = number - 1

abbrev pub stored_corners : ℕ → List ℕ → List Corner
stored_corners zero l = []
stored_corners (suc n) l = record { v = get_or l 0 0; vt = get_or l 1 0; vn = get_or l 2 0 } ∷ stored_corners n (drop corner_width l)

abbrev pub element_words : List ℕ → Body → Element → List (List ℕ)
element_words corners b e =
    keyword_of (kind_keyword e.kind)
    ∷ (map written_number (take (range_count e.kind) (range_numbers b)) ++ map written_corner (stored_corners e.corners.count (drop e.corners.first corners)))

-- ---- "Before a body: cstype, deg"
abbrev pub basis_argument : ℕ → Argument
basis_argument n = cond (eqb n 1) Bezier (cond (eqb n 2) Bspline (cond (eqb n 3) Cardinal Taylor))

abbrev pub type_words : Body → List (List ℕ)
type_words b = cond (eqb b.rational 1) (argument_bytes Rational ∷ argument_bytes (basis_argument b.basis) ∷ []) (argument_bytes (basis_argument b.basis) ∷ [])

abbrev pub form_lines : Body → List (List (List ℕ))
form_lines b = (keyword_of BodyType ∷ type_words b) ∷ (keyword_of Degree ∷ degree_words b.degree_u b.degree_v) ∷ []

-- ---- "parm u, parm v, loops, end"
abbrev pub parameter_line : Argument → List ℤ → List (List ℕ)
parameter_line a z = keyword_of Parameters ∷ argument_bytes a ∷ map written_number z

abbrev pub parameter_lines : List ℤ → ℕ → Body → List (List (List ℕ))
parameter_lines parameters kind b =
    parameter_line DirectionU (take b.count_u (drop b.first_parameter parameters))
    ∷ cond (eqb kind surface_kind) (parameter_line DirectionV (take b.count_v (drop (b.first_parameter + b.count_u) parameters)) ∷ []) []

abbrev pub part_words : List ℕ → List ℤ → List (List ℕ)
part_words l z = written_number (get_or z 0 (pos 0)) ∷ written_number (get_or z 1 (pos 0)) ∷ written_whole (get_or l 1 0) ∷ []

-- of n parts, those from the first on that go on with a loop, up to where the next one begins
abbrev pub going_on : ℕ → List ℕ → List ℤ → List (List ℕ)
going_on zero l z = []
going_on (suc n) l z = cond (eqb (get_or l 0 0) 0) (part_words l z ++ going_on n (drop loop_width l) (drop span_width z)) []

-- what begins with a part: 1 a trim, 2 a hole, 0 nothing
abbrev pub loop_words : ℕ → List ℕ → List ℤ → List (List ℕ)
loop_words n l z = keyword_of (loop_keyword (eqb (get_or l 0 0) 2)) ∷ (part_words l z ++ going_on n (drop loop_width l) (drop span_width z))

abbrev pub begun_lines : ℕ → List ℕ → List ℤ → List (List (List ℕ))
begun_lines n l z = cond (eqb (get_or l 0 0) 0) [] (loop_words n l z ∷ [])

abbrev pub loop_lines : ℕ → List ℕ → List ℤ → List (List (List ℕ))
loop_lines zero l z = []
loop_lines (suc n) l z = begun_lines n l z ++ loop_lines n (drop loop_width l) (drop span_width z)

abbrev pub body_loops : List ℕ → List ℤ → Body → List (List (List ℕ))
body_loops loops spans b = loop_lines b.loops (drop (loop_width * b.first_loop) loops) (drop (span_width * b.first_loop) spans)

abbrev pub end_line : List (List ℕ)
end_line = keyword_of End ∷ []

-- ---- an element without its names
abbrev pub own_lines : Tables → Element → List (List (List ℕ))
own_lines t e =
    let b = body_in t.bodies.bodies t.bodies.ranges (body_index e.body) in
    cond (leb curve_kind e.kind)
    (form_lines b ++ (element_words t.elements.corners b e ∷ (parameter_lines t.bodies.parameters e.kind b ++ (body_loops t.bodies.loops t.bodies.spans b ++ end_line ∷ []))))
    (element_words t.elements.corners b e ∷ [])
