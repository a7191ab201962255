-- Must be believed: a promise reaches every definition of this file.
-- What a line of words says: a statement, or a refusal with its number and place. Parsing does all the refusing, in the order of 01's table.
use Rattle.std.specs.Prelude.{ℕ, ◌-◌, List, [], ◌∷◌, ◌++◌, Bool, true, false, cond, ◌&&◌, ◌||◌, length, get_or, drop, leb, eqb, ℤ, pos, nat_abs}
use Rattle.std.proofs.Math.Option.{Option, none, some}
use Rattle.text.specs.Words.{Word}
use Rattle.references.specs.Corner.{Corner, alike}
use Rattle.tables.specs.Bodies.{Basis, bezier, is_cardinal, in_order, curve_count, surface_count}
use Rattle.model.specs.Model.{VertexKind, geometric, texture, normal, parametric, Vertices, Free, curve, curve2, surface, Part, Body, Form, Open, State, curves, counts_of}
use Rattle.model.specs.Statements.{Statement, vertex, element, group, smoothing, material, type, degree, body, parameters, loop, end, passed, settled}
use Rattle.statements.specs.Rules as rules
use Rattle.statements.specs.declared.rules.Held.{Held}
use Rattle.statements.specs.declared.rules.Held.TheVariants as held
pub use Rattle.statements.specs.Rules.{is_surface, is_planar, fewest, range_words, fewest_controls, parts, control_form, rules_of}
-- the statements by the keywords that open them
pub use Rattle.statements.specs.declared.Carried.{Carried as Keyword}
pub use Rattle.statements.specs.declared.Carried.TheVariants.{Vertex as a-vertex, Element as an-element, Body as a-body, Parameters as parm, Trim as trim, Hole as hole, End as ends, BodyType as cstype, Degree as deg, Group as g, Smoothing as s, Material as usemtl, PassedOver as over}
pub use Rattle.model.specs.Words.{Parsed, fine, fault, then, must, unless, direction_of, says_v, WordForm, a-number, a-corner, a-control, a-curve, a-direction, a-type, a-rational, a-degree, a-smoothing, a-name, anything, Value, number, corner, whole, direction, basis, name, nothing, on_said, type_said, rational_said, direction_said, Seen, said_of, placed, values_of, numbers_of, corners_of, wholes_of, names_of, basis_said, direction_in}

-- ---- 10, 5 and the form of each word, by the statement's row of rules

-- the kind of the open body's element
abbrev pub open_free : Option Open → Option Free
open_free none = none
open_free (some o) = some o.body.free

abbrev pub allowed : Keyword → Option Open → List Word → Bool
allowed k o ws = rules.allowed_by (rules_of k).standing (open_free o) (says_v ws)

abbrev pub counted : Keyword → ℕ → Bool
counted k n = rules.counted_by (rules_of k).count n

abbrev pub form_of : Keyword → ℕ → ℕ → WordForm
form_of k n i = rules.form_by (rules_of k).forms n i

-- ---- 9, "corner pattern differs from the first": of the words ws with the corners cs, the first whose pattern is not c's
abbrev pub differing : Corner → List Word → List Corner → Option ℕ
differing c [] cs = none
differing c (w ∷ ws) [] = none
differing c (w ∷ ws) (d ∷ cs) = cond (alike c d) (differing c ws cs) (some w.place)

abbrev pub unlike : List Word → List Corner → Option ℕ
unlike [] cs = none
unlike (w ∷ ws) [] = none
unlike (w ∷ ws) (c ∷ cs) = differing c ws cs

-- ---- 11, "type, degree (curv2, curv, surf lines) or parm (end) missing"
-- "Cardinal needs no deg; its degree is 3, and the deg in force stays for other types."
abbrev pub degrees_needed : Free → Form → Bool
degrees_needed k f = cond (is_surface k) (leb 1 f.degree-u && leb 1 f.degree-v) (leb 1 f.degree-u)

abbrev pub in_force : Free → Form → Option Basis → Bool
in_force k f none = false
in_force k f (some t) = is_cardinal t || degrees_needed k f

abbrev pub some? : {A : Type 0} → List A → Bool
some? [] = false
some? (a ∷ xs) = true

abbrev pub complete : Free → Body → Bool
complete k b = cond (is_surface k) (some? b.us && some? b.vs) (some? b.us)

-- ---- 12, "control counts disagree"
-- "A curv2 control must have at least two coordinates given (else 12 at its word)": the record of a vp begins with how many were given
abbrev pub given : List (List ℤ) → ℕ → ℕ
given vps k = nat_abs (get_or (get_or vps (k - 1) []) 0 (pos 0))

abbrev pub narrow : List (List ℤ) → List Word → List Corner → Option ℕ
narrow vps [] cs = none
narrow vps (w ∷ ws) [] = none
narrow vps (w ∷ ws) (c ∷ cs) = cond (leb 2 (given vps c.v)) (narrow vps ws cs) (some w.place)

abbrev pub narrow_in : Free → Vertices → List Word → List Corner → Option ℕ
narrow_in k x ws cs = cond (is_planar k) (narrow x.vp ws cs) none

abbrev pub counts_agree : Free → Body → ℕ → Bool
counts_agree k b n =
    cond (is_surface k) (surface_count b.basis b.degree-u (length b.us) b.degree-v (length b.vs) n) (curve_count b.basis b.degree-u (length b.us) n)

-- ---- 13, "parameter order or range"; "A curv2's range is the widest allowed and may not be empty."
abbrev pub in_order_u : Body → Bool
in_order_u b = in_order b.basis b.degree-u b.us b.start-u b.end-u

abbrev pub range_within : Free → Body → Bool
range_within k b = cond (is_surface k) (in_order_u b && in_order b.basis b.degree-v b.vs b.start-v b.end-v) (in_order_u (settled k b))

-- ---- the statement of a line whose words have their forms

-- the two numbers and the curv2 number of each part of a loop
abbrev pub parts_of : List ℤ → List ℕ → List Part
parts_of zs [] = []
parts_of zs (k ∷ ks) = record { from = get_or zs 0 (pos 0); to = get_or zs 1 (pos 0); curve = k } ∷ parts_of (drop 2 zs) ks

-- what is filled in: "w 1.000000 if absent"; "vt three, 0 if absent"; "(v 0, w 1.000000 if absent)"
abbrev pub defaults : VertexKind → List ℤ
defaults geometric = pos 0 ∷ pos 0 ∷ pos 0 ∷ pos 1000000 ∷ []
defaults texture = pos 0 ∷ pos 0 ∷ pos 0 ∷ []
defaults normal = pos 0 ∷ pos 0 ∷ pos 0 ∷ []
defaults parametric = pos 0 ∷ pos 0 ∷ pos 1000000 ∷ []

abbrev pub completed : VertexKind → List ℤ → List ℤ
completed k z = z ++ drop (length z) (defaults k)

-- "vp the count given and u v w"
abbrev pub vertex_record : VertexKind → List ℤ → List ℤ
vertex_record geometric z = completed geometric z
vertex_record texture z = completed texture z
vertex_record normal z = completed normal z
vertex_record parametric z = pos (length z) ∷ completed parametric z

-- the type in force; bezier stands for none
abbrev pub basis_in : Option Basis → Basis
basis_in none = bezier
basis_in (some t) = t

-- "Cardinal .. its degree is 3"; "a curve's v entries are 0"
abbrev pub degree_in : Option Basis → ℕ → ℕ
degree_in o n = cond (is_cardinal (basis_in o)) 3 n

abbrev pub opened_body : Free → Form → List ℤ → Body
opened_body curve f z =
    record { free = curve; basis = basis_in f.basis; rational = f.rational; degree-u = degree_in f.basis f.degree-u; degree-v = 0; start-u = get_or z 0 (pos 0); end-u = get_or z 1 (pos 0); start-v = pos 0; end-v = pos 0; us = []; vs = []; loops = [] }
opened_body curve2 f z =
    record { free = curve2; basis = basis_in f.basis; rational = f.rational; degree-u = degree_in f.basis f.degree-u; degree-v = 0; start-u = pos 0; end-u = pos 0; start-v = pos 0; end-v = pos 0; us = []; vs = []; loops = [] }
opened_body surface f z =
    record { free = surface; basis = basis_in f.basis; rational = f.rational; degree-u = degree_in f.basis f.degree-u; degree-v = degree_in f.basis f.degree-v; start-u = get_or z 0 (pos 0); end-u = get_or z 1 (pos 0); start-v = get_or z 2 (pos 0); end-v = get_or z 3 (pos 0); us = []; vs = []; loops = [] }

-- "A deg with one number clears the v degree"
abbrev pub degrees_of : List ℕ → Statement
degrees_of ns = degree (get_or ns 0 0) (get_or ns 1 0)

abbrev pub material_of : List Word → Statement
material_of [] = passed
material_of (w ∷ ws) = material w

-- ---- 9, 11, 12 and 13 of a line whose words have their forms, by its row; then the statement r

-- at the line of a body's element; its corners follow the range
abbrev pub opens : Free → State → ℕ → List Word → List Corner → Parsed Statement → Parsed Statement
opens k x key ws cs r =
    unless (unlike ws cs) 9
    (must (in_force k x.form x.form.basis) 11 key
    (unless (narrow_in k x.model.vertices ws cs) 12 r))

-- at `end`
abbrev pub closes : Option Open → ℕ → Parsed Statement → Parsed Statement
closes none key r = fault 10 key
closes (some o) key r =
    must (complete o.body.free o.body) 11 key
    (must (counts_agree o.body.free o.body (length o.controls)) 12 key
    (must (range_within o.body.free o.body) 13 key r))

abbrev pub held_by : Held → State → ℕ → List Word → List Value → Parsed Statement → Parsed Statement
held_by held.Nothing x key ws xs r = r
held_by (held.Corners k) x key ws xs r = unless (unlike ws (corners_of xs)) 9 r
held_by (held.Body k) x key ws xs r = opens k x key (drop (range_words k) ws) (corners_of xs) r
held_by held.End x key ws xs r = closes x.open-body key r

abbrev pub says_of : Keyword → Form → List Value → Statement
says_of (a-vertex k) f xs = vertex k (vertex_record k (numbers_of xs))
says_of (an-element k) f xs = element k (corners_of xs)
says_of (a-body k) f xs = body (opened_body k f (numbers_of xs)) (corners_of xs)
says_of parm f xs = parameters (direction_in xs) (numbers_of xs)
says_of trim f xs = loop (record { hole = false; parts = parts_of (numbers_of xs) (wholes_of xs) })
says_of hole f xs = loop (record { hole = true; parts = parts_of (numbers_of xs) (wholes_of xs) })
says_of ends f xs = end
says_of cstype f xs = type (eqb (length xs) 2) (basis_said xs)
says_of deg f xs = degrees_of (wholes_of xs)
says_of g f xs = group (names_of xs)
says_of s f xs = smoothing (get_or (wholes_of xs) 0 0)
says_of usemtl f xs = material_of (names_of xs)
says_of over f xs = passed

abbrev pub checked : Keyword → State → ℕ → List Word → List Value → Parsed Statement
checked k x key ws xs = held_by (rules_of k).held x key ws xs (fine (says_of k x.form xs))

-- ---- a line whose keyword stands at `key`: the order of 01's table, 10, 5, the words, 9, 11, 12, 13
abbrev pub seen_in : State → Seen
seen_in x = record { counts = counts_of x.model.vertices; vp = length x.model.vertices.vp; curves = curves x.model.elements }

unfoldable pub parse : Keyword → State → ℕ → List Word → Parsed Statement
parse k x key ws =
    must (allowed k x.open-body ws) 10 key
    (must (counted k (length ws)) 5 key
    (then (values_of (seen_in x) (form_of k (length ws)) 0 ws) (λ xs.
    checked k x key ws xs)))
