-- Must be believed: a promise reaches every definition of this file.
-- Refusal 15: "its records (names aside) or a vertex they name break a rule above or pass the used or lent entries".
use Rattle.std.specs.Prelude.{ℕ, zero, suc, ◌+◌, ◌*◌, List, Bool, cond, ◌&&◌, length, leb, eqb}
use Rattle.tables.specs.Tables.{Tables}
use Rattle.tables.specs.Records.{element_at, number_at, element_width, face_kind, curve2_kind, surface_kind}
use Rattle.tables.specs.declared.Element.{Element}
use Rattle.tables.specs.declared.Body.{Body}
use Rattle.tables.specs.declared.Used.{Used}
use Rattle.record_rules.specs.Corners.{corners_obey}
use Rattle.record_rules.specs.Bodies.{body_obeys, record_obeys}

-- "Smoothing: off (0) or 1 to 5 digits, at most 65,535"; p, l and f have no body; `bodied` is what is asked of the body of a curv, curv2 or surf
abbrev pub element_with : (bodied : Bool) → Used → Tables → Element → Bool
element_with bodied used t e =
    leb 1 e.kind
    && leb e.kind surface_kind
    && leb e.smoothing 65535
    && corners_obey used t e.kind e.corners
    && cond (leb e.kind face_kind) (eqb e.body 0) bodied

unfoldable pub element_obeys : Used → Tables → ℕ → Element → Bool
element_obeys used t curves e = element_with (body_obeys used t curves e.kind e.corners.count e.body) used t e

-- the element at index i obeys every rule; `curves` is the number of curv2 elements before it. That i is used is 17's to ask.
unfoldable pub obeys : Used → Tables → ℕ → ℕ → Bool
obeys used t curves i = leb (element_width * i + element_width) (length t.elements.elements) && element_obeys used t curves (element_at t i)

-- "k means the k-th of its kind so far": the curv2 elements at indices below i
abbrev pub curves_among : List ℕ → ℕ → ℕ
curves_among elements zero = zero
curves_among elements (suc i) = curves_among elements i + cond (eqb (number_at element_width elements i 0) curve2_kind) 1 0

abbrev pub curves_before : Tables → ℕ → ℕ
curves_before t i = curves_among t.elements.elements i

-- an element with its body at hand, after `curves` curv2 elements
unfoldable pub records_obey : Used → Tables → ℕ → Element → Body → Bool
records_obey used t curves e b = element_with (record_obeys used t curves e.kind e.corners.count b) used t e
