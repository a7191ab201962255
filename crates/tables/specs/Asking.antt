-- Must be believed: a promise reaches every definition of this file.
-- 01, "Records": "Asking for an element's group or material gives back that part of the caller's own text"; and asking for an element, for a corner of one and for a body. An element's and a body's number count from 1, a corner's from 0.
use Rattle.std.specs.Prelude.{ℕ, ◌+◌, ◌*◌, ◌-◌, List, [], Bool, cond, ◌&&◌, length, take, drop, ltb, leb, ℤ}
use Rattle.tables.specs.Records.{element_width, body_width, range_width, corner_width, element_in, body_in, corner_place, corner_in}
use Rattle.tables.specs.declared.Used.{Used}
use Rattle.tables.specs.declared.NameRun.{NameRun}
use Rattle.tables.specs.declared.Element.{Element}
use Rattle.tables.specs.declared.Body.{Body}
use Rattle.tables.specs.declared.Corner.{Corner}

-- the record of that number, of w numbers, is among the used ones and stands whole within a lent length
unfoldable pub held : ℕ → ℕ → ℕ → ℕ → Bool
held number used w lent = leb 1 number && leb number used && leb (w * number) lent

-- all zeros, as every number past a table's end is
abbrev pub no_element : Element
no_element = element_in [] 0

-- the element of that number, all zeros for no such element
unfoldable pub asked_element : Used → List ℕ → ℕ → Element
asked_element used elements number =
    cond (held number used.elements element_width (length elements)) (element_in elements (number - 1)) no_element

-- the body of that number is held, and its range too
unfoldable pub body_held : Used → List ℕ → List ℤ → ℕ → Bool
body_held used bodies ranges number = held number used.bodies body_width (length bodies) && leb (range_width * number) (length ranges)

abbrev pub no_body : Body
no_body = body_in [] [] 0

-- the body of that number, all zeros for no such body
unfoldable pub asked_body : Used → List ℕ → List ℤ → ℕ → Body
asked_body used bodies ranges number = cond (body_held used bodies ranges number) (body_in bodies ranges (number - 1)) no_body

abbrev pub no_corner : Corner
no_corner = corner_in [] 0

-- corner k of an element, three zeros for one that it lacks or that passes the used or the lent entries; the used corners are counted in numbers
unfoldable pub corner_with : Used → List ℕ → Element → ℕ → Corner
corner_with used corners e k =
    let at = corner_place e.corners k in
    cond
    (ltb k e.corners.count && leb (at + corner_width) used.corners && leb (at + corner_width) (length corners))
    (corner_in corners at)
    no_corner

unfoldable pub asked_corner : Used → List ℕ → List ℕ → ℕ → ℕ → Corner
asked_corner used elements corners number k = corner_with used corners (asked_element used elements number) k

-- "that part of the caller's own text"; "a run past the text's end, gives an empty part"
unfoldable pub part_of : List ℕ → NameRun → List ℕ
part_of text run = cond (leb (run.place + run.length) (length text)) (take run.length (drop run.place text)) []

-- "Place and length are 0 where none is set": the empty part then, and for no such element
unfoldable pub asked_group : List ℕ → Used → List ℕ → ℕ → List ℕ
asked_group text used elements number = part_of text (asked_element used elements number).group

unfoldable pub asked_material : List ℕ → Used → List ℕ → ℕ → List ℕ
asked_material text used elements number = part_of text (asked_element used elements number).material
