-- What the passes over one kind of record leave, each as a definition over lists: marks, numbers, rows, corners. Only inner contracts cite these.
use Rattle.std.specs.Prelude.{ℕ, zero, suc, ◌+◌, List, Bool, false, cond, not, get_or, set, eqb, Option, None, Some}
use Rattle.tables.specs.Rows.{corner_numbers}
use Rattle.tables.specs.Records.{element_in, corner_in, corner_place, corners_length, curve2_kind}
use Rattle.tables.specs.declared.Used.{Used}
use Rattle.tables.specs.declared.Element.{Element}
use Rattle.tables.specs.declared.Corner.{Corner}
use Rattle.tables.specs.declared.CornerRun.{CornerRun}
use Rattle.model.specs.Model.{VertexKind, geometric, texture, normal, parametric}
use Rattle.sweep_marks.specs.Counting.{reference, any_below, flat_below}
use Rattle.sweep_marks.specs.declared.VertexTable.{VertexTable}
use Rattle.sweep_marks.specs.declared.VertexTable.TheVariants as table

abbrev pub kind_of : VertexTable → VertexKind
kind_of table.«V» = geometric
kind_of table.Vt = texture
kind_of table.Vn = normal
kind_of table.Vp = parametric

-- which number of a corner names a record of that kind, in an element of kind e
abbrev pub place_of : VertexKind → (e : ℕ) → Option ℕ
place_of geometric e = cond (eqb e curve2_kind) None (Some 0)
place_of texture e = Some 1
place_of normal e = Some 2
place_of parametric e = cond (eqb e curve2_kind) (Some 0) None

-- `named`, over the two tables that it looks at
unfoldable pub named_in_tables : ℕ → List ℕ → List ℕ → VertexKind → ℕ → Bool
named_in_tables n elements corners kind k =
    any_below n (λ i.
    any_below (element_in elements i).corners.count (λ j.
    eqb (reference kind (element_in elements i).kind (corner_in corners (corner_place (element_in elements i).corners j))) k))

-- ---- marks: record k has the entry k - 1

-- record k marked; 0 is no record
abbrev pub mark_number : List ℕ → ℕ → List ℕ
mark_number l zero = l
mark_number l (suc k) = set l k 1

-- the number in that place of corner k of a run
abbrev pub corner_number_in : List ℕ → CornerRun → (k place : ℕ) → ℕ
corner_number_in corners run k place = get_or corners (corner_place run k + place) 0

-- the marks after the number in that place of the first n corners of a run
abbrev pub mark_every : List ℕ → CornerRun → (place : ℕ) → ℕ → List ℕ → List ℕ
mark_every corners run place zero l = l
mark_every corners run place (suc n) l = mark_number (mark_every corners run place n l) (corner_number_in corners run n place)

-- the marks after the number in that place of every corner of a run
abbrev pub mark_placed : List ℕ → CornerRun → Option ℕ → List ℕ → List ℕ
mark_placed corners run None l = l
mark_placed corners run (Some place) l = mark_every corners run place run.count l

-- the marks after an element, and after the first n
abbrev pub mark_element : VertexKind → List ℕ → Element → List ℕ → List ℕ
mark_element kind corners e l = mark_placed corners e.corners (place_of kind e.kind) l

abbrev pub mark_elements : VertexKind → List ℕ → List ℕ → ℕ → List ℕ → List ℕ
mark_elements kind elements corners zero l = l
mark_elements kind elements corners (suc n) l = mark_element kind corners (element_in elements n) (mark_elements kind elements corners n l)

-- record k's entry is not 0
abbrev pub marked_in : List ℕ → ℕ → Bool
marked_in l zero = false
marked_in l (suc k) = not (eqb (get_or l k 0) 0)

-- ---- corners

-- the new number of record k of a kind whose numbers begin at `base`; 0 stays 0
abbrev pub number_listed : List ℕ → (base : ℕ) → ℕ → ℕ
number_listed numbers base zero = 0
number_listed numbers base (suc k) = get_or numbers (base + k) 0

-- a corner of an element of kind e with its new numbers
unfoldable pub corner_by : Used → List ℕ → (e : ℕ) → Corner → Corner
corner_by used numbers e c =
    record {
      v = number_listed numbers (cond (eqb e curve2_kind) (used.v + used.vt + used.vn) 0) c.v;
      vt = number_listed numbers used.v c.vt;
      vn = number_listed numbers (used.v + used.vt) c.vn;
    }

-- those of the first n corners of a run, and of the first n elements
unfoldable pub marked_run : Used → List ℕ → List ℕ → (e : ℕ) → CornerRun → (n : ℕ) → List ℕ
marked_run used numbers corners e run n =
    flat_below n (λ j. corner_numbers (corner_by used numbers e (corner_in corners (corner_place run j))))

unfoldable pub runs_by : Used → List ℕ → List ℕ → List ℕ → ℕ → List ℕ
runs_by used numbers elements corners n =
    flat_below n (λ i. marked_run used numbers corners (element_in elements i).kind (element_in elements i).corners (element_in elements i).corners.count)

-- where the corners of the first n elements end, where they follow on
abbrev pub corners_upto : List ℕ → ℕ → ℕ
corners_upto elements zero = 0
corners_upto elements (suc n) = corners_upto elements n + corners_length (element_in elements n).corners
