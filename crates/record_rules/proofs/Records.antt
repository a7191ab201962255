-- An element with its body at hand is held against the rules as the element at its index is.
use Prim.Native.Nat.{ℕ, ◌+◌, ◌*◌, ◌≤◌}
use mathlib.Core.Path.{◌≡◌, refl}
use mathlib.Core.List.{[]}
use mathlib.Core.Bool.{cond}
use borrow.Author.Tests.{le-leb}
use lib.Dec.{leb, eqb}
use lib.ListN.{length}
use Rattle.tables.specs.Tables.{Tables, tables}
use Rattle.tables.specs.Records.{element_at}
use Rattle.tables.specs.Asking.{asked_body}
use Rattle.tables.specs.declared.Used.{Used}
use Rattle.tables.specs.declared.Element.{Element}
use Rattle.tables.specs.declared.Body.{Body}
use Rattle.record_rules.specs.Corners.{corner_obeys, each_corner, corners_obey}
use Rattle.record_rules.specs.Loops.{each_part, loops_obey}
use Rattle.record_rules.specs.Bodies.{surface_obeys, record_obeys}
use Rattle.record_rules.specs.Rules.{obeys, element_obeys, records_obey}
use Rattle.record_rules.proofs.Bodied.{body_is}
use Rattle.record_rules.proofs.OneBody.{record-counted}

-- an element and its body look at their own tables alone
pub records-lent : (used : Used) (t : Tables) (curves : ℕ) (e : Element) (b : Body)
    → records_obey used (tables t.vertices.v t.vertices.vt t.vertices.vn t.vertices.vp t.elements.corners [] [] [] t.bodies.parameters t.bodies.loops t.bodies.spans) curves e b ≡ records_obey used t curves e b
unfolding records_obey corners_obey each_corner corner_obeys record_obeys surface_obeys loops_obey each_part
records-lent used t curves e b = refl

-- curv2 elements are counted for loop parts alone
pub records-counted : (used : Used) (t : Tables) (curves : ℕ) (e : Element) (b : Body)
    → records_obey used t (cond (eqb b.loops 0) 0 curves) e b ≡ records_obey used t curves e b
unfolding records_obey
records-counted used t curves e b = rw (record-counted used t curves e.kind e.corners.count b)

pub records-are : (used : Used) (t : Tables) (curves i : ℕ) → 9 * i + 9 ≤ length t.elements.elements
    → records_obey used t curves (element_at t i) (asked_body used t.bodies.bodies t.bodies.ranges (element_at t i).body) ≡ obeys used t curves i
unfolding records_obey obeys element_obeys
records-are used t curves i lent =
    let e = element_at t i in
    rw (le-leb (9 * i + 9) (length t.elements.elements) lent, body_is used t curves e.kind e.corners.count e.body)
