-- The tests of an element and of a corner, taken apart and put together.
use Prim.Native.Nat.{ℕ, ◌+◌, ◌*◌, ◌≤◌, ◌<◌}
use mathlib.Core.Path.{◌≡◌}
use mathlib.Core.Bool.{true, cond, ◌&&◌}
use lib.ListN.{length}
use lib.Dec.{leb, eqb}
use Rattle.lists.proofs.Tests.{and_left, and_right, and_both}
use Rattle.tables.specs.Tables.{Tables}
use Rattle.tables.specs.Records.{element_at, corner_at}
use Rattle.tables.specs.declared.Used.{Used}
use Rattle.tables.specs.declared.Corner.{Corner}
use Rattle.tables.specs.declared.Element.{Element}
use Rattle.model.specs.Model.{VertexKind}
use Rattle.record_rules.specs.Corners.{corner_obeys, corners_obey}
use Rattle.record_rules.specs.Bodies.{body_obeys}
use Rattle.record_rules.specs.Rules.{element_obeys, obeys}
use Rattle.record_rules.proofs.Facts.{Corners, corners-facts}
use Rattle.sweep_marks.specs.Counting.{reference}
use Rattle.sweep.specs.Named.{used_of_kind}
use Rattle.swept_files.specs.Promises.{reference_in}
use Rattle.sweep.proofs.References.{CornerParts, corner-parts, reference-within}

-- ---- an element
pub record ElementParts (used : Used) (t : Tables) (curves : ℕ) (e : Element) : Type 0 where
  pub own : (leb 1 e.kind && leb e.kind 6 && leb e.smoothing 65535) ≡ true
  pub corners : corners_obey used t e.kind e.corners ≡ true
  pub body : cond (leb e.kind 3) (eqb e.body 0) (body_obeys used t curves e.kind e.corners.count e.body) ≡ true

module _ (used : Used) (t : Tables) (curves : ℕ) where
  pub element-parts : (e : Element) → element_obeys used t curves e ≡ true → ElementParts used t curves e
  unfolding element_obeys
  element-parts e h =
      let own = leb 1 e.kind && leb e.kind 6 && leb e.smoothing 65535 in
      let c = corners_obey used t e.kind e.corners in
      let b = cond (leb e.kind 3) (eqb e.body 0) (body_obeys used t curves e.kind e.corners.count e.body) in
      let two = and_left (own && c) b h in
      record { own = and_left own c two; corners = and_right own c two; body = and_right (own && c) b h }

  pub element-of : (e : Element) → ElementParts used t curves e → element_obeys used t curves e ≡ true
  unfolding element_obeys
  element-of e p = and_both (and_both p.own p.corners) p.body

  pub obeys-lent : (i : ℕ) → obeys used t curves i ≡ true → leb (9 * i + 9) (length t.elements.elements) ≡ true
  unfolding obeys
  obeys-lent i h = and_left (leb (9 * i + 9) (length t.elements.elements)) (element_obeys used t curves (element_at t i)) h

  pub obeys-element : (i : ℕ) → obeys used t curves i ≡ true → element_obeys used t curves (element_at t i) ≡ true
  unfolding obeys
  obeys-element i h = and_right (leb (9 * i + 9) (length t.elements.elements)) (element_obeys used t curves (element_at t i)) h

  pub obeys-of : (i : ℕ) → leb (9 * i + 9) (length t.elements.elements) ≡ true → element_obeys used t curves (element_at t i) ≡ true → obeys used t curves i ≡ true
  unfolding obeys
  obeys-of i a b = and_both a b

-- ---- a corner
module _ (used : Used) (t : Tables) (kind : ℕ) (first c : Corner) where
  pub corner-of : CornerParts used t kind first c → corner_obeys used t kind first c ≡ true
  unfolding corner_obeys
  corner-of p = and_both (and_both p.point p.vt) p.vn

module _ (used : Used) (t : Tables) (curves i : ℕ) (h : obeys used t curves i ≡ true) where
  pub corners-there : Corners used t (element_at t i).kind (element_at t i).corners
  corners-there =
      let e = element_at t i in
      corners-facts used t e.kind e.corners (element-parts used t curves e (obeys-element used t curves i h)).corners

  pub corner-there : (j : ℕ) → j < (element_at t i).corners.count
      → CornerParts used t (element_at t i).kind (corner_at t (element_at t i).corners 0) (corner_at t (element_at t i).corners j)
  corner-there j l =
      let e = element_at t i in
      corner-parts used t e.kind (corner_at t e.corners 0) (corner_at t e.corners j) (corners-there.each j l)

  pub held-within : (k : VertexKind) (j : ℕ) → j < (element_at t i).corners.count → reference_in k t i j ≤ used_of_kind k used
  held-within k j l =
      let e = element_at t i in
      reference-within used t e.kind (corner_at t e.corners 0) (corner_at t e.corners j) (corner-there j l) k
