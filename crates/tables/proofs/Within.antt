-- Room in a group of tables is room in each of them: one test taken apart, group by group.
use Prim.Native.Nat.{ℕ, ◌≤◌}
use mathlib.Core.Path.{◌≡◌}
use mathlib.Core.Bool.{Bool, true, ◌&&◌}
use lib.Dec.{leb}
use borrow.Author.Tests.{le-leb, leb-true}
use Rattle.lists.proofs.Tests.{and_left, and_right, and_both}
use Rattle.tables.specs.VertexTables.{VertexRooms, vertex_within}
use Rattle.tables.specs.ElementTables.{ElementRooms, element_within}
use Rattle.tables.specs.BodyTables.{BodyRooms, body_within}

pub last : (t : Bool) (m n : ℕ) → (t && leb m n) ≡ true → (t ≡ true) × (m ≤ n)
last t m n h = (and_left t (leb m n) h, leb-true m n (and_right t (leb m n) h))

-- ---- v, vt, vn, vp
pub record VerticesWithin (a b : VertexRooms) : Type 0 where
  pub v : a.v ≤ b.v
  pub vt : a.vt ≤ b.vt
  pub vn : a.vn ≤ b.vn
  pub vp : a.vp ≤ b.vp

module _ (a b : VertexRooms) where
  pub vertices-parts : vertex_within a b ≡ true → VerticesWithin a b
  vertices-parts h =
      let p = last _ a.vp b.vp h in
      let n = last _ a.vn b.vn p.0 in
      let t = last (leb a.v b.v) a.vt b.vt n.0 in
      record { v = leb-true a.v b.v t.0; vt = t.1; vn = n.1; vp = p.1 }

  pub parts-vertices : VerticesWithin a b → vertex_within a b ≡ true
  parts-vertices w =
      and_both (and_both (and_both (le-leb a.v b.v w.v) (le-leb a.vt b.vt w.vt)) (le-leb a.vn b.vn w.vn)) (le-leb a.vp b.vp w.vp)

-- ---- corners, elements
pub record ElementsWithin (a b : ElementRooms) : Type 0 where
  pub corners : a.corners ≤ b.corners
  pub elements : a.elements ≤ b.elements

module _ (a b : ElementRooms) where
  pub elements-parts : element_within a b ≡ true → ElementsWithin a b
  elements-parts h =
      let e = last (leb a.corners b.corners) a.elements b.elements h in
      record { corners = leb-true a.corners b.corners e.0; elements = e.1 }

  pub parts-elements : ElementsWithin a b → element_within a b ≡ true
  parts-elements w = and_both (le-leb a.corners b.corners w.corners) (le-leb a.elements b.elements w.elements)

-- ---- bodies, ranges, parameters, loops, spans
pub record BodiesWithin (a b : BodyRooms) : Type 0 where
  pub bodies : a.bodies ≤ b.bodies
  pub ranges : a.ranges ≤ b.ranges
  pub parameters : a.parameters ≤ b.parameters
  pub loops : a.loops ≤ b.loops
  pub spans : a.spans ≤ b.spans

module _ (a b : BodyRooms) where
  pub bodies-parts : body_within a b ≡ true → BodiesWithin a b
  bodies-parts h =
      let s = last _ a.spans b.spans h in
      let l = last _ a.loops b.loops s.0 in
      let p = last _ a.parameters b.parameters l.0 in
      let r = last (leb a.bodies b.bodies) a.ranges b.ranges p.0 in
      record { bodies = leb-true a.bodies b.bodies r.0; ranges = r.1; parameters = p.1; loops = l.1; spans = s.1 }

  pub parts-bodies : BodiesWithin a b → body_within a b ≡ true
  parts-bodies w =
      and_both
      (and_both
      (and_both (and_both (le-leb a.bodies b.bodies w.bodies) (le-leb a.ranges b.ranges w.ranges)) (le-leb a.parameters b.parameters w.parameters))
      (le-leb a.loops b.loops w.loops))
      (le-leb a.spans b.spans w.spans)
