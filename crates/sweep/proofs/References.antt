-- Tables that nothing is wrong with: each number of a corner is 0 or that of a used record, and the corners of the elements follow on.
use Prim.Native.Nat.{ℕ, zero, suc, ◌+◌, ◌*◌, ◌-◌, ◌≤◌, ◌<◌}
use mathlib.Core.Path.{◌≡◌, refl, sym, ap, ◌∙◌}
use mathlib.Core.List.{List}
use mathlib.Core.Bool.{Bool, true, false, cond, not, ◌&&◌}
use native.Mathlib.Omega.{arith}
use borrow.Author.Tests.{eqb-true}
use lib.Dec.{eqb}
use lib.IntN.{ℤ, pos}
use lib.Signed.{le_z}
use Rattle.lists.proofs.Tests.{and_left, and_right}
use Rattle.tables.specs.Tables.{Tables}
use Rattle.tables.specs.Records.{element_at, corner_at, value_at}
use Rattle.tables.specs.declared.Used.{Used}
use Rattle.tables.specs.declared.Corner.{Corner}
use Rattle.model.specs.Model.{VertexKind, geometric, texture, normal, parametric}
use Rattle.record_rules.specs.Vertices.{vertex_obeys, parameter_vertex_obeys, control_obeys}
use Rattle.record_rules.specs.Corners.{with_texture, with_normal, attribute_obeys, point_obeys, corner_obeys}
use Rattle.record_rules.proofs.OneVertex.{Vertex, vertex-facts, parameter-facts}
use Rattle.record_rules.proofs.Element.{obeys-facts}
use Rattle.table_rules.specs.Whole.{ends_before, whole_obeys}
use Rattle.sweep_marks.specs.Marks.{corners_upto}
use Rattle.sweep.specs.Named.{used_of_kind, reference}
use Rattle.sweep.proofs.Whole.{Whole, whole_parts, elements-facts, runs-at, runs-end}

pub control-facts : (l : List ℤ) (used k : ℕ) → control_obeys l used k ≡ true → Vertex 4 l used k
unfolding control_obeys
control-facts l used k h = parameter-facts l used k (and_left (parameter_vertex_obeys l used k) (le_z (pos 2) (value_at 4 l (k - 1) 0)) h)

-- a vt or vn is 0 or a record
pub attribute-within : (allowed : Bool) (l : List ℤ) (used first k : ℕ) → attribute_obeys allowed l used first k ≡ true → k ≤ used
unfolding attribute_obeys
attribute-within allowed l used first k = go (eqb k 0) refl
  where
    go : (z : Bool) → eqb k 0 ≡ z → cond z (eqb first 0) (allowed && not (eqb first 0) && vertex_obeys 3 l used k) ≡ true → k ≤ used
    go true e h = let q = eqb-true k 0 e in omega arith
    go false e h = (vertex-facts 3 l used k (and_right (allowed && not (eqb first 0)) (vertex_obeys 3 l used k) h)).used-one

-- ---- a corner
pub record CornerParts (used : Used) (t : Tables) (kind : ℕ) (first c : Corner) : Type 0 where
  pub point : point_obeys used t.vertices.v t.vertices.vp kind c.v ≡ true
  pub vt : attribute_obeys (with_texture kind) t.vertices.vt used.vt first.vt c.vt ≡ true
  pub vn : attribute_obeys (with_normal kind) t.vertices.vn used.vn first.vn c.vn ≡ true

module _ (used : Used) (t : Tables) (kind : ℕ) (first c : Corner) where
  pub corner-parts : corner_obeys used t kind first c ≡ true → CornerParts used t kind first c
  unfolding corner_obeys
  corner-parts h =
      let p = point_obeys used t.vertices.v t.vertices.vp kind c.v in
      let a = attribute_obeys (with_texture kind) t.vertices.vt used.vt first.vt c.vt in
      let b = attribute_obeys (with_normal kind) t.vertices.vn used.vn first.vn c.vn in
      let two = and_left (p && a) b h in
      record { point = and_left p a two; vt = and_right p a two; vn = and_right (p && a) b h }

  -- what it names is used
  pub reference-within : CornerParts used t kind first c → (k : VertexKind) → reference k kind c ≤ used_of_kind k used
  unfolding point_obeys
  reference-within p geometric = go (eqb kind 5) p.point
    where
      go : (b : Bool) → cond b (control_obeys t.vertices.vp used.vp c.v) (vertex_obeys 4 t.vertices.v used.v c.v) ≡ true → cond b 0 c.v ≤ used.v
      go true h = omega arith
      go false h = (vertex-facts 4 t.vertices.v used.v c.v h).used-one
  reference-within p texture = attribute-within (with_texture kind) t.vertices.vt used.vt first.vt c.vt p.vt
  reference-within p normal = attribute-within (with_normal kind) t.vertices.vn used.vn first.vn c.vn p.vn
  reference-within p parametric = go (eqb kind 5) p.point
    where
      go : (b : Bool) → cond b (control_obeys t.vertices.vp used.vp c.v) (vertex_obeys 4 t.vertices.v used.v c.v) ≡ true → cond b c.v 0 ≤ used.vp
      go true h = (control-facts t.vertices.vp used.vp c.v h).used-one
      go false h = omega arith

-- ---- all of them
module _ (used : Used) (t : Tables) where
  upto-ends : (n : ℕ) → (ends_before t n).corners ≡ corners_upto t.elements.elements n
  upto-ends zero = refl
  upto-ends (suc n) = ap (λ (k : ℕ). k + 3 * (element_at t n).corners.count) (upto-ends n)

  module _ (h : whole_obeys used t ≡ true) where
    abbrev parts : Whole used t
    parts = whole_parts used t h

    pub references-within : (kind : VertexKind) (i j : ℕ) → i < used.elements → j < (element_at t i).corners.count →
        reference kind (element_at t i).kind (corner_at t (element_at t i).corners j) ≤ used_of_kind kind used
    references-within kind i j l k =
        let e = element_at t i in
        let o = obeys-facts used t _ i (elements-facts used t parts.elements i l) in
        let first = corner_at t e.corners 0 in
        let c = corner_at t e.corners j in
        reference-within used t e.kind first c (corner-parts used t e.kind first c (o.corners.each j k)) kind

    pub corners-follow : (i : ℕ) → i < used.elements → (element_at t i).corners.first ≡ corners_upto t.elements.elements i
    corners-follow i l = eqb-true _ _ (and_left (eqb (element_at t i).corners.first (ends_before t i).corners) _ (runs-at used t parts.runs i l)) ∙ upto-ends i

    pub corners-end : corners_upto t.elements.elements used.elements ≡ used.corners
    corners-end =
        let n = ends_before t used.elements in
        let a = eqb n.corners used.corners in
        let b = eqb n.bodies used.bodies in
        let c = eqb n.parameters used.parameters in
        let d = eqb n.parts used.loops in
        sym (upto-ends used.elements) ∙ eqb-true _ _ (and_left a b (and_left (a && b) c (and_left (a && b && c) d (runs-end used t parts.runs))))
