-- An element that obeys its rules obeys them after a sweep: its corners name what they named, and its body is the same.
use Prim.Native.Nat.{ℕ, zero, suc, ◌+◌, ◌*◌, ◌≤◌, ◌<◌}
use mathlib.Core.Path.{◌≡◌, refl, ap, ap₂, ◌∙◌}
use mathlib.Core.Bool.{Bool, true, false, cond}
use native.Mathlib.Omega.{arith}
use borrow.Author.Tests.{le-leb}
use lib.ListN.{length}
use lib.Dec.{leb, eqb}
use Rattle.lists.proofs.Tests.{and_both}
use Rattle.tables.specs.Tables.{Tables}
use Rattle.tables.specs.Records.{element_at, corner_at}
use Rattle.tables.specs.declared.Used.{Used}
use Rattle.tables.specs.declared.Corner.{Corner}
use Rattle.tables.specs.declared.Element.{Element}
use Rattle.tables.proofs.Filled.{length-filled}
use Rattle.model.specs.Model.{VertexKind, geometric, texture, normal, parametric}
use Rattle.record_rules.specs.Vertices.{vertex_obeys, control_obeys}
use Rattle.record_rules.specs.Corners.{least_corners, with_texture, with_normal, point_obeys, corner_obeys, each_corner, corners_obey}
use Rattle.record_rules.specs.Bodies.{body_obeys}
use Rattle.record_rules.specs.Rules.{element_obeys, obeys, curves_before}
use Rattle.record_rules.proofs.Below.{below_all}
use Rattle.record_rules.proofs.OneVertex.{vertex-facts}
use Rattle.sweep_marks.specs.Counting.{reference, new_number}
use Rattle.sweep.specs.Named.{named, corners_after}
use Rattle.sweep.specs.Swept.{swept_used, swept_tables}
use Rattle.sweep.proofs.References.{control-facts, CornerParts}
use Rattle.swept_files.proofs.OneKind.{moved_to}
use Rattle.swept_files.proofs.Others.{lengths, elements_same}
use Rattle.swept_files.proofs.CornersAfter.{renumber, corners-length, corners-table, corner-after, named-held}
use Rattle.swept_files.proofs.VertexAfter.{vertex-after, control-after, attribute-after}
use Rattle.swept_files.proofs.ElementParts.{element-parts, element-of, obeys-lent, obeys-element, obeys-of, corner-of, corners-there, corner-there}
use Rattle.swept_files.proofs.BodyAfter.{body-after}
use Rattle.swept_files.proofs.Counted.{same-counts}
use Rattle.swept_files.proofs.Standing.{Standing}

module _ (used : Used) (t : Tables) (s : Standing used t) where
  abbrev U : Used
  U = swept_used used t

  abbrev W : Tables
  W = swept_tables used t

  -- ---- a corner
  point-after : (e k : ℕ) → named used t geometric (cond (eqb e 5) 0 k) ≡ true → named used t parametric (cond (eqb e 5) k 0) ≡ true
      → point_obeys used t.vertices.v t.vertices.vp e k ≡ true
      → point_obeys U W.vertices.v W.vertices.vp e (cond (eqb e 5) (new_number (named used t parametric) k) (new_number (named used t geometric) k)) ≡ true
  unfolding point_obeys
  point-after e k = go (eqb e 5)
    where
      go : (b : Bool) → named used t geometric (cond b 0 k) ≡ true → named used t parametric (cond b k 0) ≡ true
          → cond b (control_obeys t.vertices.vp used.vp k) (vertex_obeys 4 t.vertices.v used.v k) ≡ true
          → cond b (control_obeys W.vertices.vp U.vp (cond b (new_number (named used t parametric) k) (new_number (named used t geometric) k)))
          (vertex_obeys 4 W.vertices.v U.v (cond b (new_number (named used t parametric) k) (new_number (named used t geometric) k))) ≡ true
      go true g p h =
          let v = control-facts t.vertices.vp used.vp k h in
          control-after t.vertices.vp W.vertices.vp used.vp U.vp k (new_number (named used t parametric) k) (moved_to used t s.lent parametric k v.some v.used-one p) h
      go false g p h =
          let v = vertex-facts 4 t.vertices.v used.v k h in
          vertex-after 4 t.vertices.v W.vertices.v used.v U.v k (new_number (named used t geometric) k) (moved_to used t s.lent geometric k v.some v.used-one g) h

  -- a corner each of whose references names a record, or none
  pub record Names (e : ℕ) (c : Corner) : Type 0 where
    pub all : (kind : VertexKind) → named used t kind (reference kind e c) ≡ true

  parts-after : (e : ℕ) (first c : Corner) → Names e first → Names e c → CornerParts used t e first c → CornerParts U W e (renumber used t e first) (renumber used t e c)
  parts-after e first c f n p =
      record {
        point = point-after e c.v (n.all geometric) (n.all parametric) p.point;
        vt = attribute-after (named used t texture) (with_texture e) t.vertices.vt W.vertices.vt used.vt U.vt first.vt c.vt (f.all texture) (n.all texture)
            (λ a b. moved_to used t s.lent texture c.vt a b (n.all texture)) p.vt;
        vn = attribute-after (named used t normal) (with_normal e) t.vertices.vn W.vertices.vn used.vn U.vn first.vn c.vn (f.all normal) (n.all normal)
            (λ a b. moved_to used t s.lent normal c.vn a b (n.all normal)) p.vn;
      }

  pub corners-lent : length W.elements.corners ≡ length t.elements.corners
  corners-lent =
      ap length (corners-table used t)
      ∙ length-filled (length t.elements.corners) 0 (corners_after used t)
      (let a = corners-length used t in let b = s.corners in let c = s.lent.elements.corners in omega arith)

  -- ---- an element
  module _ (i : ℕ) (h : i < used.elements) where
    abbrev e : Element
    e = element_at t i

    names : (j : ℕ) → j < e.corners.count → Names e.kind (corner_at t e.corners j)
    names j l = record { all = λ kind. named-held used t kind i j h l }

    each_after : (j : ℕ) → j < e.corners.count → corner_obeys U W e.kind (corner_at W e.corners 0) (corner_at W e.corners j) ≡ true
    each_after j l =
        let z : 0 < e.corners.count = omega arith in
        let n = curves_before t i in
        ap₂ (corner_obeys U W e.kind) (corner-after used t i 0 h z (s.follows i h)) (corner-after used t i j h l (s.follows i h))
        ∙ corner-of U W e.kind (renumber used t e.kind (corner_at t e.corners 0)) (renumber used t e.kind (corner_at t e.corners j))
        (parts-after e.kind (corner_at t e.corners 0) (corner_at t e.corners j) (names 0 z) (names j l) (corner-there used t n i (s.obeys i h) j l))

    corners-after : corners_obey U W e.kind e.corners ≡ true
    unfolding corners_obey each_corner
    corners-after =
        let c = corners-there used t (curves_before t i) i (s.obeys i h) in
        and_both
        (and_both
        (and_both (le-leb (e.corners.first + 3 * e.corners.count) U.corners (let a = c.used-run in let b = (same-counts used t).corners in omega arith))
        (le-leb (e.corners.first + 3 * e.corners.count) (length W.elements.corners) (let a = c.lent-run in let b = corners-lent in omega arith)))
        (le-leb (least_corners e.kind) e.corners.count c.least))
        (below_all (λ k. corner_obeys U W e.kind (corner_at W e.corners 0) (corner_at W e.corners k)) e.corners.count each_after)

    body-part : (n : ℕ) → (b : Bool) → cond b (eqb e.body 0) (body_obeys used t n e.kind e.corners.count e.body) ≡ true
        → cond b (eqb e.body 0) (body_obeys U W n e.kind e.corners.count e.body) ≡ true
    body-part n true q = q
    body-part n false q = body-after used t s.lent e.body n e.kind e.corners.count q

    element-after : element_obeys U W (curves_before t i) e ≡ true
    element-after =
        let n = curves_before t i in
        let p = element-parts used t n e (obeys-element used t n i (s.obeys i h)) in
        element-of U W n e (record { own = p.own; corners = corners-after; body = body-part n (leb e.kind 3) p.body })

  curves-after : (i : ℕ) → i ≤ used.elements → curves_before W i ≡ curves_before t i
  curves-after zero h = refl
  curves-after (suc i) h =
      ap₂ (λ (x y : ℕ). x + cond (eqb y 5) 1 0) (curves-after i (omega arith)) (ap (λ (e : Element). e.kind) (elements_same used t s.lent i h))

  pub obeys-after : (i : ℕ) → i < used.elements → obeys U W (curves_before W i) i ≡ true
  obeys-after i h =
      let n = curves_before t i in
      ap (λ (n : ℕ). obeys U W n i) (curves-after i (omega arith))
      ∙ obeys-of U W n i (ap (leb (9 * i + 9)) (lengths used t s.lent).elements ∙ obeys-lent used t n i (s.obeys i h))
      (ap (element_obeys U W n) (elements_same used t s.lent i h) ∙ element-after i h)
