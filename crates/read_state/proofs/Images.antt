-- What each statement does to the tables in mid-text: the rows it stores make the image of the state after it. Each table by `Stored`; the others are untouched.
use Prim.Native.Nat.{ℕ, suc, ◌+◌, ◌*◌, ◌≤◌}
use mathlib.Core.Path.{◌≡◌, refl, sym, ap, ◌∙◌}
use mathlib.Core.List.{List, [], ◌∷◌, ◌++◌, append_assoc, append-nil}
use mathlib.Core.Option.{none, some}
use native.Mathlib.Omega.{arith}
use lib.ListN.{length}
use lib.Seq.{sets}
use lib.IntN.{ℤ, pos}
use Rattle.lists.specs.Lists.{flat, filled}
use Rattle.tables.specs.Tables.{Tables}
use Rattle.tables.proofs.Flat.{flat_append}
use Rattle.references.specs.Corner.{Corner}
use Rattle.model.specs.Model.{VertexKind, geometric, texture, normal, parametric, Names, Shape, Free, ParmDirection, along-u, along-v, plain, free, Body, Loop, Element, Model, Form, Open, State}
use Rattle.model.specs.Statements.{vertex, element, body, parameters, loop, apply, with_loop, with_parameters}
use Rattle.model.specs.Room.{Rooms, summed, of_kind, part_count}
use Rattle.model.specs.Layout.{run_of, listed, free_number, beginning, corner_row, corner_rows, element_row, element_rows, body_of_kind, bodies_of, range_row, loop_row, span_row, loop_rows, span_rows}
use Rattle.read_state.specs.Changed.{row_stored, rows_of, table_of, width_of, room_of, Wide, state, element_stored, range_stored, loops_stored}
use Rattle.read_state.specs.Image.{image_of}
use Rattle.model.proofs.Rows.{summed-append, element_rows-append, loop_rows-length, span_rows-length, part_rows-length, spans-length}
use Rattle.read_state.proofs.Stored.{stored_at, vertex-stored, corners-stored, element-stored}

module _ (R : Rooms) (x : State) where
  pub vertex-image : (k : VertexKind) (z : List ℤ) → Wide x.model.vertices → length z ≡ width_of k
      → width_of k * length (rows_of k x.model.vertices) + width_of k ≤ room_of k R
      → row_stored k (sets (table_of k (image_of R x)) (width_of k * length (rows_of k x.model.vertices)) z) (image_of R x) ≡ image_of R (apply (vertex k z) x)
  unfolding image_of
  vertex-image geometric z w l h = ap (λ (r : List ℤ). row_stored geometric r (image_of R x)) (vertex-stored R.vertices.v 4 x.model.vertices.v z (w.rows geometric) l h)
  vertex-image texture z w l h = ap (λ (r : List ℤ). row_stored texture r (image_of R x)) (vertex-stored R.vertices.vt 3 x.model.vertices.vt z (w.rows texture) l h)
  vertex-image normal z w l h = ap (λ (r : List ℤ). row_stored normal r (image_of R x)) (vertex-stored R.vertices.vn 3 x.model.vertices.vn z (w.rows normal) l h)
  vertex-image parametric z w l h = ap (λ (r : List ℤ). row_stored parametric r (image_of R x)) (vertex-stored R.vertices.vp 4 x.model.vertices.vp z (w.rows parametric) l h)

-- ---- elements and bodies: a state taken apart by its body that has no end yet
module _ (R : Rooms) (m : Model) (n : Names) (f : Form) where
  -- p, l, f
  pub element-image : (k : Shape) (cs : List Corner) →
      let e : Element = record { kind = plain k; corners = cs; names = n } in
      let c : ℕ = summed (λ e. length e.corners) m.elements in
      let b : ℕ = summed (λ e. of_kind (λ b. 1) e.kind) m.elements in
      let t : Tables = image_of R (state m n f none) in
      3 * c + 3 * length cs ≤ R.elements.corners → 9 * length m.elements + 9 ≤ R.elements.elements
      → element_stored (sets t.elements.corners (3 * c) (flat corner_row cs)) (sets t.elements.elements (9 * length m.elements) (element_row (3 * c) b e)) t
      ≡ image_of R (apply (element k cs) (state m n f none))
  unfolding image_of
  element-image k cs h i =
      let e : Element = record { kind = plain k; corners = cs; names = n } in
      let es : List Element = m.elements in
      let q : es ++ [] ≡ es = append-nil es in
      let q' : (es ++ e ∷ []) ++ [] ≡ es ++ e ∷ [] = append-nil (es ++ e ∷ []) in
      let bq : bodies_of (es ++ e ∷ []) ≡ bodies_of es = flat_append (λ e. body_of_kind e.kind) es (e ∷ []) ∙ append-nil (bodies_of es) in
      let t : Tables = image_of R (state m n f none) in
      let c1 : sets t.elements.corners (3 * summed (λ e. length e.corners) es) (flat corner_row cs) ≡ filled R.elements.corners 0 (flat corner_rows ((es ++ e ∷ []) ++ [])) =
      rw (q, q') (corners-stored R.elements.corners es e h) in
      let e1 : sets t.elements.elements (9 * length es) (element_row (3 * summed (λ e. length e.corners) es) (summed (λ e. of_kind (λ b. 1) e.kind) es) e) ≡ filled R.elements.elements 0 (element_rows 0 0 ((es ++ e ∷ []) ++ [])) =
      rw (q, q') (element-stored R.elements.elements es e i) in
      rw (c1, e1, bq) refl

  -- the element and the controls of curv, curv2, surf, with its range as r
  pub body-image : (b : Body) (cs : List Corner) (r : List ℤ) →
      let o : Open = record { body = b; controls = cs; names = n } in
      let e : Element = record { kind = free b; corners = cs; names = n } in
      let c : ℕ = summed (λ e. length e.corners) m.elements in
      let k : ℕ = summed (λ e. of_kind (λ b. 1) e.kind) m.elements in
      let t : Tables = image_of R (state m n f none) in
      b.loops ≡ [] → r ≡ filled R.bodies.ranges (pos 0) (flat range_row (bodies_of m.elements ++ b ∷ []))
      → 3 * c + 3 * length cs ≤ R.elements.corners → 9 * length m.elements + 9 ≤ R.elements.elements
      → range_stored r (element_stored (sets t.elements.corners (3 * c) (flat corner_row cs)) (sets t.elements.elements (9 * length m.elements) (element_row (3 * c) k e)) t)
      ≡ image_of R (apply (body b cs) (state m n f none))
  unfolding image_of
  body-image b cs r nl rr h i =
      let e : Element = record { kind = free b; corners = cs; names = n } in
      let es : List Element = m.elements in
      let bs : List Body = bodies_of es in
      let q : es ++ [] ≡ es = append-nil es in
      let p : bs ++ [] ≡ bs = append-nil bs in
      let t : Tables = image_of R (state m n f none) in
      let c1 : sets t.elements.corners (3 * summed (λ e. length e.corners) es) (flat corner_row cs) ≡ filled R.elements.corners 0 (flat corner_rows (es ++ e ∷ [])) =
      rw q (corners-stored R.elements.corners es e h) in
      let e1 : sets t.elements.elements (9 * length es) (element_row (3 * summed (λ e. length e.corners) es) (summed (λ e. of_kind (λ b. 1) e.kind) es) e) ≡ filled R.elements.elements 0 (element_rows 0 0 (es ++ e ∷ [])) =
      rw q (element-stored R.elements.elements es e i) in
      let l1 : flat loop_rows (bs ++ b ∷ []) ≡ flat loop_rows (bs ++ []) =
      flat_append loop_rows bs (b ∷ []) ∙ ap (λ (x : List Loop). flat loop_rows bs ++ (flat loop_row x ++ [])) nl ∙ append-nil (flat loop_rows bs) ∙ ap (flat loop_rows) (sym p) in
      let s1 : flat span_rows (bs ++ b ∷ []) ≡ flat span_rows (bs ++ []) =
      flat_append span_rows bs (b ∷ []) ∙ ap (λ (x : List Loop). flat span_rows bs ++ (flat (λ l. flat span_row l.parts) x ++ [])) nl ∙ append-nil (flat span_rows bs) ∙ ap (flat span_rows) (sym p) in
      rw (c1, e1, rr, l1, s1) refl

  -- a body in the place of another that has the same rows in mid-text
  pub body-instead : (o : Open) (b : Body) → b.free ≡ o.body.free → range_row b ≡ range_row o.body → loop_rows b ≡ loop_rows o.body → span_rows b ≡ span_rows o.body
      → image_of R (state m n f (some (record { body = b; controls = o.controls; names = o.names }))) ≡ image_of R (state m n f (some o))
  unfolding image_of
  body-instead o b fe re le se =
      let e : Element = record { kind = free o.body; corners = o.controls; names = o.names } in
      let e' : Element = record { kind = free b; corners = o.controls; names = o.names } in
      let es : List Element = m.elements in
      let bs : List Body = bodies_of es in
      let c : ℕ = 0 + 3 * summed (λ e. length e.corners) es in
      let k : ℕ = 0 + summed (λ e. of_kind (λ x. 1) e.kind) es in
      let row : element_row c k e' ≡ element_row c k e = ap (λ (x : Free). free_number x ∷ c ∷ length o.controls ∷ suc k ∷ o.names.smoothing ∷ (run_of o.names.group).place ∷ (run_of o.names.group).length ∷ (run_of (listed o.names.material)).place ∷ (run_of (listed o.names.material)).length ∷ []) fe in
      let er : element_rows 0 0 (es ++ e' ∷ []) ≡ element_rows 0 0 (es ++ e ∷ []) =
      element_rows-append 0 0 es (e' ∷ []) ∙ ap (λ (r : List ℕ). element_rows 0 0 es ++ (r ++ [])) row ∙ sym (element_rows-append 0 0 es (e ∷ [])) in
      let cr : flat corner_rows (es ++ e' ∷ []) ≡ flat corner_rows (es ++ e ∷ []) = flat_append corner_rows es (e' ∷ []) ∙ sym (flat_append corner_rows es (e ∷ [])) in
      let rr : flat range_row (bs ++ b ∷ []) ≡ flat range_row (bs ++ o.body ∷ []) = flat_append range_row bs (b ∷ []) ∙ ap (λ (r : List ℤ). flat range_row bs ++ (r ++ [])) re ∙ sym (flat_append range_row bs (o.body ∷ [])) in
      let lr : flat loop_rows (bs ++ b ∷ []) ≡ flat loop_rows (bs ++ o.body ∷ []) = flat_append loop_rows bs (b ∷ []) ∙ ap (λ (r : List ℕ). flat loop_rows bs ++ (r ++ [])) le ∙ sym (flat_append loop_rows bs (o.body ∷ [])) in
      let sr : flat span_rows (bs ++ b ∷ []) ≡ flat span_rows (bs ++ o.body ∷ []) = flat_append span_rows bs (b ∷ []) ∙ ap (λ (r : List ℤ). flat span_rows bs ++ (r ++ [])) se ∙ sym (flat_append span_rows bs (o.body ∷ [])) in
      rw (er, cr, rr, lr, sr) refl

  -- parm: its numbers stand in no table before `end`
  pub parameters-image : (d : ParmDirection) (z : List ℤ) (o : Open) → image_of R (apply (parameters d z) (state m n f (some o))) ≡ image_of R (state m n f (some o))
  parameters-image along-u z o = body-instead o (with_parameters along-u z o.body) refl refl refl refl
  parameters-image along-v z o = body-instead o (with_parameters along-v z o.body) refl refl refl refl

  -- trim, hole: c loop parts stand in the tables
  pub loop-image : (l : Loop) (o : Open) →
      let t : Tables = image_of R (state m n f (some o)) in
      let c : ℕ = summed part_count (bodies_of m.elements) + part_count o.body in
      2 * c + 2 * length l.parts ≤ R.bodies.loops → 2 * c + 2 * length l.parts ≤ R.bodies.spans
      → loops_stored (sets t.bodies.loops (2 * c) (loop_row l)) (sets t.bodies.spans (2 * c) (flat span_row l.parts)) t ≡ image_of R (apply (loop l) (state m n f (some o)))
  unfolding image_of
  loop-image l o h i =
      let bs : List Body = bodies_of m.elements in
      let b : Body = o.body in
      let b' : Body = with_loop l b in
      let e : Element = record { kind = free b; corners = o.controls; names = o.names } in
      let e' : Element = record { kind = free b'; corners = o.controls; names = o.names } in
      let es : List Element = m.elements in
      let c : ℕ = summed part_count bs + part_count b in
      let cs : summed part_count (bs ++ b ∷ []) ≡ c = summed-append part_count bs (b ∷ []) ∙ (let q : summed part_count bs + (part_count b + 0) ≡ summed part_count bs + part_count b = omega arith in q) in
      let ll : 2 * c ≡ length (flat loop_rows (bs ++ b ∷ [])) = ap (λ (k : ℕ). 2 * k) (sym cs) ∙ sym (loop_rows-length (bs ++ b ∷ [])) in
      let sl : 2 * c ≡ length (flat span_rows (bs ++ b ∷ [])) = ap (λ (k : ℕ). 2 * k) (sym cs) ∙ sym (span_rows-length (bs ++ b ∷ [])) in
      let lw : length (loop_row l) ≡ 2 * length l.parts = part_rows-length (beginning l.hole) l.parts in
      let sw : length (flat span_row l.parts) ≡ 2 * length l.parts = spans-length l.parts in
      let lb : flat loop_row (b.loops ++ l ∷ []) ≡ flat loop_row b.loops ++ loop_row l = flat_append loop_row b.loops (l ∷ []) ∙ ap (λ (r : List ℕ). flat loop_row b.loops ++ r) (append-nil (loop_row l)) in
      let sb : flat (λ l. flat span_row l.parts) (b.loops ++ l ∷ []) ≡ flat (λ l. flat span_row l.parts) b.loops ++ flat span_row l.parts =
      flat_append (λ l. flat span_row l.parts) b.loops (l ∷ []) ∙ ap (λ (r : List ℤ). flat (λ l. flat span_row l.parts) b.loops ++ r) (append-nil (flat span_row l.parts)) in
      let la : flat loop_rows (bs ++ b ∷ []) ++ loop_row l ≡ flat loop_rows (bs ++ b' ∷ []) =
      ap (λ (r : List ℕ). r ++ loop_row l) (flat_append loop_rows bs (b ∷ []) ∙ ap (λ (r : List ℕ). flat loop_rows bs ++ r) (append-nil (loop_rows b)))
      ∙ append_assoc (flat loop_rows bs) (loop_rows b) (loop_row l)
      ∙ ap (λ (r : List ℕ). flat loop_rows bs ++ r) (sym lb ∙ sym (append-nil (loop_rows b')))
      ∙ sym (flat_append loop_rows bs (b' ∷ [])) in
      let sa : flat span_rows (bs ++ b ∷ []) ++ flat span_row l.parts ≡ flat span_rows (bs ++ b' ∷ []) =
      ap (λ (r : List ℤ). r ++ flat span_row l.parts) (flat_append span_rows bs (b ∷ []) ∙ ap (λ (r : List ℤ). flat span_rows bs ++ r) (append-nil (span_rows b)))
      ∙ append_assoc (flat span_rows bs) (span_rows b) (flat span_row l.parts)
      ∙ ap (λ (r : List ℤ). flat span_rows bs ++ r) (sym sb ∙ sym (append-nil (span_rows b')))
      ∙ sym (flat_append span_rows bs (b' ∷ [])) in
      let l1 : sets (filled R.bodies.loops 0 (flat loop_rows (bs ++ b ∷ []))) (2 * c) (loop_row l) ≡ filled R.bodies.loops 0 (flat loop_rows (bs ++ b' ∷ [])) =
      stored_at R.bodies.loops 0 (flat loop_rows (bs ++ b ∷ [])) (loop_row l) (2 * c) ll (omega arith) ∙ ap (λ (r : List ℕ). filled R.bodies.loops 0 r) la in
      let s1 : sets (filled R.bodies.spans (pos 0) (flat span_rows (bs ++ b ∷ []))) (2 * c) (flat span_row l.parts) ≡ filled R.bodies.spans (pos 0) (flat span_rows (bs ++ b' ∷ [])) =
      stored_at R.bodies.spans (pos 0) (flat span_rows (bs ++ b ∷ [])) (flat span_row l.parts) (2 * c) sl (omega arith) ∙ ap (λ (r : List ℤ). filled R.bodies.spans (pos 0) r) sa in
      let er : element_rows 0 0 (es ++ e ∷ []) ≡ element_rows 0 0 (es ++ e' ∷ []) = element_rows-append 0 0 es (e ∷ []) ∙ sym (element_rows-append 0 0 es (e' ∷ [])) in
      let cr : flat corner_rows (es ++ e ∷ []) ≡ flat corner_rows (es ++ e' ∷ []) = flat_append corner_rows es (e ∷ []) ∙ sym (flat_append corner_rows es (e' ∷ [])) in
      let rr : flat range_row (bs ++ b ∷ []) ≡ flat range_row (bs ++ b' ∷ []) = flat_append range_row bs (b ∷ []) ∙ sym (flat_append range_row bs (b' ∷ [])) in
      rw (l1, s1, er, cr, rr) refl
