-- What `end` does to the tables: the body's record, its parameters and, of a curv2, its range make the image of the state after it.
use Prim.Native.Nat.{ℕ, suc, ◌+◌, ◌*◌, ◌≤◌}
use mathlib.Core.Path.{◌≡◌, refl, sym, ap, ◌∙◌}
use mathlib.Core.List.{List, [], ◌∷◌, ◌++◌, append-nil}
use mathlib.Core.Option.{some}
use lib.ListN.{length}
use lib.Seq.{sets}
use lib.IntN.{ℤ, pos}
use Rattle.lists.specs.Lists.{flat, filled}
use Rattle.tables.specs.Tables.{Tables}
use Rattle.tables.proofs.Flat.{flat_append}
use Rattle.model.specs.Model.{Names, Free, curve, curve2, surface, free, Body, Element, Model, Form, Open}
use Rattle.model.specs.Statements.{end, apply, settled, closed}
use Rattle.model.specs.Room.{Rooms, summed, of_kind, part_count}
use Rattle.model.specs.Layout.{run_of, listed, free_number, corner_rows, element_row, element_rows, body_row, body_of_kind, bodies_of, range_row, parameter_row, loop_rows, span_rows}
use Rattle.read_state.specs.Image.{image_of}
use Rattle.model.proofs.Rows.{element_rows-append}
use Rattle.read_state.proofs.Stored.{body-stored, parameters-stored}
use Rattle.read_state.specs.Changed.{state, body_stored}

-- settling a range changes nothing else
module _ (b : Body) where
  pub settled-free : (k : Free) → (settled k b).free ≡ b.free
  settled-free curve = refl
  settled-free curve2 = refl
  settled-free surface = refl

  pub settled-loops : (k : Free) → (settled k b).loops ≡ b.loops
  settled-loops curve = refl
  settled-loops curve2 = refl
  settled-loops surface = refl

  pub settled-us : (k : Free) → (settled k b).us ≡ b.us
  settled-us curve = refl
  settled-us curve2 = refl
  settled-us surface = refl

  pub settled-vs : (k : Free) → (settled k b).vs ≡ b.vs
  settled-vs curve = refl
  settled-vs curve2 = refl
  settled-vs surface = refl

module _ (R : Rooms) (m : Model) (n : Names) (f : Form) (o : Open) where
  abbrev bodies : List Body
  bodies = bodies_of m.elements

  abbrev last : Body
  last = settled o.body.free o.body

  pub end-image : (r : List ℤ) →
      let t : Tables = image_of R (state m n f (some o)) in
      let p : ℕ = summed (λ b. length b.us + length b.vs) bodies in
      let l : ℕ = summed part_count bodies in
      r ≡ filled R.bodies.ranges (pos 0) (flat range_row (bodies ++ last ∷ []))
      → 9 * length bodies + 9 ≤ R.bodies.bodies → p + length (parameter_row last) ≤ R.bodies.parameters
      → body_stored (sets t.bodies.bodies (9 * length bodies) (body_row p l last)) r (sets t.bodies.parameters p (parameter_row last)) t ≡ image_of R (apply end (state m n f (some o)))
  unfolding image_of
  end-image r rr h i =
      let es : List Element = m.elements in
      let e : Element = record { kind = free o.body; corners = o.controls; names = o.names } in
      let e' : Element = closed o in
      let q' : (es ++ e' ∷ []) ++ [] ≡ es ++ e' ∷ [] = append-nil (es ++ e' ∷ []) in
      let bq : bodies_of (es ++ e' ∷ []) ≡ bodies ++ last ∷ [] = flat_append (λ e. body_of_kind e.kind) es (e' ∷ []) in
      let bq' : bodies_of (es ++ e' ∷ []) ++ [] ≡ bodies ++ last ∷ [] = append-nil (bodies_of (es ++ e' ∷ [])) ∙ bq in
      let c : ℕ = 0 + 3 * summed (λ e. length e.corners) es in
      let k : ℕ = 0 + summed (λ e. of_kind (λ x. 1) e.kind) es in
      let row : element_row c k e ≡ element_row c k e' = ap (λ (x : Free). free_number x ∷ c ∷ length o.controls ∷ suc k ∷ o.names.smoothing ∷ (run_of o.names.group).place ∷ (run_of o.names.group).length ∷ (run_of (listed o.names.material)).place ∷ (run_of (listed o.names.material)).length ∷ []) (sym (settled-free o.body o.body.free)) in
      let er : element_rows 0 0 (es ++ e ∷ []) ≡ element_rows 0 0 (es ++ e' ∷ []) =
      element_rows-append 0 0 es (e ∷ []) ∙ ap (λ (r : List ℕ). element_rows 0 0 es ++ (r ++ [])) row ∙ sym (element_rows-append 0 0 es (e' ∷ [])) in
      let cr : flat corner_rows (es ++ e ∷ []) ≡ flat corner_rows (es ++ e' ∷ []) = flat_append corner_rows es (e ∷ []) ∙ sym (flat_append corner_rows es (e' ∷ [])) in
      let lp : loop_rows o.body ≡ loop_rows last = ap (λ l. flat Rattle.model.specs.Layout.loop_row l) (sym (settled-loops o.body o.body.free)) in
      let sp : span_rows o.body ≡ span_rows last = ap (λ l. flat (λ l. flat Rattle.model.specs.Layout.span_row l.parts) l) (sym (settled-loops o.body o.body.free)) in
      let lr : flat loop_rows (bodies ++ o.body ∷ []) ≡ flat loop_rows (bodies ++ last ∷ []) = flat_append loop_rows bodies (o.body ∷ []) ∙ ap (λ (r : List ℕ). flat loop_rows bodies ++ (r ++ [])) lp ∙ sym (flat_append loop_rows bodies (last ∷ [])) in
      let sr : flat span_rows (bodies ++ o.body ∷ []) ≡ flat span_rows (bodies ++ last ∷ []) = flat_append span_rows bodies (o.body ∷ []) ∙ ap (λ (r : List ℤ). flat span_rows bodies ++ (r ++ [])) sp ∙ sym (flat_append span_rows bodies (last ∷ [])) in
      rw (body-stored R.bodies.bodies bodies last h, rr, parameters-stored R.bodies.parameters bodies last i, er, cr, lr, sr, q', bq, append-nil (bodies ++ last ∷ [])) refl
