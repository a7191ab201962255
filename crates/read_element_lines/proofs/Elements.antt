-- A line of p, l, f: what `take_element` answers is what the line comes to, or shows that there is no room for it.
use Rattle.std.specs.Prelude.{None}
use Prim.Native.Nat.{ℕ, suc, ◌+◌, ◌*◌, ◌-◌, ◌≤◌, ◌<◌}
use mathlib.Core.Path.{◌≡◌, refl, sym, ap, ap₂, ◌∙◌, subst}
use mathlib.Core.List.{List, [], ◌∷◌, ◌++◌}
use mathlib.Core.Bool.{true, false}
use mathlib.Core.Option.{none}
use mathlib.Core.Logic.{⊎_elim}
use native.Mathlib.Omega.{arith}
use lib.ListN.{length, length-append}
use lib.Seq.{sets}
use Rattle.lists.specs.Lists.{flat}
use Rattle.lists.proofs.Tests.{test}
use Rattle.text.specs.Words.{Word}
use Rattle.text.specs.Rest.{rest_at, push}
use Rattle.references.specs.Corner.{Corner}
use Rattle.tables.specs.Tables.{Tables}
use Rattle.tables.specs.declared.Used.{Used}
use Rattle.tables.proofs.Filled.{length-filled}
use Rattle.keywords.specs.Keywords.{statement_of}
use Rattle.model.specs.Model as model
use Rattle.model.specs.Model.{Shape, plain, Element, Model}
use Rattle.model.specs.Statements.{Statement, element, apply}
use Rattle.model.specs.Parse.{fine, fault, an-element, fewest, parse}
use Rattle.model.specs.Room.{Rooms, summed, of_kind, part_count, fits}
use Rattle.model.specs.Layout.{shape_number, corner_row, corner_rows, element_row, element_rows}
use Rattle.model.specs.Read.{carried_in}
use Rattle.read_state.specs.declared.State.{State}
use Rattle.read_state.specs.declared.Names.{Names}
use Rattle.read_state.specs.State.{used_in}
use Rattle.read_state.specs.Image.{image_of}
use Rattle.model.proofs.Rows.{summed-append, corner_rows-length, element_rows-length}
use Rattle.read_state.specs.Changed.{state, element_stored}
use Rattle.read_state.proofs.Images.{element-image}
use Rattle.read_state.specs.Bounds.{Bounded}
use Rattle.model.proofs.Rooms.{fits-parts, parts-fit}
use Rattle.tables.specs.Rows.{element_numbers}
use Rattle.read_elements.specs.Elements.{rule_of, stored_element, TakenElement, NoElement}
use Rattle.read_elements.specs.Corners.{corner_said, corners_walk}
use Rattle.read_elements.proofs.Parse.{taken-parse, parse-said}
use Rattle.read_vertices.proofs.Closed.{at-least}
use Rattle.read_element_lines.specs.Counting.{one_element}
use Rattle.read_vertex_lines.specs.Stepping.{with_used}
use Rattle.read_vertex_lines.specs.Holding.{Holds, NextLine, line_says}
use Rattle.read_vertex_lines.proofs.Steps.{line-fine, line-roomless, line-bounded, next-is}

-- every shape has a corner
one-or-more : (k : Shape) → 1 ≤ fewest k
one-or-more model.point = omega arith
one-or-more model.line = omega arith
one-or-more model.face = omega arith

-- ---- before the line: no body is open, so what is used and lent is what the model's elements take
abbrev pub corners_in : Model → ℕ
corners_in m = summed (λ e. length e.corners) m.elements

abbrev pub bodies_before : Model → ℕ
bodies_before m = summed (λ e. of_kind (λ b. 1) e.kind) m.elements

module _ (R : Rooms) (s : List ℕ) {read : ℕ} (m : Model) (n : model.Names) (f : model.Form) (c : State) (t : Tables) (h : Holds R s (state m n f none) c t read) where
  pub corners-used : c.used.corners ≡ 3 * corners_in m
  corners-used = ap (λ (u : Used). u.corners) h.state.used ∙ (let e : 3 * (corners_in m + 0) ≡ 3 * corners_in m = omega arith in e)

  pub elements-used : c.used.elements ≡ length m.elements
  elements-used = ap (λ (u : Used). u.elements) h.state.used ∙ (let e : length m.elements + 0 ≡ length m.elements = omega arith in e)

  pub corners-lent : length t.elements.corners ≡ R.elements.corners
  unfolding image_of
  corners-lent =
      let r = (fits-parts R (state m n f none) h.room).elements.corners in
      let l = corner_rows-length (m.elements ++ []) in
      let e : summed (λ e. length e.corners) (m.elements ++ []) ≡ corners_in m + 0 = summed-append (λ e. length e.corners) m.elements [] in
      ap (λ (a : Tables). length a.elements.corners) h.image ∙ length-filled R.elements.corners 0 (flat corner_rows (m.elements ++ [])) (omega arith)

  pub elements-lent : length t.elements.elements ≡ R.elements.elements
  unfolding image_of
  elements-lent =
      let r = (fits-parts R (state m n f none) h.room).elements.elements in
      let l = element_rows-length 0 0 (m.elements ++ []) in
      let e : length (m.elements ++ []) ≡ length m.elements + 0 = length-append m.elements [] in
      ap (λ (a : Tables). length a.elements.elements) h.image ∙ length-filled R.elements.elements 0 (element_rows 0 0 (m.elements ++ [])) (omega arith)

module _ (R : Rooms) (s : List ℕ) (p at : ℕ) (m : Model) (n : model.Names) (f : model.Form) (c : State) (t : Tables) where
  abbrev x : model.State
  x = state m n f none

  module _ {read : ℕ} (h : Holds R s x c t read) (w : Word) (k : Shape)
      (begins : rest_at s p ≡ push w (rest_at s at)) (keyword : carried_in (statement_of w.bytes) w.place ≡ fine (an-element k)) where
    -- room for one more element is room in two tables
    module _ (cs : List Corner) where
      abbrev e : Element
      e = record { kind = plain k; corners = cs; names = n }

      sums : (summed (λ e. length e.corners) (m.elements ++ e ∷ []) ≡ corners_in m + (length cs + 0))
      sums = summed-append (λ e. length e.corners) m.elements (e ∷ [])

      kinds : (g : model.Body → ℕ) → summed (λ e. of_kind g e.kind) (m.elements ++ e ∷ []) ≡ summed (λ e. of_kind g e.kind) m.elements + 0
      kinds g = summed-append (λ e. of_kind g e.kind) m.elements (e ∷ []) ∙ (let q : summed (λ e. of_kind g e.kind) m.elements + (0 + 0) ≡ summed (λ e. of_kind g e.kind) m.elements + 0 = omega arith in q)

      longer : length (m.elements ++ e ∷ []) ≡ length m.elements + 1
      longer = length-append m.elements (e ∷ [])

      roomy : 3 * corners_in m + 3 * length cs ≤ R.elements.corners → 9 * length m.elements + 9 ≤ R.elements.elements → fits R (apply (element k cs) x) ≡ true
      roomy a b =
          let v = fits-parts R x h.room in
          let i = sums in
          let j = kinds (λ b. 1) in
          let q = kinds (λ b. length b.us + length b.vs) in
          let o = kinds part_count in
          let l = longer in
          parts-fit R (apply (element k cs) x)
          (record { vertices = v.vertices; elements = omega arith; bodies = omega (arith, v.bodies) })

      tight : fits R (apply (element k cs) x) ≡ true → (3 * corners_in m + 3 * length cs ≤ R.elements.corners) × (9 * length m.elements + 9 ≤ R.elements.elements)
      tight y =
          let v = fits-parts R (apply (element k cs) x) y in
          let i = sums in
          let l = longer in
          (omega (arith, v.elements.corners), omega (arith, v.elements.elements))

      used-after : (count : ℕ) → count ≡ length cs → one_element count c.used ≡ used_in (apply (element k cs) x)
      used-after count q =
          let i = sums in
          let j = kinds (λ b. 1) in
          let y = kinds (λ b. length b.us + length b.vs) in
          let o = kinds part_count in
          let l = longer in
          ap (one_element count) h.state.used
          ∙ rows (omega arith) (omega arith) (sym j ∙ (let z : summed (λ e. of_kind (λ b. 1) e.kind) (m.elements ++ e ∷ []) ≡ summed (λ e. of_kind (λ b. 1) e.kind) (m.elements ++ e ∷ []) + 0 = omega arith in z))
          (sym (y ∙ (let z : summed (λ e. of_kind (λ b. length b.us + length b.vs) e.kind) m.elements + 0 ≡ summed (λ e. of_kind (λ b. length b.us + length b.vs) e.kind) m.elements = omega arith in z)))
          (sym o ∙ (let z : summed (λ e. of_kind part_count e.kind) (m.elements ++ e ∷ []) ≡ summed (λ e. of_kind part_count e.kind) (m.elements ++ e ∷ []) + 0 = omega arith in z))
        where
          rows : {v vt vn vp c c' e e' b b' p p' l l' : ℕ} → c ≡ c' → e ≡ e' → b ≡ b' → p ≡ p' → l ≡ l'
              → ◌≡◌ {A = Used} (record { v = v; vt = vt; vn = vn; vp = vp; corners = c; elements = e; bodies = b; parameters = p; loops = l })
              (record { v = v; vt = vt; vn = vn; vp = vp; corners = c'; elements = e'; bodies = b'; parameters = p'; loops = l' })
          rows a b c d e = cc

    curves-same : (cs : List Corner) (es : List Element) → model.curves (es ++ record { kind = plain k; corners = cs; names = n } ∷ []) ≡ model.curves es
    curves-same cs [] = refl
    curves-same cs (y ∷ es) = ap (λ (i : ℕ). mathlib.Core.Bool.cond (model.is_curve2 y.kind) (suc i) i) (curves-same cs es)

    pub element-next : (l g : List ℕ) (count q : ℕ) → TakenElement (rule_of k) 0 c.used c.names s at t.elements.corners l t.elements.elements g count q
        → NextLine R s p read x (with_used (one_element count c.used) c) (element_stored l g t) q × (q ≡ (rest_at s p).next)
    element-next l g count q v =
        let cs : List Corner = v.found in
        let pv = taken-parse k x c.used (rest_at s at) cs q h.state.used refl v.said in
        let some-corners : 0 < count = (let a = (at-least (fewest k) (corners_walk (corner_said c.used (rule_of k).form) None (rest_at s at)) cs q v.said).1 in let b = v.counted in let d = one-or-more k in omega arith) in
        let cr : 3 * corners_in m + 3 * length cs ≤ R.elements.corners = (let a = v.corners-room some-corners in let b = v.counted in let d = corners-used R s m n f c t h in let i = corners-lent R s m n f c t h in omega arith) in
        let er : 9 * length m.elements + 9 ≤ R.elements.elements = (let a = v.elements-room in let d = elements-used R s m n f c t h in let i = elements-lent R s m n f c t h in omega arith) in
        let fit : fits R (apply (element k cs) x) ≡ true = roomy cs cr er in
        let row : element_numbers (stored_element (shape_number k) c.used.corners count 0 c.names) ≡ element_row (3 * corners_in m) (bodies_before m) (record { kind = plain k; corners = cs; names = n }) =
        ap₂ (λ (i j : ℕ). element_numbers (stored_element (shape_number k) i j 0 c.names)) (corners-used R s m n f c t h) v.counted ∙ ap (λ (a : Names). element_numbers (stored_element (shape_number k) (3 * corners_in m) (length cs) 0 a)) h.state.names in
        let l' : l ≡ sets (image_of R x).elements.corners (3 * corners_in m) (flat corner_row cs) =
        v.corners-stored ∙ ap₂ (λ (a : List ℕ) (i : ℕ). sets a i (flat corner_row cs)) (ap (λ (a : Tables). a.elements.corners) h.image) (corners-used R s m n f c t h) in
        let g' : g ≡ sets (image_of R x).elements.elements (9 * length m.elements) (element_row (3 * corners_in m) (bodies_before m) (record { kind = plain k; corners = cs; names = n })) =
        v.elements-stored ∙ ap₂ (λ (i : ℕ) (r : List ℕ). sets t.elements.elements (9 * i) r) (elements-used R s m n f c t h) row ∙ ap (λ (a : Tables). sets a.elements.elements (9 * length m.elements) (element_row (3 * corners_in m) (bodies_before m) (record { kind = plain k; corners = cs; names = n }))) h.image in
        let im : element_stored l g t ≡ image_of R (apply (element k cs) x) =
        ap₂ (λ (a b : List ℕ). element_stored a b t) l' g'
        ∙ ap (λ (a : Tables). element_stored (sets (image_of R x).elements.corners (3 * corners_in m) (flat corner_row cs)) (sets (image_of R x).elements.elements (9 * length m.elements) (element_row (3 * corners_in m) (bodies_before m) (record { kind = plain k; corners = cs; names = n }))) a) h.image
        ∙ element-image R m n f k cs cr er in (
          record {
            after = apply (element k cs) x;
            said = line-fine R s p at x w (an-element k) begins keyword (element k cs) pv.bad (pv.parsed w.place) fit;
            holds = record {
              state = record { used = used-after cs count v.counted; curves = h.state.curves ∙ sym (curves-same cs m.elements); names = h.state.names; form = h.state.form; open-body = h.state.open-body };
              image = im;
              wide = h.wide;
              room = fit;
              bounded = subst (λ (i : ℕ). Bounded (read + (i - p)) (apply (element k cs) x)) pv.next (line-bounded R s p at x w (an-element k) begins keyword (element k cs) (pv.parsed w.place) h.bounded);
              body = tt;
            };
          },
          sym (next-is R s p at x w (an-element k) begins keyword ∙ pv.next),
        )

    pub element-roomless : (l g : List ℕ) → NoElement (rule_of k) c.used s at t.elements.corners l t.elements.elements g → (rest_at s at).bad ≡ none
        → (u : Statement) → parse (an-element k) x w.place (rest_at s at).words ≡ fine u → line_says R s p x ≡ fault 14 w.place
    element-roomless l g v b u e =
        let y = parse-said k x c.used (rest_at s at) w.place u h.state.used b e in
        let cs : List Corner = y.corners in
        let short = v.short cs (rest_at s at).next y.said in
        let d = corners-used R s m n f c t h in
        let i = elements-used R s m n f c t h in
        let a = corners-lent R s m n f c t h in
        let o = elements-lent R s m n f c t h in
        let full : fits R (apply u x) ≡ false =
        ⊎_elim (λ (f : fits R (apply u x) ≡ true).
        let z = tight cs (ap (λ (a : Statement). fits R (apply a x)) (sym y.is) ∙ f) in
        let z0 = z.0 in
        let z1 = z.1 in
        absurd (⊎_elim (λ q. omega arith) (λ q. omega arith) short)) (λ f. f) (test (fits R (apply u x))) in
        line-roomless R s p at x w (an-element k) begins keyword u b e full
