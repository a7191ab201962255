-- An `end` line: what `close_body` kept is the image of the state after it, and what it refused is refused by 01's order, 14 last.
use Prim.Native.Nat.{ℕ, ◌+◌, ◌*◌, ◌-◌, ◌≤◌, ◌<◌}
use mathlib.Core.Path.{◌≡◌, refl, sym, ap, ap₂, ◌∙◌, subst}
use mathlib.Core.List.{List, [], ◌∷◌, ◌++◌}
use mathlib.Core.Bool.{Bool, true, false, cond}
use mathlib.Core.Option.{none, some}
use mathlib.Core.Logic.{⊎_elim}
use native.Mathlib.Omega.{arith}
use lib.ListN.{length, get_or, length-append}
use lib.Seq.{sets, get_or-append-add}
use lib.Dec.{eqb}
use lib.IntN.{ℤ, pos}
use Rattle.lists.specs.Lists.{flat, filled}
use Rattle.lists.proofs.Tests.{test}
use Rattle.text.specs.Words.{Word}
use Rattle.text.specs.Rest.{Rest, rest_at, push, EndMet}
use Rattle.tables.specs.Tables.{Tables}
use Rattle.tables.specs.Bodies.{basis_number}
use Rattle.tables.specs.declared.Used.{Used}
use Rattle.tables.proofs.Filled.{length-filled}
use Rattle.tables.proofs.Flat.{get_d-table}
use Rattle.keywords.specs.Keywords.{statement_of}
use Rattle.model.specs.Model as model
use Rattle.model.specs.Model.{Body, Model, Open}
use Rattle.model.specs.Statements.{end, apply, settled, closed}
use Rattle.model.specs.Parse.{fine, fault, ends, parse}
use Rattle.model.proofs.Pieces.{finished}
use Rattle.model.specs.Room.{Rooms, summed, of_kind, part_count, fits}
use Rattle.model.specs.Layout.{flag, free_number, body_row, body_rows, bodies_of, range_row, parameter_row}
use Rattle.model.specs.Read.{carried_in}
use Rattle.read_state.specs.declared.State.{State}
use Rattle.read_state.specs.declared.Form.{Form}
use Rattle.read_state.specs.State.{StateIs, form_in, used_in}
use Rattle.read_state.specs.Image.{image_of}
use Rattle.model.proofs.Rows.{summed-append, body_rows-length, range_rows-length, parameter_rows-length, bodies-length, bodies-summed}
use Rattle.read_state.specs.Bounds.{Bounded}
use Rattle.read_state.specs.Changed.{state, body_stored}
use Rattle.read_state.proofs.Ends.{end-image, settled-us, settled-vs, settled-loops}
use Rattle.model.proofs.Rooms.{fits-parts, parts-fit}
use Rattle.read_bodies.specs.Closing.{open_body_in, closing_refusal, Stored, NotStored}
use Rattle.read_bodies.proofs.Ends.{Stands, finished-is, refusal_is, kept-says, kept-counts, kept-room, kept-parameters, kept-body, kept-range, left-room}
use Rattle.read_body_lines.specs.OpenBody.{form_for, curves_with, closed_with}
use Rattle.read_body_lines.proofs.Settled.{range-anew, form-is, row_settled, parameters-settled, curves-after}
use Rattle.read_vertex_lines.specs.Holding.{Holds, NextLine, line_says}
use Rattle.read_vertex_lines.proofs.Steps.{line-fine, line-fault, line-roomless, line-bounded, next-is}
use Rattle.read_body_lines.proofs.Loops.{used-loops}

module _ (R : Rooms) (s : List ℕ) (p at : ℕ) {read : ℕ} (m : Model) (n : model.Names) (f : model.Form) (o : Open) (c : State) (t : Tables) (h : Holds R s (state m n f (some o)) c t read) where
  abbrev x : model.State
  x = state m n f (some o)

  abbrev bodies : List Body
  bodies = bodies_of m.elements

  abbrev parameters_in : ℕ
  parameters_in = summed (λ b. length b.us + length b.vs) bodies

  abbrev last : Body
  last = settled o.body.free o.body

  -- ---- the counts and the lengths, as the image has them
  pub used-bodies : c.used.bodies ≡ length bodies + 1
  used-bodies = ap (λ (u : Used). u.bodies) h.state.used ∙ ap (λ (i : ℕ). i + 1) (sym (bodies-length m.elements))

  used-parameters : c.used.parameters ≡ parameters_in
  used-parameters = ap (λ (u : Used). u.parameters) h.state.used ∙ sym (bodies-summed (λ b. length b.us + length b.vs) m.elements)

  pub bodies-room : 9 * length bodies + 9 ≤ R.bodies.bodies
  bodies-room = let r = (fits-parts R x h.room).bodies.bodies in let e = bodies-length m.elements in omega arith

  pub ranges-room : 4 * length bodies + 4 ≤ R.bodies.ranges
  ranges-room = let r = (fits-parts R x h.room).bodies.ranges in let e = bodies-length m.elements in omega arith

  pub bodies-lent : length t.bodies.bodies ≡ R.bodies.bodies
  unfolding image_of
  bodies-lent =
      let r = bodies-room in
      let l = body_rows-length 0 0 bodies in
      ap (λ (u : Tables). length u.bodies.bodies) h.image ∙ length-filled R.bodies.bodies 0 (body_rows 0 0 bodies) (omega arith)

  pub ranges-lent : length t.bodies.ranges ≡ R.bodies.ranges
  unfolding image_of
  ranges-lent =
      let r = ranges-room in
      let l = range_rows-length (bodies ++ o.body ∷ []) in
      let e = length-append bodies (o.body ∷ []) in
      ap (λ (u : Tables). length u.bodies.ranges) h.image ∙ length-filled R.bodies.ranges (pos 0) (flat range_row (bodies ++ o.body ∷ [])) (omega arith)

  parameters-lent : length t.bodies.parameters ≡ R.bodies.parameters
  unfolding image_of
  parameters-lent =
      let r = (fits-parts R x h.room).bodies.parameters in
      let l = parameter_rows-length bodies in
      let e = bodies-summed (λ b. length b.us + length b.vs) m.elements in
      ap (λ (u : Tables). length u.bodies.parameters) h.image ∙ length-filled R.bodies.parameters (pos 0) (flat parameter_row bodies) (omega arith)

  -- ---- the open body is the one that the numbers stand for
  before-it : c.used.bodies - 1 ≡ length bodies
  before-it = let e = used-bodies in omega arith

  last_one : get_or (bodies ++ o.body ∷ []) (length bodies) o.body ≡ o.body
  last_one =
      ap (λ (i : ℕ). get_or (bodies ++ o.body ∷ []) i o.body) (let e : length bodies ≡ length bodies + 0 = omega arith in e)
      ∙ get_or-append-add bodies (o.body ∷ []) 0 o.body

  range_at : (k : ℕ) → k < 4 → get_or t.bodies.ranges (4 * (c.used.bodies - 1) + k) (pos 0) ≡ get_or (range_row o.body) k (pos 0)
  unfolding image_of
  range_at k l =
      let e = length-append bodies (o.body ∷ []) in
      ap₂ (λ (r : List ℤ) (i : ℕ). get_or r (4 * i + k) (pos 0)) (ap (λ (u : Tables). u.bodies.ranges) h.image) before-it
      ∙ get_d-table range_row 4 (λ b. refl) R.bodies.ranges (pos 0) (bodies ++ o.body ∷ []) (length bodies) k o.body (omega arith) l
      ∙ ap (λ (b : Body). get_or (range_row b) k (pos 0)) last_one

  abbrev form : Form
  form = form_for c.«open».kind c.form

  form-there : form ≡ form_for (free_number o.body.free) (form_in f)
  form-there = ap₂ form_for h.state.open-body.kind h.state.form

  pub stands : Stands s s form c.«open» c.used t.bodies.ranges o
  stands =
      let i = form-is o.body.free f h.body.numbers in
      record {
        basis = ap (λ (g : Form). g.basis) form-there ∙ i.basis ∙ ap basis_number (sym h.body.basis-is);
        rational = ap (λ (g : Form). g.rational) form-there ∙ ap flag (sym h.body.rational-is);
        degree-u = ap (λ (g : Form). g.degree_u) form-there ∙ i.degree-u ∙ sym h.body.degree-u-is;
        degree-v = ap (λ (g : Form). g.degree_v) form-there ∙ i.degree-v ∙ sym h.body.degree-v-is;
        kind = h.state.open-body.kind;
        controls = h.state.open-body.controls;
        parts = h.state.open-body.parts;
        u = h.state.open-body.u;
        v = h.state.open-body.v;
        start-u = ap (λ (i : ℕ). get_or t.bodies.ranges i (pos 0)) (let e : 4 * (c.used.bodies - 1) ≡ 4 * (c.used.bodies - 1) + 0 = omega arith in e) ∙ range_at 0 (omega arith);
        end-u = range_at 1 (omega arith);
        start-v = range_at 2 (omega arith);
        end-v = range_at 3 (omega arith);
      }

  -- ---- counts and room after the end
  longer : length (m.elements ++ closed o ∷ []) ≡ length m.elements + 1
  longer = length-append m.elements (closed o ∷ [])

  corners-after : summed (λ e. length e.corners) (m.elements ++ closed o ∷ []) ≡ summed (λ e. length e.corners) m.elements + (length o.controls + 0)
  corners-after = summed-append (λ e. length e.corners) m.elements (closed o ∷ [])

  kinds : (g : Body → ℕ) → summed (λ e. of_kind g e.kind) (m.elements ++ closed o ∷ []) ≡ summed (λ e. of_kind g e.kind) m.elements + (g last + 0)
  kinds g = summed-append (λ e. of_kind g e.kind) m.elements (closed o ∷ [])

  parameters-more : summed (λ e. of_kind (λ b. length b.us + length b.vs) e.kind) (m.elements ++ closed o ∷ []) ≡ parameters_in + (length o.body.us + length o.body.vs)
  parameters-more =
      let k = kinds (λ b. length b.us + length b.vs) in
      let u = ap length (settled-us o.body o.body.free) in
      let v = ap length (settled-vs o.body o.body.free) in
      let e = bodies-summed (λ b. length b.us + length b.vs) m.elements in
      omega arith

  parts_more : summed (λ e. of_kind part_count e.kind) (m.elements ++ closed o ∷ []) ≡ summed (λ e. of_kind part_count e.kind) m.elements + part_count o.body
  parts_more =
      let k = kinds part_count in
      let l : part_count last ≡ part_count o.body = ap (summed (λ l. length l.parts)) (settled-loops o.body o.body.free) in
      omega arith

  roomy : parameters_in + (length o.body.us + length o.body.vs) ≤ R.bodies.parameters → fits R (apply end x) ≡ true
  roomy a =
      let w = fits-parts R x h.room in
      let i = corners-after in
      let j = kinds (λ b. 1) in
      let q = parameters-more in
      let r = parts_more in
      let l = longer in
      parts-fit R (apply end x)
      (record { vertices = w.vertices; elements = omega (arith, w.elements); bodies = omega (arith, w.bodies) })

  tight : fits R (apply end x) ≡ true → parameters_in + (length o.body.us + length o.body.vs) ≤ R.bodies.parameters
  tight y = let w = fits-parts R (apply end x) y in let q = parameters-more in omega (arith, w.bodies.parameters)

  used-after : (u v : ℕ) → u ≡ length o.body.us → v ≡ length o.body.vs → (closed_with u v c).used ≡ used_in (apply end x)
  used-after u v a b =
      let i = corners-after in
      let j = kinds (λ b. 1) in
      let q = parameters-more in
      let r = parts_more in
      let l = longer in
      let e = bodies-summed (λ b. length b.us + length b.vs) m.elements in
      ap (λ (k : Used). (closed_with u v (record { used = k; curves = c.curves; names = c.names; form = c.form; «open» = c.«open» })).used) h.state.used
      ∙ rows (omega arith) (omega arith) (omega arith) (omega arith) (omega arith)
    where
      rows : {v vt vn vp c c' e e' b b' p p' l l' : ℕ} → c ≡ c' → e ≡ e' → b ≡ b' → p ≡ p' → l ≡ l'
          → ◌≡◌ {A = Used} (record { v = v; vt = vt; vn = vn; vp = vp; corners = c; elements = e; bodies = b; parameters = p; loops = l })
          (record { v = v; vt = vt; vn = vn; vp = vp; corners = c'; elements = e'; bodies = b'; parameters = p'; loops = l' })
      rows a b c d e = cc

  state-after : (u v : ℕ) → u ≡ length o.body.us → v ≡ length o.body.vs → StateIs s (apply end x) (closed_with u v c)
  state-after u v a b =
      record {
        used = used-after u v a b;
        curves = ap₂ curves_with h.state.open-body.kind h.state.curves ∙ sym (curves-after o m.elements);
        names = h.state.names;
        form = h.state.form;
        open-body = refl;
      }

  range-after : sets t.bodies.ranges (4 * length bodies) (range_row last) ≡ filled R.bodies.ranges (pos 0) (flat range_row (bodies ++ last ∷ []))
  unfolding image_of
  range-after =
      ap (λ (u : Tables). sets u.bodies.ranges (4 * length bodies) (range_row last)) h.image ∙ range-anew R.bodies.ranges bodies ranges-room o.body last

  -- ---- a line that ends after the keyword
  module _ (w : Word) (begins : rest_at s p ≡ push w (rest_at s at)) (keyword : carried_in (statement_of w.bytes) w.place ≡ fine ends) (q : ℕ) (met : EndMet s at q) where
    good : (rest_at s at).bad ≡ none
    good = ap (λ (r : Rest). r.bad) met.rest

    parsed : parse ends x w.place (rest_at s at).words ≡ finished (some o) w.place
    unfolding parse
    parsed = ap (λ (r : Rest). parse ends x w.place r.words) met.rest

    module _ (b : List ℕ) (r y : List ℤ) where
      pub end-next : (u v : ℕ) → Stored form c.«open» c.used (open_body_in form c.«open» c.used s s t.bodies.ranges) t.bodies.bodies b t.bodies.ranges r t.bodies.parameters y u v
          → NextLine R s p read x (closed_with u v c) (body_stored b r y t) q × (q ≡ (rest_at s p).next)
      end-next u v k =
          let fin = kept-says s s form c.«open» c.used t.bodies.ranges o stands t.bodies.bodies b r t.bodies.parameters y w.place k in
          let counts = kept-counts s s form c.«open» c.used t.bodies.ranges o stands t.bodies.bodies b r t.bodies.parameters y w.place k in
          let fine_end : parse ends x w.place (rest_at s at).words ≡ fine end = parsed ∙ fin in
          let next : q ≡ (rest_at s at).next = sym (ap (λ (r : Rest). r.next) met.rest) in
          let up = used-parameters in
          let ul = used-loops R s p at m n f o c t h in
          let room : parameters_in + (length o.body.us + length o.body.vs) ≤ R.bodies.parameters =
          (let i = kept-room s s form c.«open» c.used t.bodies.ranges o stands t.bodies.bodies b r t.bodies.parameters y w.place k in let j = parameters-lent in omega arith) in
          let fit = roomy room in
          let row : body_row c.used.parameters (c.used.loops - part_count o.body) o.body ≡ body_row parameters_in (summed part_count bodies) last =
          ap₂ (λ (i j : ℕ). body_row i j o.body) up (let e : c.used.loops - part_count o.body ≡ summed part_count bodies = omega arith in e) ∙ sym (row_settled parameters_in (summed part_count bodies) o.body o.body.free) in
          let b' : b ≡ sets (image_of R x).bodies.bodies (9 * length bodies) (body_row parameters_in (summed part_count bodies) last) =
          kept-body s s form c.«open» c.used t.bodies.ranges o stands t.bodies.bodies b r t.bodies.parameters y w.place k
          ∙ ap₂ (λ (i : ℕ) (l : List ℕ). sets t.bodies.bodies (9 * i) l) before-it row
          ∙ ap (λ (a : Tables). sets a.bodies.bodies (9 * length bodies) (body_row parameters_in (summed part_count bodies) last)) h.image in
          let y' : y ≡ sets (image_of R x).bodies.parameters parameters_in (parameter_row last) =
          kept-parameters s s form c.«open» c.used t.bodies.ranges o stands t.bodies.bodies b r t.bodies.parameters y w.place k
          ∙ ap₂ (λ (i : ℕ) (l : List ℤ). sets t.bodies.parameters i l) up (sym (parameters-settled o.body o.body.free))
          ∙ ap (λ (a : Tables). sets a.bodies.parameters parameters_in (parameter_row last)) h.image in
          let r' : r ≡ filled R.bodies.ranges (pos 0) (flat range_row (bodies ++ last ∷ [])) =
          kept-range s s form c.«open» c.used t.bodies.ranges o stands t.bodies.bodies b r t.bodies.parameters y w.place k
          ∙ ap (λ (i : ℕ). sets t.bodies.ranges (4 * i) (range_row last)) before-it ∙ range-after in
          let long : parameters_in + length (parameter_row last) ≤ R.bodies.parameters =
          (let e = ap length (parameters-settled o.body o.body.free) in let l = length-append o.body.us o.body.vs in omega arith) in (
            record {
              after = apply end x;
              said = line-fine R s p at x w ends begins keyword end good fine_end fit;
              holds = record {
                state = state-after u v counts.0 counts.1;
                image =
                    ap₂ (λ (i : List ℕ) (j : List ℤ). body_stored i r j t) b' y'
                    ∙ ap (body_stored (sets (image_of R x).bodies.bodies (9 * length bodies) (body_row parameters_in (summed part_count bodies) last)) r (sets (image_of R x).bodies.parameters parameters_in (parameter_row last))) h.image
                    ∙ end-image R m n f o r r' bodies-room long;
                wide = h.wide;
                room = fit;
                bounded = subst (λ (j : ℕ). Bounded (read + (j - p)) (apply end x)) (sym next) (line-bounded R s p at x w ends begins keyword end fine_end h.bounded);
                body = tt;
              };
            },
            next ∙ sym (next-is R s p at x w ends begins keyword),
          )

      pub end_refused : (i : ℕ) → NotStored c.«open» c.used (open_body_in form c.«open» c.used s s t.bodies.ranges) t.bodies.bodies b t.bodies.ranges r t.bodies.parameters y i
          → line_says R s p x ≡ fault i w.place
      end_refused i k = go (eqb wrong 0) refl
        where
          wrong : ℕ
          wrong = closing_refusal o.body (length o.controls)

          number : i ≡ cond (eqb wrong 0) 14 wrong
          number = k.number ∙ ap (λ (j : ℕ). cond (eqb j 0) 14 j) (refusal_is s s form c.«open» c.used t.bodies.ranges o stands)

          go : (z : Bool) → eqb wrong 0 ≡ z → line_says R s p x ≡ fault i w.place
          go true e =
              let fin : finished (some o) w.place ≡ fine end = finished-is o w.place ∙ ap (λ (z : Bool). cond z (fine end) (fault wrong w.place)) e in
              let l = left-room s s form c.«open» c.used t.bodies.ranges o stands t.bodies.bodies b r t.bodies.parameters y w.place k fin in
              let full : fits R (apply end x) ≡ false =
              ⊎_elim (λ (z : fits R (apply end x) ≡ true). absurd (let a = tight z in let d = l.1 in let up = used-parameters in let j = parameters-lent in omega arith)) (λ z. z) (test (fits R (apply end x))) in
              line-roomless R s p at x w ends begins keyword end good (parsed ∙ fin) full ∙ ap (λ (j : ℕ). fault j w.place) (sym l.0)
          go false e =
              line-fault R s p at x w ends begins keyword i w.place good
              (parsed ∙ finished-is o w.place ∙ ap (λ (z : Bool). cond z (fine end) (fault wrong w.place)) e ∙ ap (λ (j : ℕ). fault j w.place) (sym (number ∙ ap (λ (z : Bool). cond z 14 wrong) e)))
