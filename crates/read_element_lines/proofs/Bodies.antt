-- A line of curv, curv2, surf: what `take_body_line` answers is what the line comes to, or shows that there is no room for it.
use Prim.Native.Nat.{ℕ, suc, ◌+◌, ◌*◌, ◌-◌, ◌≤◌}
use mathlib.Core.Path.{◌≡◌, refl, sym, ap, ap₂, ◌∙◌, subst}
use mathlib.Core.List.{List, [], ◌∷◌, ◌++◌, append-nil}
use mathlib.Core.Bool.{true, false}
use mathlib.Core.Option.{none}
use mathlib.Core.Logic.{⊎_elim}
use native.Mathlib.Omega.{arith}
use lib.ListN.{length}
use lib.Seq.{sets}
use lib.IntN.{ℤ, pos}
use Rattle.lists.specs.Lists.{flat, filled}
use Rattle.lists.proofs.Tests.{test}
use Rattle.text.specs.Words.{Word}
use Rattle.text.specs.Rest.{rest_at, push}
use Rattle.references.specs.Corner.{Corner}
use Rattle.tables.specs.Tables.{Tables}
use Rattle.tables.specs.declared.Used.{Used}
use Rattle.tables.proofs.Filled.{length-filled}
use Rattle.keywords.specs.Keywords.{statement_of}
use Rattle.model.specs.Model as model
use Rattle.model.specs.Model.{Free, free, Body, Element, Model}
use Rattle.model.specs.Statements.{Statement, body, apply}
use Rattle.model.specs.Parse.{fine, fault, a-body, range_words, opened_body, parse}
use Rattle.model.specs.Room.{Rooms, summed, part_count, fits}
use Rattle.model.specs.Layout.{free_number, corner_row, element_row, body_rows, range_row, bodies_of}
use Rattle.model.specs.Read.{carried_in}
use Rattle.read_state.specs.declared.State.{State}
use Rattle.read_state.specs.declared.Names.{Names}
use Rattle.read_state.specs.State.{ParmAt, used_in}
use Rattle.read_state.specs.Image.{image_of}
use Rattle.read_state.specs.Numbers.{numbers_walk}
use Rattle.model.proofs.Rows.{body_rows-length, range_rows-length, bodies-length}
use Rattle.read_state.proofs.Stored.{range-stored, half-range-stored, no-range-stored}
use Rattle.read_state.specs.Changed.{state, element_stored, range_stored}
use Rattle.read_state.proofs.Images.{body-image}
use Rattle.read_state.specs.Bounds.{Bounded}
use Rattle.read_state.proofs.Lines.{line_of, line_small}
use Rattle.model.proofs.Rooms.{fits-parts, parts-fit}
use Rattle.tables.specs.Rows.{element_numbers}
use Rattle.read_elements.specs.Elements.{stored_element}
use Rattle.read_elements.specs.Bodies.{form_in_force, controls_said, TakenBody, NoBody}
use Rattle.read_elements.proofs.BodyLines.{full-count, of-body}
use Rattle.read_elements.proofs.ParseBody.{taken-parse, parse-said}
use Rattle.read_element_lines.specs.Counting.{one_body}
use Rattle.read_vertex_lines.specs.Holding.{Opened, Holds, NextLine, line_says}
use Rattle.read_vertex_lines.proofs.Steps.{line-fine, line-roomless, line-bounded, next-is}
use Rattle.read_vertex_lines.proofs.Given.{given}
use Rattle.read_element_lines.proofs.Elements.{corners_in, bodies_before, corners-used, elements-used, corners-lent, elements-lent}

-- ---- a body that a line has begun
free-is : (k : Free) (f : model.Form) (z : List ℤ) → (opened_body k f z).free ≡ k
free-is model.curve f z = refl
free-is model.curve2 f z = refl
free-is model.surface f z = refl

begun : (k : Free) (f : model.Form) (z : List ℤ) (cs : List Corner) (n : model.Names) → Opened f (record { body = opened_body k f z; controls = cs; names = n })
begun model.curve f z cs n = record { numbers = z; basis-is = refl; rational-is = refl; degree-u-is = refl; degree-v-is = refl; start-u-is = refl; end-u-is = refl; start-v-is = refl; end-v-is = refl }
begun model.curve2 f z cs n = record { numbers = z; basis-is = refl; rational-is = refl; degree-u-is = refl; degree-v-is = refl; start-u-is = refl; end-u-is = refl; start-v-is = refl; end-v-is = refl }
begun model.surface f z cs n = record { numbers = z; basis-is = refl; rational-is = refl; degree-u-is = refl; degree-v-is = refl; start-u-is = refl; end-u-is = refl; start-v-is = refl; end-v-is = refl }

no-parts : (b : Body) → b.loops ≡ [] → part_count b ≡ 0
no-parts b e = ap (λ (a : List model.Loop). summed (λ l. length l.parts) a) e

no-parm : (s : List ℕ) (zs : List ℤ) → zs ≡ [] → ParmAt s 0 zs
no-parm s zs e = record { within = omega arith; none-there = λ z. e; some-there = λ z. absurd (omega arith) }

-- the numbers of its line are its range; a curve's other entries, and all of a curv2's, are 0 before and after
range-kept : (n : ℕ) (bs : List Body) (k : Free) (f : model.Form) (z : List ℤ) → length z ≡ range_words k → 4 * length bs + 4 ≤ n
    → sets (filled n (pos 0) (flat range_row bs)) (4 * length bs) z ≡ filled n (pos 0) (flat range_row (bs ++ opened_body k f z ∷ []))
range-kept n bs model.curve f (a ∷ b ∷ []) e h = half-range-stored n bs (opened_body model.curve f (a ∷ b ∷ [])) refl refl h
range-kept n bs model.curve f [] e h = absurd (omega arith)
range-kept n bs model.curve f (a ∷ []) e h = absurd (omega arith)
range-kept n bs model.curve f (a ∷ b ∷ c ∷ z) e h = absurd (omega arith)
range-kept n bs model.curve2 f [] e h = no-range-stored n bs (opened_body model.curve2 f []) refl refl refl refl h
range-kept n bs model.curve2 f (a ∷ z) e h = absurd (omega arith)
range-kept n bs model.surface f (a ∷ b ∷ c ∷ d ∷ []) e h = range-stored n bs (opened_body model.surface f (a ∷ b ∷ c ∷ d ∷ [])) h
range-kept n bs model.surface f [] e h = absurd (omega arith)
range-kept n bs model.surface f (a ∷ []) e h = absurd (omega arith)
range-kept n bs model.surface f (a ∷ b ∷ []) e h = absurd (omega arith)
range-kept n bs model.surface f (a ∷ b ∷ c ∷ []) e h = absurd (omega arith)
range-kept n bs model.surface f (a ∷ b ∷ c ∷ d ∷ e₂ ∷ z) e h = absurd (omega arith)

module _ (R : Rooms) (s : List ℕ) (p at : ℕ) {read : ℕ} (m : Model) (n : model.Names) (f : model.Form) (c : State) (t : Tables) (h : Holds R s (state m n f none) c t read) where
  abbrev x : model.State
  x = state m n f none

  bodies-used : c.used.bodies ≡ bodies_before m
  bodies-used = ap (λ (u : Used). u.bodies) h.state.used ∙ (let e : bodies_before m + 0 ≡ bodies_before m = omega arith in e)

  bodies-lent : length t.bodies.bodies ≡ R.bodies.bodies
  unfolding image_of
  bodies-lent =
      let r = (fits-parts R x h.room).bodies.bodies in
      let l = body_rows-length 0 0 (bodies_of m.elements) in
      let e = bodies-length m.elements in
      ap (λ (a : Tables). length a.bodies.bodies) h.image ∙ length-filled R.bodies.bodies 0 (body_rows 0 0 (bodies_of m.elements)) (omega arith)

  ranges-are : t.bodies.ranges ≡ filled R.bodies.ranges (pos 0) (flat range_row (bodies_of m.elements))
  unfolding image_of
  ranges-are = ap (λ (a : Tables). a.bodies.ranges) h.image ∙ ap (λ (bs : List Body). filled R.bodies.ranges (pos 0) (flat range_row bs)) (append-nil (bodies_of m.elements))

  ranges-lent : length t.bodies.ranges ≡ R.bodies.ranges
  ranges-lent =
      let r = (fits-parts R x h.room).bodies.ranges in
      let l = range_rows-length (bodies_of m.elements) in
      let e = bodies-length m.elements in
      ap length ranges-are ∙ length-filled R.bodies.ranges (pos 0) (flat range_row (bodies_of m.elements)) (omega arith)

  -- room for one body more is room in four tables
  module _ (b : Body) (cs : List Corner) where
    roomy : b.loops ≡ [] → 3 * corners_in m + 3 * length cs ≤ R.elements.corners → 9 * length m.elements + 9 ≤ R.elements.elements → 9 * bodies_before m + 9 ≤ R.bodies.bodies → 4 * bodies_before m + 4 ≤ R.bodies.ranges
        → fits R (apply (body b cs) x) ≡ true
    roomy l q e i j =
        let v = fits-parts R x h.room in
        let o = no-parts b l in
        parts-fit R (apply (body b cs) x)
        (record { vertices = v.vertices; elements = omega arith; bodies = omega (arith, v.bodies, o) })

    tight : fits R (apply (body b cs) x) ≡ true
        → (3 * corners_in m + 3 * length cs ≤ R.elements.corners) × (9 * length m.elements + 9 ≤ R.elements.elements) × (9 * bodies_before m + 9 ≤ R.bodies.bodies) × (4 * bodies_before m + 4 ≤ R.bodies.ranges)
    tight y =
        let v = fits-parts R (apply (body b cs) x) y in
        (omega (arith, v.elements.corners), omega (arith, v.elements.elements), omega (arith, v.bodies.bodies), omega (arith, v.bodies.ranges))

    used-after : (k : Free) (count : ℕ) → b.loops ≡ [] → count ≡ length cs → (one_body k count c).used ≡ used_in (apply (body b cs) x)
    used-after k count l q =
        let o = no-parts b l in
        ap (λ (u : Used). record { v = u.v; vt = u.vt; vn = u.vn; vp = u.vp; corners = u.corners + 3 * count; elements = u.elements + 1; bodies = u.bodies + 1; parameters = u.parameters; loops = u.loops }) h.state.used
        ∙ rows (omega arith) (omega arith) (omega arith) (omega arith)
      where
        rows : {v vt vn vp c c' e e' b b' p l l' : ℕ} → c ≡ c' → e ≡ e' → b ≡ b' → l ≡ l'
            → ◌≡◌ {A = Used} (record { v = v; vt = vt; vn = vn; vp = vp; corners = c; elements = e; bodies = b; parameters = p; loops = l })
            (record { v = v; vt = vt; vn = vn; vp = vp; corners = c'; elements = e'; bodies = b'; parameters = p; loops = l' })
        rows a b c d = cc

  module _ (w : Word) (k : Free)
      (begins : rest_at s p ≡ push w (rest_at s at)) (keyword : carried_in (statement_of w.bytes) w.place ≡ fine (a-body k)) where
    pub body-next : (l g : List ℕ) (z : List ℤ) (count q : ℕ) → TakenBody k c.used c.names c.form t.vertices.vp s at t.elements.corners l t.elements.elements g (length t.bodies.bodies) t.bodies.ranges z count q
        → NextLine R s p read x (one_body k count c) (range_stored z (element_stored l g t)) q × (q ≡ (rest_at s p).next)
    body-next l g z count q v =
        let cs : List Corner = v.found in
        let b : Body = opened_body k f v.range in
        let e : Element = record { kind = free b; corners = cs; names = n } in
        let bs : List Body = bodies_of m.elements in
        let r = rest_at s at in
        let pv = taken-parse k x c.used c.form t.vertices.vp h.state.used h.state.form (given R s x c t read h) r v.range cs q refl v.said in
        let parsed = pv.parsed w.place in
        let fresh = (line_small (a-body k) x w.place r.words (body b cs) (line_of (a-body k) x w.place r.words (body b cs) parsed)).0 in
        let o = of-body (form_in_force k c.form) (numbers_walk (range_words k) r) (controls_said k c.used t.vertices.vp) v.range cs q v.said in
        let counted : length v.range ≡ range_words k = full-count (range_words k) r.words r.bad r.next v.range o.rest o.walked in
        let cu = corners-used R s m n f c t h in
        let eu = elements-used R s m n f c t h in
        let bu = bodies-used in
        let cr : 3 * corners_in m + 3 * length cs ≤ R.elements.corners = (let a = v.corners-room in let d = v.counted in let i = corners-lent R s m n f c t h in omega arith) in
        let er : 9 * length m.elements + 9 ≤ R.elements.elements = (let a = v.elements-room in let i = elements-lent R s m n f c t h in omega arith) in
        let br : 9 * bodies_before m + 9 ≤ R.bodies.bodies = (let a = v.bodies-room in let i = bodies-lent in omega arith) in
        let rr : 4 * bodies_before m + 4 ≤ R.bodies.ranges = (let a = v.ranges-room in let i = ranges-lent in omega arith) in
        let fit : fits R (apply (body b cs) x) ≡ true = roomy b cs fresh.3 cr er br rr in
        let place : c.used.bodies ≡ length bs = bu ∙ sym (bodies-length m.elements) in
        let kind : free_number k ≡ free_number b.free = ap free_number (sym (free-is k f v.range)) in
        let row : element_numbers (stored_element (free_number k) c.used.corners count (c.used.bodies + 1) c.names) ≡ element_row (3 * corners_in m) (bodies_before m) e =
        ap₂ (λ (i j : ℕ). element_numbers (stored_element i j count (c.used.bodies + 1) c.names)) kind cu
        ∙ ap₂ (λ (i j : ℕ). element_numbers (stored_element (free_number b.free) (3 * corners_in m) i j c.names)) v.counted (let d : c.used.bodies + 1 ≡ suc (bodies_before m) = omega arith in d)
        ∙ ap (λ (a : Names). element_numbers (stored_element (free_number b.free) (3 * corners_in m) (length cs) (suc (bodies_before m)) a)) h.state.names in
        let l' : l ≡ sets (image_of R x).elements.corners (3 * corners_in m) (flat corner_row cs) =
        v.corners-stored ∙ ap₂ (λ (a : List ℕ) (i : ℕ). sets a i (flat corner_row cs)) (ap (λ (a : Tables). a.elements.corners) h.image) cu in
        let g' : g ≡ sets (image_of R x).elements.elements (9 * length m.elements) (element_row (3 * corners_in m) (bodies_before m) e) =
        v.elements-stored ∙ ap₂ (λ (i : ℕ) (r : List ℕ). sets t.elements.elements (9 * i) r) eu row ∙ ap (λ (a : Tables). sets a.elements.elements (9 * length m.elements) (element_row (3 * corners_in m) (bodies_before m) e)) h.image in
        let z' : z ≡ filled R.bodies.ranges (pos 0) (flat range_row (bs ++ b ∷ [])) =
        v.ranges-stored ∙ ap₂ (λ (a : List ℤ) (i : ℕ). sets a (4 * i) v.range) ranges-are place
        ∙ range-kept R.bodies.ranges bs k f v.range counted (let d = bodies-length m.elements in omega arith) in
        let im : range_stored z (element_stored l g t) ≡ image_of R (apply (body b cs) x) =
        ap₂ (λ (a b : List ℕ). range_stored z (element_stored a b t)) l' g'
        ∙ ap (λ (a : Tables). range_stored z (element_stored (sets (image_of R x).elements.corners (3 * corners_in m) (flat corner_row cs)) (sets (image_of R x).elements.elements (9 * length m.elements) (element_row (3 * corners_in m) (bodies_before m) e)) a)) h.image
        ∙ body-image R m n f b cs z fresh.3 z' cr er in (
          record {
            after = apply (body b cs) x;
            said = line-fine R s p at x w (a-body k) begins keyword (body b cs) pv.bad parsed fit;
            holds = record {
              state = record {
                used = used-after b cs k count fresh.3 v.counted;
                curves = h.state.curves;
                names = h.state.names;
                form = h.state.form;
                open-body = record { kind = kind; controls = v.counted; parts = sym (no-parts b fresh.3); u = no-parm s b.us fresh.1; v = no-parm s b.vs fresh.2 };
              };
              image = im;
              wide = h.wide;
              room = fit;
              bounded = subst (λ (i : ℕ). Bounded (read + (i - p)) (apply (body b cs) x)) pv.next (line-bounded R s p at x w (a-body k) begins keyword (body b cs) parsed h.bounded);
              body = begun k f v.range cs n;
            };
          },
          sym (next-is R s p at x w (a-body k) begins keyword ∙ pv.next),
        )

    pub body-roomless : (l g : List ℕ) (z : List ℤ) → NoBody k c.used c.form t.vertices.vp s at t.elements.corners l t.elements.elements g (length t.bodies.bodies) t.bodies.ranges z → (rest_at s at).bad ≡ none
        → (u : Statement) → parse (a-body k) x w.place (rest_at s at).words ≡ fine u → line_says R s p x ≡ fault 14 w.place
    body-roomless l g z v b u e =
        let y = parse-said k x c.used c.form t.vertices.vp h.state.used h.state.form (given R s x c t read h) (rest_at s at) w.place u b e in
        let cs : List Corner = y.corners in
        let short = v.short y.range cs (rest_at s at).next y.said in
        let cu = corners-used R s m n f c t h in
        let eu = elements-used R s m n f c t h in
        let bu = bodies-used in
        let cl = corners-lent R s m n f c t h in
        let el = elements-lent R s m n f c t h in
        let bl = bodies-lent in
        let rl = ranges-lent in
        let full : fits R (apply u x) ≡ false =
        ⊎_elim (λ (j : fits R (apply u x) ≡ true).
        let i = tight (opened_body k f y.range) cs (ap (λ (a : Statement). fits R (apply a x)) (sym y.is) ∙ j) in
        let i0 = i.0 in
        let i1 = i.1 in
        let i2 = i.2 in
        let i3 = i.3 in
        absurd (⊎_elim (λ q. ⊎_elim (λ r. omega arith) (λ r. omega arith) q) (λ q. ⊎_elim (λ r. omega arith) (λ r. omega arith) q) short)) (λ f. f) (test (fits R (apply u x))) in
        line-roomless R s p at x w (a-body k) begins keyword u b e full
