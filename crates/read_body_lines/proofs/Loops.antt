-- A trim or hole line: its parts follow those before them, and what has no room for them is 14.
use Prim.Native.Nat.{ℕ, ◌+◌, ◌*◌, ◌-◌, ◌≤◌}
use mathlib.Core.Path.{◌≡◌, refl, sym, ap, ap₂, ◌∙◌, subst}
use mathlib.Core.List.{List, [], ◌∷◌, ◌++◌}
use mathlib.Core.Bool.{Bool, true, false}
use mathlib.Core.Option.{none, some}
use mathlib.Core.Logic.{⊎_elim}
use native.Mathlib.Omega.{arith}
use lib.ListN.{length}
use lib.Seq.{sets}
use lib.IntN.{ℤ, pos}
use Rattle.lists.specs.Lists.{flat}
use Rattle.lists.proofs.Tests.{test}
use Rattle.text.specs.Words.{Word}
use Rattle.text.specs.Rest.{rest_at, push}
use Rattle.tables.specs.Tables.{Tables}
use Rattle.tables.specs.declared.Used.{Used}
use Rattle.tables.proofs.Filled.{length-filled}
use Rattle.keywords.specs.Keywords.{statement_of}
use Rattle.model.specs.Model as model
use Rattle.model.specs.Model.{Part, Loop, Model, Open}
use Rattle.model.specs.Statements.{Statement, loop, with_loop, apply}
use Rattle.model.specs.Parse.{fine, fault, is_surface, parse}
use Rattle.model.specs.Room.{Rooms, summed, part_count, loop_part_count, fits}
use Rattle.model.specs.Layout.{loop_row, loop_rows, span_row, span_rows, bodies_of}
use Rattle.model.specs.Read.{carried_in}
use Rattle.read_state.specs.declared.State.{State}
use Rattle.read_state.specs.State.{StateIs, used_in}
use Rattle.read_state.specs.Image.{image_of}
use Rattle.model.proofs.Rows.{summed-append, loop_rows-length, span_rows-length, bodies-summed}
use Rattle.read_state.specs.Bounds.{Bounded}
use Rattle.read_state.specs.Changed.{state, loops_stored}
use Rattle.read_state.proofs.Images.{loop-image}
use Rattle.model.proofs.Rooms.{fits-parts, parts-fit}
use Rattle.model.proofs.Parsed.{fine-is}
use Rattle.read_bodies.specs.Loops.{loop_parts, parts_at, LoopLine, LoopTaken, LoopLeft}
use Rattle.read_bodies.specs.Loops.{loop_word}
use Rattle.read_bodies.proofs.Says.{loop-says, loop-only}
use Rattle.read_body_lines.specs.OpenBody.{looped}
use Rattle.read_vertex_lines.specs.Holding.{Holds, NextLine, line_says}
use Rattle.read_vertex_lines.proofs.Steps.{line-fine, line-roomless, line-bounded, next-is}

module _ (R : Rooms) (s : List ℕ) (p at : ℕ) {read : ℕ} (m : Model) (n : model.Names) (f : model.Form) (o : Open) (c : State) (t : Tables) (h : Holds R s (state m n f (some o)) c t read) where
  abbrev x : model.State
  x = state m n f (some o)

  -- the parts before the line, counted in bodies and in elements
  abbrev pub before : ℕ
  before = summed part_count (bodies_of m.elements) + part_count o.body

  before-is : loop_part_count x ≡ before
  before-is = ap (λ (i : ℕ). i + part_count o.body) (sym (bodies-summed part_count m.elements))

  pub used-loops : c.used.loops ≡ before
  used-loops = ap (λ (u : Used). u.loops) h.state.used ∙ before-is

  all-parts : summed part_count (bodies_of m.elements ++ o.body ∷ []) ≡ before
  all-parts = summed-append part_count (bodies_of m.elements) (o.body ∷ []) ∙ (let e : summed part_count (bodies_of m.elements) + (part_count o.body + 0) ≡ summed part_count (bodies_of m.elements) + part_count o.body = omega arith in e)

  loops-lent : length t.bodies.loops ≡ R.bodies.loops
  unfolding image_of
  loops-lent =
      let r = (fits-parts R x h.room).bodies.loops in
      let l = loop_rows-length (bodies_of m.elements ++ o.body ∷ []) in
      let a = all-parts in
      let b = before-is in
      ap (λ (u : Tables). length u.bodies.loops) h.image ∙ length-filled R.bodies.loops 0 (flat loop_rows (bodies_of m.elements ++ o.body ∷ [])) (omega arith)

  spans-lent : length t.bodies.spans ≡ R.bodies.spans
  unfolding image_of
  spans-lent =
      let r = (fits-parts R x h.room).bodies.spans in
      let l = span_rows-length (bodies_of m.elements ++ o.body ∷ []) in
      let a = all-parts in
      let b = before-is in
      ap (λ (u : Tables). length u.bodies.spans) h.image ∙ length-filled R.bodies.spans (pos 0) (flat span_rows (bodies_of m.elements ++ o.body ∷ [])) (omega arith)

  module _ (l : Loop) where
    more : part_count (with_loop l o.body) ≡ part_count o.body + length l.parts
    more = summed-append (λ l. length l.parts) o.body.loops (l ∷ []) ∙ (let e : part_count o.body + (length l.parts + 0) ≡ part_count o.body + length l.parts = omega arith in e)

    count-after : loop_part_count (apply (loop l) x) ≡ before + length l.parts
    count-after =
        let a = more in
        let b = before-is in
        omega arith

    roomy : 2 * before + 2 * length l.parts ≤ R.bodies.loops → 2 * before + 2 * length l.parts ≤ R.bodies.spans → fits R (apply (loop l) x) ≡ true
    roomy a b =
        let w = fits-parts R x h.room in
        let q = count-after in
        parts-fit R (apply (loop l) x) (record { vertices = w.vertices; elements = w.elements; bodies = omega arith })

    tight : fits R (apply (loop l) x) ≡ true → (2 * before + 2 * length l.parts ≤ R.bodies.loops) × (2 * before + 2 * length l.parts ≤ R.bodies.spans)
    tight y =
        let w = fits-parts R (apply (loop l) x) y in
        let q = count-after in
        (omega (arith, w.bodies.loops), omega (arith, w.bodies.spans))

    state-after : (k : ℕ) → k ≡ length l.parts → StateIs s (apply (loop l) x) (looped k c)
    state-after k e =
        record {
          used = counts h.state.used (let a = used-loops in let b = count-after in omega arith);
          curves = h.state.curves;
          names = h.state.names;
          form = h.state.form;
          open-body = record { kind = h.state.open-body.kind; controls = h.state.open-body.controls; parts = (let a = more in let b = h.state.open-body.parts in omega arith); u = h.state.open-body.u; v = h.state.open-body.v };
        }
      where
        counts : c.used ≡ used_in x → c.used.loops + k ≡ loop_part_count (apply (loop l) x) → (looped k c).used ≡ used_in (apply (loop l) x)
        counts u q = ap (λ (y : Used). record { v = y.v; vt = y.vt; vn = y.vn; vp = y.vp; corners = y.corners; elements = y.elements; bodies = y.bodies; parameters = y.parameters; loops = c.used.loops + k }) u ∙ ap (λ (i : ℕ). record { v = (used_in x).v; vt = (used_in x).vt; vn = (used_in x).vn; vp = (used_in x).vp; corners = (used_in x).corners; elements = (used_in x).elements; bodies = (used_in x).bodies; parameters = (used_in x).parameters; loops = i }) q

  module _ (surface : is_surface o.body.free ≡ true) (w : Word) (hole : Bool) (begins : rest_at s p ≡ push w (rest_at s at))
      (keyword : carried_in (statement_of w.bytes) w.place ≡ fine (loop_word hole)) where
    pub loop-next : (a : List ℕ) (b : List ℤ) (k q : ℕ) → LoopTaken s at hole c.curves c.used.loops t.bodies.loops a t.bodies.spans b k q
        → NextLine R s p read x (looped k c) (loops_stored a b t) q × (q ≡ (rest_at s p).next)
    loop-next a b k q v =
        let ps : List Part = parts_at c.curves s at in
        let l : Loop = record { hole = hole; parts = ps } in
        let line : LoopLine (model.curves m.elements) (rest_at s at) ps = subst (λ (i : ℕ). LoopLine i (rest_at s at) ps) h.state.curves v.line in
        let parsed = loop-says x o refl surface w.place (rest_at s at) hole line in
        let e = used-loops in
        let k-is = v.count in
        let r1 : 2 * before + 2 * length ps ≤ R.bodies.loops = (let i = v.room in let j = loops-lent in omega arith) in
        let r2 : 2 * before + 2 * length ps ≤ R.bodies.spans = (let i = v.room-spans in let j = spans-lent in omega arith) in
        let room = roomy l r1 r2 in
        let a' : a ≡ sets (image_of R x).bodies.loops (2 * before) (loop_row l) = v.stored ∙ ap₂ (λ (u : List ℕ) (i : ℕ). sets u (2 * i) (loop_row l)) (ap (λ (u : Tables). u.bodies.loops) h.image) e in
        let b' : b ≡ sets (image_of R x).bodies.spans (2 * before) (flat span_row ps) = v.stored-spans ∙ ap₂ (λ (u : List ℤ) (i : ℕ). sets u (2 * i) (flat span_row ps)) (ap (λ (u : Tables). u.bodies.spans) h.image) e in (
          record {
            after = apply (loop l) x;
            said = line-fine R s p at x w (loop_word hole) begins keyword (loop l) v.line.good parsed room;
            holds = record {
              state = state-after l k k-is;
              image = ap₂ (λ (i : List ℕ) (j : List ℤ). loops_stored i j t) a' b' ∙ ap (λ (u : Tables). loops_stored (sets (image_of R x).bodies.loops (2 * before) (loop_row l)) (sets (image_of R x).bodies.spans (2 * before) (flat span_row ps)) u) h.image ∙ loop-image R m n f l o r1 r2;
              wide = h.wide;
              room = room;
              bounded = subst (λ (j : ℕ). Bounded (read + (j - p)) (apply (loop l) x)) (sym v.next) (line-bounded R s p at x w (loop_word hole) begins keyword (loop l) parsed h.bounded);
              body = record { numbers = h.body.numbers; basis-is = h.body.basis-is; rational-is = h.body.rational-is; degree-u-is = h.body.degree-u-is; degree-v-is = h.body.degree-v-is; start-u-is = h.body.start-u-is; end-u-is = h.body.end-u-is; start-v-is = h.body.start-v-is; end-v-is = h.body.end-v-is };
            };
          },
          v.next ∙ sym (next-is R s p at x w (loop_word hole) begins keyword),
        )

    pub loop-roomless : (a : List ℕ) (b : List ℤ) → LoopLeft s at c.curves c.used.loops t.bodies.loops a t.bodies.spans b → (rest_at s at).bad ≡ none
        → (u : Statement) → parse (loop_word hole) x w.place (rest_at s at).words ≡ fine u → line_says R s p x ≡ fault 14 w.place
    loop-roomless a b v good u e =
        let ps : List Part = loop_parts (model.curves m.elements) (rest_at s at).words in
        let l : Loop = record { hole = hole; parts = ps } in
        let line : LoopLine (model.curves m.elements) (rest_at s at) ps = loop-only x o refl surface w.place (rest_at s at) hole u good e in
        let is : u ≡ loop l = fine-is (sym e ∙ loop-says x o refl surface w.place (rest_at s at) hole line) in
        let short = v.short ps (subst (λ (i : ℕ). LoopLine i (rest_at s at) ps) (sym h.state.curves) line) in
        let d = used-loops in
        let i = loops-lent in
        let j = spans-lent in
        let full : fits R (apply u x) ≡ false =
        ⊎_elim (λ (y : fits R (apply u x) ≡ true).
        let z = tight l (ap (λ (q : Statement). fits R (apply q x)) (sym is) ∙ y) in
        let z0 = z.0 in
        let z1 = z.1 in
        absurd (⊎_elim (λ q. omega arith) (λ q. omega arith) short)) (λ y. y) (test (fits R (apply u x))) in
        line-roomless R s p at x w (loop_word hole) begins keyword u good e full
