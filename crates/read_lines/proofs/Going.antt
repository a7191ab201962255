-- The loop over lines: what is left of the text comes, from the state so far, to what all of it comes to.
use Prim.Native.Nat.{ℕ, ◌+◌, ◌*◌, ◌-◌, ◌≤◌, ◌<◌}
use mathlib.Core.Path.{◌≡◌, refl, sym, ap, ap₂, ◌∙◌, subst}
use mathlib.Core.List.{List, append-nil}
use mathlib.Core.Option.{Option, none}
use native.Mathlib.Omega.{arith}
use borrow.Author.Tests.{le-leb, lt-leb}
use lib.ListN.{length}
use Rattle.lists.specs.Lists.{flat}
use Rattle.text.specs.Rest.{rest_at, lines_at}
use Rattle.text.proofs.LineByLine.{lines_start, lines-on, lines_end, line-words, line-bad, next-ahead, next-to}
use Rattle.tables.specs.Tables.{Tables}
use Rattle.tables.specs.declared.Used.{Used}
use Rattle.model.specs.Model as model
use Rattle.model.specs.Model.{Element, start}
use Rattle.model.specs.Parse.{unless}
use Rattle.model.specs.Room.{Rooms, summed, of_kind, part_count}
use Rattle.model.specs.Read.{read, refused, step, finish, on_parsed, read_lines, read_of}
use Rattle.model.specs.Layout.{tables_of, used_of, bodies_of}
use Rattle.read_state.specs.declared.State.{State}
use Rattle.read_state.specs.State.{used_in}
use Rattle.read_state.specs.Image.{image_of}
use Rattle.model.proofs.Rows.{bodies-length, bodies-summed}
use Rattle.model.proofs.Rooms.{parts-fit}
use Rattle.read_lines.specs.Answered.{read_answer, rooms_of, answered}
use Rattle.read_vertex_lines.specs.Bounds.{InBounds}
use Rattle.read_vertex_lines.specs.Holding.{Holds, line_says, WithinLimit}
use Rattle.read_vertex_lines.proofs.Opened.{no_body, some-body}
use Rattle.read_vertex_lines.proofs.Bounds.{none-waiting}
use Rattle.std.specs.Prelude.{Ok, Err}
use Rattle.refusals.specs.declared.Refusal.{Refusal}
use Rattle.refusals.specs.Reasons.{reason_number}
use Rattle.text.specs.declared.Parsed.{Parsed}
use Rattle.read_dispatch.specs.Taking.{LineIs}
use Rattle.read_lines.specs.Lines.{begin}

-- ---- at the start
pub begins : (R : Rooms) (s : List ℕ) → Holds R s start begin (tables_of R start.model) 0
unfolding image_of tables_of
begins R s =
    record {
      state = record { used = refl; curves = refl; names = refl; form = refl; open-body = refl };
      image = refl;
      wide = record { rows = λ k. rows k; counts = tt };
      room = parts-fit R start (record { vertices = omega arith; elements = omega arith; bodies = omega arith });
      bounded = record { v = omega arith; vt = omega arith; vn = omega arith; vp = omega arith; corners = omega arith; elements = omega arith; bodies = omega arith; parameters = omega arith; parts = omega arith };
      body = tt;
    }
  where
    rows : (k : model.VertexKind) → length (flat Rattle.model.specs.Layout.itself (Rattle.read_state.specs.Changed.rows_of k start.model.vertices)) ≡ Rattle.read_state.specs.Changed.width_of k * length (Rattle.read_state.specs.Changed.rows_of k start.model.vertices)
    rows model.geometric = refl
    rows model.texture = refl
    rows model.normal = refl
    rows model.parametric = refl

-- ---- between lines
pub record Going (R : Rooms) (s : List ℕ) (c : State) (t : Tables) (at : ℕ) : Type 0 where
  pub bounds : InBounds s at c
  pub now : model.State
  pub holds : Holds R s now c t at
  pub same : read_lines R (length s) (lines_at s 0) start ≡ read_lines R (length s) (lines_at s at) now

pub going_start : (R : Rooms) (s : List ℕ) → length s ≤ 16777216 → Going R s begin (tables_of R start.model) 0
going_start R s l = record { bounds = in_bounds; now = start; holds = begins R s; same = refl }
  where
    in_bounds : InBounds s 0 begin
    in_bounds =
        let none = none-waiting s in
        record {
          limit = l;
          to = omega arith;
          v = omega arith;
          vt = omega arith;
          vn = omega arith;
          vp = omega arith;
          corners = omega arith;
          elements = omega arith;
          bodies = omega arith;
          parameters = omega arith;
          loops = omega arith;
          curves-few = omega arith;
          parts = omega arith;
          u-parm = omega arith;
          v-parm = omega arith;
          body = λ some. absurd (some refl);
        }

-- the line at `at` is the first of those left
on : (R : Rooms) (s : List ℕ) (at : ℕ) (x : model.State) → at < length s
    → read_lines R (length s) (lines_at s at) x ≡ on_parsed (line_says R s at x) (read_lines R (length s) (lines_at s (rest_at s at).next))
on R s at x h =
    ap (λ l. read_lines R (length s) l x) (lines-on s at h)
    ∙ ap₂ (λ (b : Option ℕ) (ws : List Rattle.text.specs.Words.Word). on_parsed (unless b 2 (step R x ws)) (read_lines R (length s) (lines_at s (rest_at s at).next))) (line-bad s at) (line-words s at)

module _ (R : Rooms) (s : List ℕ) (c : State) (t : Tables) (at : ℕ) (go : Going R s c t at) (h : at < length s) where
  few : WithinLimit s at at
  few =
      let a = next-ahead s at h in
      let b = (next-to s at (let g : at ≤ length s = omega arith in g)).1 in
      let l = go.bounds.limit in
      omega arith

  pub going_on : (u : Tables) (l : Parsed State) → LineIs s at c t u (Ok l) → (Going R s l.value u l.next) × (at < l.next)
  going_on u a l =
      let d = a.value in
      let q = a.next in
      let m = l.1 R at go.now few go.holds in
      let n = m.0 in
      let e : q ≡ (rest_at s at).next = m.1 in
      let a = next-ahead s at h in
      let f : read_lines R (length s) (lines_at s at) go.now ≡ read_lines R (length s) (lines_at s q) n.after =
      on R s at go.now h ∙ ap (λ p. on_parsed p (read_lines R (length s) (lines_at s (rest_at s at).next))) n.said ∙ ap (λ (k : ℕ). read_lines R (length s) (lines_at s k) n.after) (sym e) in
      let on : at < q = omega arith in
      let there : at + (q - at) ≡ q = omega arith in
      (record { bounds = l.0; now = n.after; holds = subst (Holds R s n.after d u) there n.holds; same = go.same ∙ f }, on)

  pub going-stops : (u : Tables) (r : Refusal) → LineIs s at c t u (Err r) → read_lines R (length s) (lines_at s 0) start ≡ refused (reason_number r.reason) r.place
  going-stops u r l =
      go.same ∙ on R s at go.now h ∙ ap (λ p. on_parsed p (read_lines R (length s) (lines_at s (rest_at s at).next))) (l R at go.now few go.holds)

-- ---- at the end
used-is : (x : model.State) → x.open-body ≡ none → used_in x ≡ used_of x.model
unfolding used_of
used-is x e =
    let es : List Element = x.model.elements in
    let b : length (bodies_of es) ≡ summed (λ e. of_kind (λ b. 1) e.kind) es = bodies-length es in
    let p : summed (λ b. length b.us + length b.vs) (bodies_of es) ≡ summed (λ e. of_kind (λ b. length b.us + length b.vs) e.kind) es = bodies-summed (λ b. length b.us + length b.vs) es in
    let l : summed part_count (bodies_of es) ≡ summed (λ e. of_kind part_count e.kind) es = bodies-summed part_count es in
    rw (e, b, p, l) (rows (omega arith) (omega arith) (omega arith) (omega arith))
  where
    rows : {v vt vn vp c c' e e' b b' p l l' : ℕ} → c ≡ c' → e ≡ e' → b ≡ b' → l ≡ l'
        → ◌≡◌ {A = Used} (record { v = v; vt = vt; vn = vn; vp = vp; corners = c; elements = e; bodies = b; parameters = p; loops = l })
        (record { v = v; vt = vt; vn = vn; vp = vp; corners = c'; elements = e'; bodies = b'; parameters = p; loops = l' })
    rows a b c d = cc

image-is : (R : Rooms) (x : model.State) → x.open-body ≡ none → image_of R x ≡ tables_of R x.model
unfolding image_of tables_of
image-is R x e =
    let es : List Element = x.model.elements in
    rw (e, append-nil es, append-nil (bodies_of es)) refl

module _ (T : Tables) (s : List ℕ) (c : State) (t : Tables) (at : ℕ) (go : Going (rooms_of T) s c t at) (h : length s ≤ at) where
  abbrev R : Rooms
  R = rooms_of T

  done : read_lines R (length s) (lines_at s 0) start ≡ finish (length s) go.now.open-body go.now.model
  done = go.same ∙ ap (λ l. read_lines R (length s) l go.now) (lines_end s at h)

  pub going-open : (c.«open».kind ≡ 0 → ⊥) → read_lines R (length s) (lines_at s 0) start ≡ refused 10 (length s)
  going-open f = done ∙ ap (λ (o : Option model.Open). finish (length s) o go.now.model) (some-body s c.«open» go.now.open-body go.holds.state.open-body f).1

  pub going-read : c.«open».kind ≡ 0 → read_answer (Ok c.used) t ≡ answered T (read_lines R (length s) (lines_at s 0) start)
  going-read z =
      let o : go.now.open-body ≡ none = no_body s c.«open» go.now.open-body go.holds.state.open-body z in
      let a : read_lines R (length s) (lines_at s 0) start ≡ read go.now.model = done ∙ ap (λ o. finish (length s) o go.now.model) o in
      ap₂ (λ (u : Used) (t : Tables). read_answer (Ok u) t) (go.holds.state.used ∙ used-is go.now o) (go.holds.image ∙ image-is R go.now o)
      ∙ ap (answered T) (sym a)

-- ---- the whole
pub read_short : (R : Rooms) (s : List ℕ) → length s ≤ 16777216 → read_of R s ≡ read_lines R (length s) (lines_at s 0) start
unfolding read_of
read_short R s h = rw (le-leb (length s) 16777216 h) (ap (λ l. read_lines R (length s) l start) (lines_start s))

pub read-long : (R : Rooms) (s : List ℕ) → 16777216 < length s → read_of R s ≡ refused 1 0
unfolding read_of
read-long R s h = rw (lt-leb (length s) 16777216 h) refl
