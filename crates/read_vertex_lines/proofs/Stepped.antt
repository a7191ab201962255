-- From what `take_vertex` answers to the step of its line: laws over plain variables, one for each way out.
use Prim.Native.Nat.{ℕ, ◌+◌, ◌*◌, ◌≤◌, ◌<◌}
use mathlib.Core.Path.{◌≡◌, refl, sym, ap, ◌∙◌, subst}
use mathlib.Core.Bool.{true, false}
use mathlib.Core.List.{List}
use native.Mathlib.Omega.{arith}
use lib.ListN.{length, get_or}
use lib.IntN.{ℤ, pos}
use Rattle.text.specs.Rest.{rest_at}
use Rattle.statements.specs.Rules.{allowed_by}
use Rattle.statements.specs.Numbered.{free_numbered}
use Rattle.tables.specs.VertexTables.{VertexTables}
use Rattle.tables.specs.Tables.{Tables}
use Rattle.tables.specs.declared.Used.{Used}
use Rattle.model.specs.Model as model
use Rattle.model.specs.Model.{VertexKind, geometric, texture, normal, parametric, start}
use Rattle.model.specs.Parse.{a-vertex, rules_of}
use Rattle.model.specs.Standing.{outside_body}
use Rattle.model.specs.Room.{Rooms}
use Rattle.read_state.specs.declared.State.{State}
use Rattle.read_state.specs.Changed.{with_vertices, kind_stored, kind_in, table_of, row_stored}
use Rattle.read_vertices.specs.Vertex.{width, TakenVertex, NoVertex, VertexIs}
use Rattle.std.specs.Prelude.{Option as Answer, Some, None}
use Rattle.read_vertices.proofs.Parse.{taken-parse}
use Rattle.read_diagnosis.specs.Diagnosis.{GivenIn}
use Rattle.read_vertex_lines.specs.Bounds.{InBounds, Keeps}
use Rattle.read_vertex_lines.specs.Holding.{Holds, NextLine}
use Rattle.read_vertex_lines.specs.Stepping.{count_in, with_count, with_used, Step, accepted, rejected, StepIs, VertexInto, VertexStep}
use Rattle.read_vertex_lines.proofs.Opened.{no_body, before-parse, before-allowed, given-kept, left-barred}
use Rattle.read_vertex_lines.proofs.Bounds.{extent, one-vertex}
use Rattle.read_vertex_lines.proofs.Given.{given-in}
use Rattle.read_vertex_lines.proofs.Vertices.{vertex-next, vertex-roomless}

-- the vp that were there are there, whichever kind was stored past the used records
row-given : (k : VertexKind) (R : Rooms) (s : List ℕ) (x : model.State) (c : State) (t : Tables) (n : ℕ) → Holds R s x c t n → (m : List ℤ)
    → ((i : ℕ) → i < width k * count_in k c.used → get_or m i (pos 0) ≡ get_or (table_of k t) i (pos 0)) → GivenIn x.model.vertices.vp (row_stored k m t).vertices.vp
row-given geometric R s x c t p h m e = given-in R s x c t p h
row-given texture R s x c t p h m e = given-in R s x c t p h
row-given normal R s x c t p h m e = given-in R s x c t p h
row-given parametric R s x c t p h m e =
    let n : c.used.vp ≡ length x.model.vertices.vp = ap (λ (u : Used). u.vp) h.state.used in
    given-kept x.model.vertices.vp t.vertices.vp m (given-in R s x c t p h) (λ i b. e i (let q : i < 4 * c.used.vp = omega arith in q))

-- the step of a line whose vertex goes into the table l of its kind, which then holds m
abbrev RowStep : VertexKind → List ℕ → ℕ → State → List ℤ → List ℤ → Step → Type 0
RowStep k s at c l m r = (t : Tables) → table_of k t ≡ l → StepIs s at (a-vertex k) c t (row_stored k m t) r

module _ (k : VertexKind) (s : List ℕ) (at : ℕ) (c : State) (l : List ℤ) where
  pub vertex-open : allowed_by (rules_of (a-vertex k)).standing (free_numbered c.«open».kind) false ≡ false → RowStep k s at c l l rejected
  vertex-open f t g R p n x w b =
      left-barred R s p at n x c t (row_stored k l t) w (a-vertex k) b
      (row-given k R s x c t n b.holds l (λ i j. ap (λ (y : List ℤ). get_or y i (pos 0)) (sym g))) f

  module _ (n : ℕ) (e : n ≡ count_in k c.used) where
    module _ (m : List ℤ) (r : Answer ℕ) (v : VertexIs k s at n l m r) where
      pub vertex-gave : r ≡ None → RowStep k s at c l m rejected
      vertex-gave g t y R p read x w b =
          let no-vertex : NoVertex k s at (count_in k c.used) (table_of k t) m =
          subst (λ (a : List ℤ). NoVertex k s at (count_in k c.used) a m) (sym y) (subst (λ (i : ℕ). NoVertex k s at i l m) e (subst (VertexIs k s at n l m) g v)) in
          let ws = (rest_at s at).words in
          record {
            given = row-given k R s x c t read b.holds m no-vertex.before;
            roomless = λ good u f.
                vertex-roomless R s p at read x c t b.holds w k b.begins b.keyword (before-allowed x w.place ws (a-vertex k) u f) m no-vertex good u
                (sym (before-parse x w.place ws (a-vertex k) refl) ∙ f);
          }

      module _ (q : ℕ) (u : Used) (d : State) (g : r ≡ Some q) (i : u ≡ with_count k (n + 1) c.used) (j : d ≡ with_used u c) where
        after : d ≡ with_used (with_count k (count_in k c.used + 1) c.used) c
        after = j ∙ ap (λ (a : Used). with_used a c) (i ∙ ap (λ (z : ℕ). with_count k (z + 1) c.used) e)

        stored : TakenVertex k s at (count_in k c.used) l m q
        stored = subst (λ (i : ℕ). TakenVertex k s at i l m q) e (subst (VertexIs k s at n l m) g v)

        vertex-keeps : at ≤ length s → Keeps s at c d q
        vertex-keeps to p below b =
            let f : (rest_at s at).next ≡ q = (taken-parse k start (rest_at s at) stored.row q refl stored.said).next in
            let h = extent s at 0 q to f (omega arith) in
            let on = h.0 in
            subst (InBounds s q) (sym after) (one-vertex b h.1 k (omega arith))

        pub vertex-took : at ≤ length s → c.«open».kind ≡ 0 → RowStep k s at c l m (accepted d q)
        vertex-took to o t y = (
          vertex-keeps to,
          λ R p read x w b.
              let taken-there : TakenVertex k s at (count_in k c.used) (table_of k t) m q = subst (λ (a : List ℤ). TakenVertex k s at (count_in k c.used) a m q) (sym y) stored in
              let out : outside_body x.open-body ≡ true = ap outside_body (no_body s c.«open» x.open-body b.holds.state.open-body o) in
              subst (λ (a : State). NextLine R s p read x a (row_stored k m t) q × (q ≡ (rest_at s p).next)) (sym after)
              (vertex-next R s p at read x c t b.holds w k b.begins b.keyword out m q taken-there),
        )

-- ---- the tables lent on
pub none-stored : (k : VertexKind) (a : VertexTables) → a ≡ kind_stored k (kind_in k a) a
none-stored geometric a = refl
none-stored texture a = refl
none-stored normal a = refl
none-stored parametric a = refl

pub lent : (k : VertexKind) (s : List ℕ) (at : ℕ) (c : State) (a b : VertexTables) (r : Step)
    → b ≡ kind_stored k (kind_in k b) a → RowStep k s at c (kind_in k a) (kind_in k b) r → VertexStep k s at c a b r
lent k s at c a b r stored h t =
    subst (λ (u : VertexTables). StepIs s at (a-vertex k) c (with_vertices a t) (with_vertices u t) r) (sym stored) (h (with_vertices a t) refl)

-- what `take_vertex` answers, lent the table of the kind
module _ (s : List ℕ) (at n : ℕ) (r : Answer ℕ) (k : VertexKind) (a : VertexTables) (l : List ℤ) where
  pub into : (j : VertexKind) → k ≡ j → VertexIs k s at n (kind_in j a) l r → VertexInto k s at n a (kind_stored j l a) r
  into geometric e = subst (λ (k : VertexKind). VertexIs k s at n a.v l r → VertexInto k s at n a (kind_stored geometric l a) r) (sym e) (λ h. (h, refl))
  into texture e = subst (λ (k : VertexKind). VertexIs k s at n a.vt l r → VertexInto k s at n a (kind_stored texture l a) r) (sym e) (λ h. (h, refl))
  into normal e = subst (λ (k : VertexKind). VertexIs k s at n a.vn l r → VertexInto k s at n a (kind_stored normal l a) r) (sym e) (λ h. (h, refl))
  into parametric e = subst (λ (k : VertexKind). VertexIs k s at n a.vp l r → VertexInto k s at n a (kind_stored parametric l a) r) (sym e) (λ h. (h, refl))
