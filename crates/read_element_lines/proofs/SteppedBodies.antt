-- From what `take_body_line` answers to the step of its line: laws over plain variables, one for each way out.
use Prim.Native.Nat.{ℕ, ◌≤◌}
use mathlib.Core.Path.{◌≡◌, refl, sym, ◌∙◌, subst}
use mathlib.Core.List.{List}
use mathlib.Core.Bool.{false}
use mathlib.Core.Option.{Option, none, some}
use native.Mathlib.Omega.{arith}
use lib.ListN.{length}
use lib.IntN.{ℤ}
use Rattle.text.specs.Words.{Word}
use Rattle.text.specs.Rest.{rest_at}
use Rattle.statements.specs.Rules.{allowed_by}
use Rattle.statements.specs.Numbered.{free_numbered}
use Rattle.tables.specs.ElementTables.{ElementTables, element_tables}
use Rattle.tables.specs.Tables.{Tables}
use Rattle.model.specs.Model as model
use Rattle.model.specs.Model.{Free, Model, Open}
use Rattle.model.specs.Parse.{a-body, rules_of}
use Rattle.model.specs.Room.{Rooms}
use Rattle.read_state.specs.declared.State.{State}
use Rattle.read_state.specs.Changed.{state, element_stored, range_stored}
use Rattle.read_elements.specs.Bodies.{TakenBody, NoBody, BodyIs}
use Rattle.read_vertices.proofs.Closed.{nothing}
use Rattle.std.specs.Prelude.{Option as Answer, Some, None}
use Rattle.text.specs.declared.Parsed.{Parsed}
use Rattle.read_vertex_lines.specs.Bounds.{InBounds}
use Rattle.read_vertex_lines.specs.Holding.{NextLine}
use Rattle.read_element_lines.specs.Counting.{one_body}
use Rattle.read_vertex_lines.specs.Stepping.{accepted, rejected, Began, Left, BodyStep}
use Rattle.read_element_lines.proofs.Counts.{body-few, counts-fit, body-keeps}
use Rattle.read_vertex_lines.proofs.Opened.{no_body, before-parse, left-barred}
use Rattle.read_vertex_lines.proofs.Given.{given-in}
use Rattle.read_element_lines.proofs.Bodies.{body-next, body-roomless}

module _ (k : Free) (s : List ℕ) (at : ℕ) (c : State) (vp : List ℤ) (l m e f : List ℕ) (bodies : ℕ) (y z : List ℤ) where
  pub body-inside : allowed_by (rules_of (a-body k)).standing (free_numbered c.«open».kind) false ≡ false → BodyStep k s at c vp (element_tables l e) (element_tables m f) bodies y z rejected
  body-inside o t i₁ i₂ i₃ i₄ R p read x w b =
      left-barred R s p at read x c t (range_stored z (element_stored m f t)) w (a-body k) b (given-in R s x c t read b.holds) o

  abbrev Answered : Answer (Parsed ℕ) → Type 0
  Answered = BodyIs k c.used c.names c.form vp s at l m e f bodies y z

  module _ (out : c.«open».kind ≡ 0) where
    gave : NoBody k c.used c.form vp s at l m e f bodies y z
        → (t : Tables) → t.vertices.vp ≡ vp → t.elements ≡ element_tables l e → length t.bodies.bodies ≡ bodies → t.bodies.ranges ≡ y
        → (R : Rooms) (p read : ℕ) (mo : Model) (n : model.Names) (fo : model.Form) (o : Option Open) (w : Word) → Began R s p at read (state mo n fo o) c t w (a-body k)
        → Left R s p at (state mo n fo o) (range_stored z (element_stored m f t)) w (a-body k)
    gave v t i₁ i₂ i₃ i₄ R p read mo n fo (some o) w b = nothing (sym (no_body s c.«open» (some o) b.holds.state.open-body out))
    gave v t i₁ i₂ i₃ i₄ R p read mo n fo none w b =
        let v' : NoBody k c.used c.form t.vertices.vp s at t.elements.corners m t.elements.elements f (length t.bodies.bodies) t.bodies.ranges z =
        rw (i₁, i₃, i₄) (subst (λ (a : ElementTables). NoBody k c.used c.form vp s at a.corners m a.elements f bodies y z) (sym i₂) v) in
        record {
          given = given-in R s (state mo n fo none) c t read b.holds;
          roomless = λ g u h. body-roomless R s p at mo n fo c t b.holds w k b.begins b.keyword m f z v' g u (sym (before-parse (state mo n fo none) w.place (rest_at s at).words (a-body k) refl) ∙ h);
        }

    pub body_gave : (r : Answer (Parsed ℕ)) → Answered r → r ≡ None → BodyStep k s at c vp (element_tables l e) (element_tables m f) bodies y z rejected
    body_gave r v g t i₁ i₂ i₃ i₄ R p read x w b = gave (subst Answered g v) t i₁ i₂ i₃ i₄ R p read x.model x.names x.form x.open-body w b

    module _ (count q : ℕ) where
      took : TakenBody k c.used c.names c.form vp s at l m e f bodies y z count q
          → (t : Tables) → t.vertices.vp ≡ vp → t.elements ≡ element_tables l e → length t.bodies.bodies ≡ bodies → t.bodies.ranges ≡ y
          → (R : Rooms) (p read : ℕ) (mo : Model) (n : model.Names) (fo : model.Form) (o : Option Open) (w : Word) → Began R s p at read (state mo n fo o) c t w (a-body k)
          → NextLine R s p read (state mo n fo o) (one_body k count c) (range_stored z (element_stored m f t)) q × (q ≡ (rest_at s p).next)
      took v t i₁ i₂ i₃ i₄ R p read mo n fo (some o) w b = nothing (sym (no_body s c.«open» (some o) b.holds.state.open-body out))
      took v t i₁ i₂ i₃ i₄ R p read mo n fo none w b =
          let v' : TakenBody k c.used c.names c.form t.vertices.vp s at t.elements.corners m t.elements.elements f (length t.bodies.bodies) t.bodies.ranges z count q =
          rw (i₁, i₃, i₄) (subst (λ (a : ElementTables). TakenBody k c.used c.names c.form vp s at a.corners m a.elements f bodies y z count q) (sym i₂) v) in
          body-next R s p at mo n fo c t b.holds w k b.begins b.keyword m f z count q v'

      module _ (r : Answer (Parsed ℕ)) (v : Answered r) (g : r ≡ Some (record { value = count; next = q })) where
        found : ((rest_at s at).next ≡ q) × (count ≤ length (rest_at s at).words)
        found =
            let taken : TakenBody k c.used c.names c.form vp s at l m e f bodies y z count q = subst Answered g v in
            let w = body-few k c.used c.form vp (rest_at s at) taken.range taken.found q taken.said in
            let is = taken.counted in
            let few = w.1 in
            (w.0, omega arith)

        pub body-fits : InBounds s at c → (count ≤ 16777216) × (c.used.corners ≤ 50331648) × (c.used.elements ≤ 16777216) × (c.used.bodies ≤ 16777216)
        body-fits b = counts-fit s at q count found.0 found.1 c b

        pub body-took : at ≤ length s → (d : State) → d ≡ one_body k count c → BodyStep k s at c vp (element_tables l e) (element_tables m f) bodies y z (accepted d q)
        body-took to d h t i₁ i₂ i₃ i₄ = (
          λ p below b. subst (InBounds s q) (sym h) (body-keeps s at q count found.0 found.1 c to k p below b),
          λ R p read x w b.
              subst (λ (a : State). NextLine R s p read x a (range_stored z (element_stored m f t)) q × (q ≡ (rest_at s p).next)) (sym h)
              (took (subst Answered g v) t i₁ i₂ i₃ i₄ R p read x.model x.names x.form x.open-body w b),
        )
